use Rattle.std.proofs.Common.{◌∙◌}
use Rattle.lx_read.proofs.WholeFiles.{found_sound, parts_are}
use Rattle.lx_read.proofs.reading.module_of.Goals as goal

pub of_parts-requires : goal.of_parts-requires
of_parts-requires c =
    let file = c.from_vec.ensures in
    rw file (found_sound c.args.file.items c.args.found c.requires.short c.requires.faultless c.requires.found)

pub returns : goal.returns
returns c =
    let file = c.from_vec.ensures in
    c.of_parts.ensures ∙ rw file (parts_are c.args.file.items c.args.found c.requires.found)
