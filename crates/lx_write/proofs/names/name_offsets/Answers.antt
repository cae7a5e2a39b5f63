use Rattle.std.proofs.Common.{◌∙◌}
use Rattle.lx_write.proofs.NameOffsets.{offsets_ended, offsets_whole}
use Rattle.lx_write.proofs.names.name_offsets.Goals as goal

pub returns : goal.returns
returns c =
    c.from_vec.ensures ∙ offsets_ended c.loop-name.offsets.items c.args.names.now c.loop-name.at c.loop-name.name-index c.loop-name-test.false c.loop-name.invariant
    ∙ offsets_whole c.args.names.now
