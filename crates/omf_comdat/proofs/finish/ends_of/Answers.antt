use Rattle.std.proofs.Common.{◌+◌, ◌∙◌, rules}
use Rattle.obj_types.specs.declared.parts.TheConstants.{COMDAT_BASE}
use Rattle.omf_comdat.proofs.Ends.{no-ends}
use Rattle.omf_comdat.proofs.finish.ends_of.Goals as goal

pub loop-piece-init : goal.loop-piece-init
loop-piece-init c = c.in_ok-ends.ensures.items_if_clones_equal (search rules) ∙ no-ends (COMDAT_BASE + 1) c.args.count
