use Rattle.std.proofs.Common.{take}
use Rattle.seg_merge.specs.Uses.{AreSet}
use Rattle.seg_merge.proofs.uses.set_all.Given as goal

abbrev pub invariant-loop-group : goal.invariant-loop-group
invariant-loop-group l = AreSet l.wide (take l.group-index l.groups) l.fn.uses.items l.uses.items
