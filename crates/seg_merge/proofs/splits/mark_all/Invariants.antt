use Rattle.std.proofs.Common.{take}
use Rattle.seg_merge.specs.Splits.{AreMarked}
use Rattle.seg_merge.proofs.splits.mark_all.Given as goal

abbrev pub invariant-loop-group : goal.invariant-loop-group
invariant-loop-group l = AreMarked l.flags l.first l.known (take l.group-index l.groups) l.fn.split.items l.split.items
