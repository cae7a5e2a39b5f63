use Rattle.std.proofs.Common.{take}
use Rattle.seg_merge.specs.Splits.{AreFlagged}
use Rattle.seg_merge.proofs.splits.flag_all.Given as goal

abbrev pub invariant-loop-group : goal.invariant-loop-group
invariant-loop-group l = AreFlagged l.flags (take l.group-index l.groups) l.fn.known.items l.known.items
