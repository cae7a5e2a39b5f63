use Rattle.std.proofs.Common.{map, length}
use Rattle.seg_merge.specs.Splits.{AreSplit, first_with_flags}
use Rattle.seg_merge.proofs.splits.splits_of.Given as goal

abbrev pub invariant-loop-place : goal.invariant-loop-place
invariant-loop-place l = AreSplit (length l.known) l.known (first_with_flags l.place (map (λ v. v.items) l.lists) l.flags) l.split.items
