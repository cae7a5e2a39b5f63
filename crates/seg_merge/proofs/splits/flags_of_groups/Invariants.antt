use Rattle.std.proofs.Common.{map}
use Rattle.seg_merge.specs.Splits.{HaveFlags, first_with_flags}
use Rattle.seg_merge.proofs.splits.flags_of_groups.Given as goal

abbrev pub invariant-loop-place : goal.invariant-loop-place
invariant-loop-place l = HaveFlags l.count (first_with_flags l.place (map (λ v. v.items) l.lists) l.flags) l.known.items
