use Rattle.std.proofs.Common.{◌≡◌, map, ℕ, false}
use Rattle.std.specs.List.{range_with_len}
use Rattle.seg_merge.proofs.splits.no_marks.Given as goal

abbrev pub invariant-loop-place : goal.invariant-loop-place
invariant-loop-place l = l.split.items ≡ map (λ (n : ℕ). false) (range_with_len 0 l._place)
