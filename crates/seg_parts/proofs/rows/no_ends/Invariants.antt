use Rattle.std.proofs.Common.{◌≡◌, map, ℕ}
use Rattle.std.specs.List.{range_with_len}
use Rattle.seg_parts.proofs.rows.no_ends.Given as goal

abbrev pub invariant-loop-place : goal.invariant-loop-place
invariant-loop-place l = l.ends.items ≡ map (λ (n : ℕ). 0) (range_with_len 1 l._place)
