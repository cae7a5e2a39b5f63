use Rattle.std.proofs.Common.{◌≡◌, map, ℕ, Option, None}
use Rattle.std.specs.List.{range_with_len}
use Rattle.seg_merge.proofs.splits.no_flags.Given as goal

abbrev pub invariant-loop-place : goal.invariant-loop-place
invariant-loop-place l = l.known.items ≡ map (λ (n : ℕ). let none : Option ℕ = None in none) (range_with_len 0 l._place)
