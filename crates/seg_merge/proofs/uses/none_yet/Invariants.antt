use Rattle.std.proofs.Common.{◌≡◌, map, ℕ, Option, None, Bool}
use Rattle.std.specs.List.{range_with_len}
use Rattle.seg_merge.proofs.uses.none_yet.Given as goal

abbrev pub invariant-loop-place : goal.invariant-loop-place
invariant-loop-place l = l.uses.items ≡ map (λ (n : ℕ). let none : Option Bool = None in none) (range_with_len 0 l._place)
