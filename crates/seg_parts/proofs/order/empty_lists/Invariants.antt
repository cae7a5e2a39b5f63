use Rattle.std.proofs.Common.{◌≡◌, map, ℕ, List, []}
use Rattle.std.specs.List.{range_with_len}
use Rattle.seg_parts.proofs.order.empty_lists.Given as goal

abbrev pub invariant-loop-place : goal.invariant-loop-place
invariant-loop-place l = map (λ v. v.items) l.lists.items ≡ map (λ (n : ℕ). let none : List ℕ = [] in none) (range_with_len 0 l._place)
