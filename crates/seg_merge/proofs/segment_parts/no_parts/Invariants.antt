use Rattle.std.proofs.Common.{◌≡◌, map, ℕ, List, []}
use Rattle.std.specs.List.{range_with_len}
use Rattle.link_model.specs.Parts.{Part}
use Rattle.seg_parts.specs.Parts.{shown}
use Rattle.seg_merge.proofs.segment_parts.no_parts.Given as goal

abbrev pub invariant-loop-place : goal.invariant-loop-place
invariant-loop-place l = map (λ v. map shown v.items) l.lists.items ≡ map (λ (n : ℕ). let none : List Part = [] in none) (range_with_len 0 l._place)
