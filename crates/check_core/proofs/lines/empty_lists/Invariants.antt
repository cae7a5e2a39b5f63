use Rattle.std.proofs.Common.{◌≡◌, ℕ, map, length, [], slice_index_or}
use Rattle.check_core.specs.ToldItems.{line_shown}
use Rattle.check_core.proofs.lines.empty_lists.Given as goal

abbrev pub invariant-loop-front : goal.invariant-loop-front
invariant-loop-front l =
    (length l.lists.items ≡ l._front) × ((front : ℕ) → slice_index_or (map (λ v. map line_shown v.items) l.lists.items) front [] ≡ [])
