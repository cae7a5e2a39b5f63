use Rattle.process_pages.proofs.Words.{All, AreApart, IsPlaced, List, Parts, residences_in, take, [], ◌≡◌}
use Rattle.process_pages.proofs.freeing.place_pages.Given as goal

abbrev pub invariant-loop-place : goal.invariant-loop-place
invariant-loop-place l =
    (residences_in l.residences ≡ residences_in l.initial.residences)
    × ((lib : List Parts) → AreApart (residences_in l.initial.residences) → All (IsPlaced lib []) l.initial.residences → All (IsPlaced lib (take l.place l.pages)) l.residences)
