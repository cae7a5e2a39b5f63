use Rattle.std.proofs.Common.{◌≡◌, ℕ, take}
use Rattle.implib_core.specs.NamePlaces.{places_in, places_from}
use Rattle.implib_core.proofs.places.Places.of.Given as goal

abbrev pub invariant-loop-place : goal.invariant-loop-place
invariant-loop-place l = (ordinal : ℕ) → places_in l.places ordinal ≡ places_from ordinal 0 (take l.place l.names)
