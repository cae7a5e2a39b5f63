-- Indices as object modules have them: they count from 1.
use Rattle.std.specs.Prelude.{ℕ, zero, suc, ◌≤◌, List, length, Option, None, slice_get}

-- The item with an index. There is none with index 0 or past the last.
abbrev pub item : {A : Type 0} → List A → ℕ → Option A
item xs zero = None
item xs (suc i) = slice_get xs i

-- An index of an item of the list.
abbrev pub IsIndex : {A : Type 0} → List A → ℕ → Type 0
IsIndex xs i = (1 ≤ i) × (i ≤ length xs)
