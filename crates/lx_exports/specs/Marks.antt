-- Marks of numbers: which of them stand in a list.
use Rattle.std.specs.Prelude.{◌≡◌, ◌<◌, ◌≤◌, ◌+◌, ◌==◌, ◌||◌, not, ℕ, Bool, true, false, List, Option, Some, None, length, take, find, filter, is_none, slice_index_or}
use Rattle.std.specs.List.{list_any, enumerate_from}
use Rattle.std.specs.Option.{option_map}
use Rattle.link_model.specs.declared.refusals.EntryRefusal.{EntryRefusal}
use Rattle.link_model.specs.declared.refusals.EntryRefusal.TheVariants.{Ordinal}

-- There is a mark for each number from 0 up to 65,535: it tells whether the number is one of these.
pub record AreMarksOf (marks : List Bool) (numbers : List ℕ) : Type 0 where
  pub all : length marks ≡ 65536
  pub each : (n : ℕ) → n < 65536 → slice_index_or marks n false ≡ list_any (λ g. g == n) numbers

-- The first number, of those after so many, that is 0 or stands before itself in the whole list.
abbrev pub wrong_among : List ℕ → ℕ → List ℕ → Option (ℕ × ℕ)
wrong_among whole from numbers = find (λ q. q.1 == 0 || list_any (λ g. g == q.1) (take q.0 whole)) (enumerate_from from numbers)

-- the refusal of such a number
abbrev pub IsWrong : EntryRefusal → Option (ℕ × ℕ) → Type 0
IsWrong refusal found = option_map (λ q. Ordinal q.1) found ≡ Some refusal

-- A number that is none of these.
abbrev pub is_free : List ℕ → ℕ → Bool
is_free numbers n = not (list_any (λ g. g == n) numbers)

-- how many exports ask for no ordinal
abbrev pub nones : List (Option ℕ) → ℕ
nones os = length (filter is_none os)

-- The ordinal that an export asks for, or the least number without a mark, from a place on.
abbrev pub TakesOrdinal : List Bool → Option ℕ → ℕ → ℕ → Option ℕ → Type 0
TakesOrdinal marks (Some n) from after result = (result ≡ Some n) × (after ≡ from) × (n < 65536)
TakesOrdinal marks None from after None = (n : ℕ) → from ≤ n → n < 65536 → slice_index_or marks n false ≡ true
TakesOrdinal marks None from after (Some free) =
    (from ≤ free) × (free < 65536) × (after ≡ free + 1) × (slice_index_or marks free false ≡ false)
    × ((n : ℕ) → from ≤ n → n < free → slice_index_or marks n false ≡ true)
