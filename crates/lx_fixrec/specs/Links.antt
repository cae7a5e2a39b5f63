-- The sources of a page in the order of their lists: which one stands next, and at which place.
use Rattle.std.specs.Prelude.{◌≡◌, ℕ, ◌<◌, ◌≤◌, ◌+◌, ◌-◌, ◌%◌, Bool, true, List, [], ◌∷◌, length, map, filter, take, drop, ℤ, Option, None, Some, slice_get, slice_index}
use Rattle.lx_types.specs.declared.fix.Fix.{Fix}
use Rattle.lx_model.specs.JoinedRecords.{joins}
use Rattle.lx_model.specs.declared.record_fields.TheConstants.{MAX_LISTED}
use Rattle.lx_fixrec.specs.declared.lists.Shared.{Shared}
use Rattle.lx_fixrec.specs.declared.lists.Firsts.{Firsts}
use Rattle.lx_fixrec.specs.Lists.{is_with, first_in}

-- the first of these passes, if there are any
abbrev pub HeadPasses : (Fix → Bool) → List Fix → Type 0
HeadPasses p [] = Unit {0}
HeadPasses p (f ∷ fs) = p f ≡ true

-- the second list is the first one from the first that passes on
pub record LeadsTo (p : Fix → Bool) (all rest : List Fix) : Type 0 where
  pub same : filter p all ≡ filter p rest
  pub head : HeadPasses p rest

-- a source f stands at a place, and the next of its list at another, or after all sources
pub record IsNext (s : List Fix) (f : Fix) (place next : ℕ) : Type 0 where
  pub after : place < next
  pub leads : LeadsTo (joins f) (drop (place + 1) s) (drop next s)

pub record AreLinks (s : List Fix) (links : List ℕ) : Type 0 where
  pub count : length links ≡ length s
  pub each : (i : ℕ) (f : Fix) → slice_get s i ≡ Some f → IsNext s f i (slice_index links i)

-- the first that passes of the sources from a place on, if there is one
abbrev pub IsFirst : List Fix → (Fix → Bool) → ℕ → Option ℕ → Type 0
IsFirst s p place None = filter p (drop place s) ≡ []
IsFirst s p place (Some first) = (place ≤ first) × LeadsTo p (drop place s) (drop first s)

abbrev pub AreFirsts : List Fix → ℕ → Firsts → Type 0
AreFirsts s place firsts = (k : Shared) → IsFirst s (is_with k) place (first_in firsts k)

-- the offsets that the record of a source lists after it
abbrev pub listed_offsets : Fix → List Fix → List ℤ
listed_offsets f others = map (λ g. g.offset) (take (MAX_LISTED - 1) (filter (joins f) others))

-- how many sources of the list of f stand before a place
abbrev pub joined_before : List Fix → Fix → ℕ → ℕ
joined_before s f place = length (filter (joins f) (take place s))

-- The first source that each list has from a place on stands at its place in the list, counted from that of a record.
pub record AreCounted (s : List Fix) (place : ℕ) (counts : List ℕ) : Type 0 where
  pub many : length counts ≡ length s
  pub each : (i : ℕ) (f : Fix) → place ≤ i → slice_get s i ≡ Some f → joined_before s f i ≡ joined_before s f place
      → slice_index counts i ≡ joined_before s f place % MAX_LISTED
