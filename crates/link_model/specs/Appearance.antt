-- Tables by first appearance: each key once, in the order in which keys first appear.
--
-- Imports, communals, groups, classes, logical segments, objects, import modules and procedure names are such
-- tables. A key's place is where it stands in its table.
use Rattle.std.specs.Prelude.{◌≡◌, ℕ, Bool, true, false, not, List, [], ◌∷◌, ◌++◌, Option, Some, if◌then◌else◌, filter, bytes_eq}
use Rattle.std.specs.List.{find, position, position_or_len, list_any, AllPairs}

-- Each item that is not the same as one before it.
abbrev pub firsts : {X : Type 0} → (X → X → Bool) → List X → List X
firsts same [] = []
firsts same (x ∷ xs) = x ∷ filter (λ y. not (same x y)) (firsts same xs)

-- Each item whose key no item before it has.
abbrev pub firsts_by : {K X : Type 0} → (K → K → Bool) → (X → K) → List X → List X
firsts_by same key xs = firsts (λ a b. same (key a) (key b)) xs

-- The place of the item with a key, from 0.
abbrev pub place_by : {K X : Type 0} → (K → K → Bool) → (X → K) → K → List X → Option ℕ
place_by same key k xs = position (λ x. same k (key x)) xs

-- ---- the laws of a table whose keys are names; its items are told by numbers here

-- The table of these items.
abbrev pub table : (ℕ → List ℕ) → List ℕ → List ℕ
table key xs = firsts_by bytes_eq key xs

-- The test of a look-up.
abbrev pub has_key : (ℕ → List ℕ) → List ℕ → ℕ → Bool
has_key key k x = bytes_eq k (key x)

pub record NameTables (key : ℕ → List ℕ) (xs : List ℕ) : Type 0 where
  -- one more item goes last, unless its key is there
  pub one_more : (x : ℕ) → table key (xs ++ x ∷ [])
      ≡ (if list_any (has_key key (key x)) (table key xs) then table key xs else table key xs ++ x ∷ [])
  -- it is found where the table had its key, or else after the table
  pub place : (x : ℕ) → place_by bytes_eq key (key x) (table key (xs ++ x ∷ []))
      ≡ Some (position_or_len (has_key key (key x)) (table key xs))
  -- a key that is there keeps its place
  pub stays : (x : ℕ) (k : List ℕ) → list_any (has_key key k) (table key xs) ≡ true
      → place_by bytes_eq key k (table key (xs ++ x ∷ [])) ≡ place_by bytes_eq key k (table key xs)
  -- a key is there where some item has it, with the first such item
  pub found : (k : List ℕ) → find (has_key key k) (table key xs) ≡ find (has_key key k) xs
  pub once : AllPairs (λ a b. bytes_eq (key a) (key b) ≡ false) (table key xs)

abbrev pub NamesAppear : Type 0
NamesAppear = (key : ℕ → List ℕ) (xs : List ℕ) → NameTables key xs
