-- How far a reader has come: the items so far, and which types and identifiers they have.
use Rattle.std.specs.Prelude.{◌≡◌, ℕ, ◌≤◌, ◌==◌, ◌&&◌, Bool, List, length, take}
use Rattle.std.specs.List.{list_any, AllByRecursion}
use Rattle.std.specs.HashSet as bag
use Rattle.std.specs.HashSet.{HashSet}
use Rattle.res_model.specs.ResFile.{has_key, items_spelling, ItemFits, AreApart}
use Rattle.res_model.specs.declared.item.ResItem.{ResItem}

-- the bytes before a place are these items
pub record AreRead (bytes : List ℕ) (at : ℕ) (items : List ResItem) : Type 0 where
  pub within : at ≤ length bytes
  pub spelled : take at bytes ≡ items_spelling items
  pub fit : AllByRecursion ItemFits items
  pub apart : AreApart items

abbrev pub Key : Type 0
Key = ℕ × ℕ

abbrev pub same : Key → Key → Bool
same a b = (a.0 == b.0) && (a.1 == b.1)

-- The keys are those of the items.
abbrev pub AreKeysOf : {S : Type 0} → List ResItem → HashSet Key S → Type 0
AreKeysOf items seen = (k : Key) → bag.contains same seen k ≡ list_any (has_key k.0 k.1) items
