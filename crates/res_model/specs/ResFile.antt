-- Resource files: items with a type and an identifier, one after the other.
use Rattle.std.specs.Prelude.{◌≡◌, ℕ, ◌<◌, ◌^◌, ◌==◌, ◌&&◌, Bool, false, List, [], ◌∷◌, ◌++◌, length}
use Rattle.std.specs.List.{flat_map, AllByRecursion}
use Rattle.lx_bytes.specs.LittleEndian.{little_bytes}
use Rattle.res_model.specs.declared.item.TheConstants.{MARK}
use Rattle.res_model.specs.declared.item.ResItem.{ResItem}

-- ---- how items are spelled

-- a mark, the type, a mark, the identifier, the flags, the length, and as many bytes
abbrev pub item_spelling : ResItem → List ℕ
item_spelling i = MARK ∷ little_bytes 2 i.ty ++ MARK ∷ little_bytes 2 i.id ++ little_bytes 2 i.flags ++ little_bytes 4 (length i.bytes) ++ i.bytes

abbrev pub items_spelling : List ResItem → List ℕ
items_spelling items = flat_map item_spelling items

-- the numbers have the room that the fields give them
pub record ItemFits (i : ResItem) : Type 0 where
  pub ty : i.ty < 2 ^ 16
  pub id : i.id < 2 ^ 16
  pub flags : i.flags < 2 ^ 16
  pub bytes : length i.bytes < 2 ^ 32

-- ---- what a file means

-- an item has this type and identifier
abbrev pub has_key : ℕ → ℕ → ResItem → Bool
has_key ty id i = (i.ty == ty) && (i.id == id)

abbrev pub same_key : ResItem → ResItem → Bool
same_key a b = has_key a.ty a.id b

-- No two items have the same type and identifier.
abbrev pub AreApart : List ResItem → Type 0
AreApart [] = Unit {0}
AreApart (i ∷ items) = AllByRecursion (λ other. same_key i other ≡ false) items × AreApart items

-- The bytes are these items, and nothing else.
pub record IsResFile (bytes : List ℕ) (items : List ResItem) : Type 0 where
  pub spelled : bytes ≡ items_spelling items
  pub fit : AllByRecursion ItemFits items
  pub apart : AreApart items
