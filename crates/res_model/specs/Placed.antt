-- Where items stand in an object: each at the least multiple of 4 that is not below the end of the one before it.
use Rattle.std.specs.Prelude.{ℕ, ◌+◌, ◌-◌, ◌*◌, ◌/◌, List, [], ◌∷◌, ◌++◌, length, replicate}
use Rattle.std.specs.List.{flat_map}
use Rattle.lx_bytes.specs.LittleEndian.{little_bytes}
use Rattle.lx_types.specs.declared.object.TheConstants.{PAGE_SIZE}
use Rattle.res_model.specs.declared.item.ResItem.{ResItem}

-- the least multiple of a unit that is not below n
abbrev pub up_to_unit : ℕ → ℕ → ℕ
up_to_unit n unit = (n + (unit - 1)) / unit * unit

-- the least place for an item after so many bytes
abbrev pub aligned : ℕ → ℕ
aligned n = up_to_unit n 4

-- an item, and its offset in the object
pub record Placed : Type 0 where
  pub item : ResItem
  pub offset : ℕ

-- the items after so many bytes of the object
abbrev pub placed_from : ℕ → List ResItem → List Placed
placed_from end [] = []
placed_from end (i ∷ items) = record { item = i; offset = aligned end } ∷ placed_from (aligned end + length i.bytes) items

-- where the last of them ends
abbrev pub end_from : ℕ → List ResItem → ℕ
end_from end [] = end
end_from end (i ∷ items) = end_from (aligned end + length i.bytes) items

-- the bytes of the object after the first ones: zeros up to an item, and the item's
abbrev pub data_from : ℕ → List ResItem → List ℕ
data_from end [] = []
data_from end (i ∷ items) = replicate (aligned end - end) 0 ++ i.bytes ++ data_from (aligned end + length i.bytes) items

-- ---- the whole object

abbrev pub object_size : List ResItem → ℕ
object_size items = end_from 0 items

abbrev pub page_number : ℕ → ℕ
page_number size = (size + (PAGE_SIZE - 1)) / PAGE_SIZE

abbrev pub new_page_count : List ResItem → ℕ
new_page_count items = page_number (object_size items)

-- ---- the resource table

-- type, identifier, length, object and offset
abbrev pub entry_spelling : ℕ → Placed → List ℕ
entry_spelling object p =
    little_bytes 2 p.item.ty ++ little_bytes 2 p.item.id ++ little_bytes 4 (length p.item.bytes) ++ little_bytes 2 object ++ little_bytes 4 p.offset

abbrev pub entries_from : ℕ → ℕ → List ResItem → List ℕ
entries_from object end items = flat_map (entry_spelling object) (placed_from end items)
