-- The fields of an item, by their offsets from its first byte, and what may be wrong with them.
use Rattle.std.specs.Prelude.{ℕ, ◌+◌, ◌==◌, List, length, take, drop, Option, Some, None, nat_lt, slice_index, if◌then◌else◌}
use Rattle.lx_model.specs.Reading.{number_at, ◌then◌}
use Rattle.res_model.specs.declared.item.TheConstants.{MARK, FIELDS}
use Rattle.res_model.specs.declared.item.ResItem.{ResItem}
use Rattle.res_model.specs.declared.refusal.ResRefusal.{ResRefusal}
use Rattle.res_model.specs.declared.refusal.ResRefusal.TheVariants.{Short, BadItem}

-- ---- an item whose first byte is the first of these bytes

abbrev pub type_at : List ℕ → ℕ
type_at left = number_at 2 left 1

abbrev pub id_at : List ℕ → ℕ
id_at left = number_at 2 left 4

abbrev pub length_at : List ℕ → ℕ
length_at left = number_at 4 left 8

abbrev pub item_at : List ℕ → ResItem
item_at left = record { ty = type_at left; id = id_at left; flags = number_at 2 left 6; bytes = take (length_at left) (drop FIELDS left) }

-- ---- what is wrong with it, where it stands at a place of the file

-- a field of so many bytes passes the end
abbrev pub short_field : ℕ → List ℕ → ℕ → ℕ → Option ResRefusal
short_field at left offset width = if nat_lt (length left) (offset + width) then Some (Short (at + offset)) else None

-- a mark is there and is one
abbrev pub mark_fault : ℕ → List ℕ → ℕ → Option ResRefusal
mark_fault at left offset = short_field at left offset 1 then (if slice_index left offset == MARK then None else Some (BadItem (at + offset)))

-- the first fault of a mark, the type, a mark, the identifier, the flags, the length, and as many bytes
unfoldable pub fields_fault : ℕ → List ℕ → Option ResRefusal
fields_fault at left =
    mark_fault at left 0
    then short_field at left 1 2
    then mark_fault at left 3
    then short_field at left 4 2
    then short_field at left 6 2
    then short_field at left 8 4
    then short_field at left FIELDS (length_at left)
