-- The first fault of bytes that are no resource file.
use Rattle.std.specs.Prelude.{◌≡◌, ℕ, ◌<◌, ◌++◌, List, length, Option, Some, None, if◌then◌else◌}
use Rattle.std.specs.List.{list_any}
use Rattle.lx_model.specs.Reading.{◌then◌}
use Rattle.res_model.specs.ItemFields.{type_at, id_at, fields_fault}
use Rattle.res_model.specs.ResFile.{items_spelling, has_key, IsResFile}
use Rattle.res_model.specs.declared.item.ResItem.{ResItem}
use Rattle.res_model.specs.declared.refusal.ResRefusal.{ResRefusal}
use Rattle.res_model.specs.declared.refusal.ResRefusal.TheVariants.{Twice}

-- one of the items has the type and the identifier of the one that stands here
abbrev pub is_second : List ResItem → List ℕ → ℕ → Option ResRefusal
is_second before left at = if list_any (has_key (type_at left) (id_at left)) before then Some (Twice at) else None

-- What is wrong with the item whose first byte is the first of these, after others: its fields, and then that one of the
-- others has its type and identifier.
abbrev pub item_fault : List ResItem → ℕ → List ℕ → Option ResRefusal
item_fault before at left = fields_fault at left then is_second before left at

-- Good items stand at the front of the bytes, and what stands after them is none.
pub record FirstFault (bytes : List ℕ) (refusal : ResRefusal) : Type 0 where
  pub before : List ResItem
  pub left : List ℕ
  pub good : IsResFile (items_spelling before) before
  pub spelled : bytes ≡ items_spelling before ++ left
  pub some : 0 < length left
  pub wrong : item_fault before (length (items_spelling before)) left ≡ Some refusal
