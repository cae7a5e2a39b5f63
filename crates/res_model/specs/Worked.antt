-- Worked values: where items stand, and the file of one page with an item bound to it.
use Rattle.std.specs.Prelude.{◌≡◌, ℕ, ◌+◌, true, false, List, [], ◌∷◌, ◌++◌, length, take, drop, codes, slice_set, None, Some}
use Rattle.lx_types.specs.declared.object.ObjHead.{ObjHead}
use Rattle.lx_model.specs.Module.{LxFault, parts_of}
use Rattle.lx_model.specs.Resources.{Res}
use Rattle.lx_model.specs.Worked.File.{worked_file}
use Rattle.res_model.specs.declared.item.ResItem.{ResItem}
use Rattle.res_model.specs.Placed.{object_size, new_page_count, data_from, entries_from}
use Rattle.res_model.specs.Bound.{base_above, bound_file}
use Rattle.res_model.specs.Refusal.{bind_refusal}
use Rattle.res_model.specs.Clear.{is_clear}
use Rattle.res_model.specs.declared.refusal.BindRefusal.TheVariants.{HasResources}

abbrev item : ℕ → ℕ → List ℕ → ResItem
item ty id bytes = record { ty = ty; id = id; flags = 0x1030; bytes = bytes }

abbrev abc : ResItem
abc = item 1 2 (codes "ABC")

abbrev object : ℕ → ℕ → ObjHead
object base size = record { size = size; base = base; flags = 0; first = 0; count = 0 }

pub record WorkedPlaces : Type 0 where
  -- three bytes, none, and one: at 0, 4 and 4
  pub size : object_size (abc ∷ item 1 3 [] ∷ item 1 4 (9 ∷ []) ∷ []) ≡ 5
  pub bytes : data_from 0 (abc ∷ item 1 3 [] ∷ item 1 4 (9 ∷ []) ∷ []) ≡ codes "ABC" ++ 0 ∷ 9 ∷ []
  -- an empty item after others moves the end, and alone it does not
  pub padded : data_from 0 (abc ∷ item 1 3 [] ∷ []) ≡ codes "ABC" ++ 0 ∷ []
  pub empty : object_size (item 1 3 [] ∷ item 1 4 [] ∷ []) ≡ 0
  pub no_page : new_page_count (item 1 3 [] ∷ []) ≡ 0
  pub entry : entries_from 2 0 (abc ∷ []) ≡ 1 ∷ 0 ∷ 2 ∷ 0 ∷ 3 ∷ 0 ∷ 0 ∷ 0 ∷ 2 ∷ 0 ∷ 0 ∷ 0 ∷ 0 ∷ 0 ∷ []
  -- bases after all objects, in any order; none; and one past the last
  pub base : base_above (object 0x10000000 0x10001 ∷ object 0x10000000 8 ∷ []) ≡ 0x10020000
  pub even_base : base_above (object 0x10000000 0x10000 ∷ []) ≡ 0x10010000
  pub first_base : base_above [] ≡ 0
  pub last_base : base_above (object 0xFFFE0000 0x10000 ∷ []) ≡ 0xFFFF0000
  pub no_base : base_above (object 0xFFFF0000 1 ∷ []) ≡ 0
  pub far_base : base_above (object 0xFFFFFFFF 0xFFFFFFFF ∷ []) ≡ 0

abbrev bound : List ℕ
bound = bound_file worked_file (abc ∷ [])

pub record WorkedBound : Type 0 where
  -- the module's fields that are set are read as nothing else; a header whose field 14h is also the table of its pages is not so
  pub clear : is_clear worked_file ≡ true
  pub not_clear : is_clear (slice_set worked_file 0x48 0x10) ≡ false
  pub long : length bound ≡ 263 + 3 + 48 + 16 + 12 + 14
  pub faultless : LxFault bound ≡ None
  pub object : drop 1 (parts_of bound).objects ≡ record { size = 3; base = 0x10010000; flags = 0x2009; first = 2; count = 1 } ∷ []
  pub found : Res (parts_of bound) 1 2 ≡ Some (record { object = 2; offset = 0; len = 3 })
  pub not_found : Res (parts_of bound) 2 1 ≡ None
  -- the old bytes stand, but for the fields
  pub front : take 0x14 bound ≡ take 0x14 worked_file
  pub after : take 100 (drop 0x6C bound) ≡ take 100 (drop 0x6C worked_file)
  -- once more it is refused
  pub none : bind_refusal worked_file (abc ∷ []) ≡ None
  pub again : bind_refusal bound (item 3 3 [] ∷ []) ≡ Some HasResources
  pub again_empty : bind_refusal bound [] ≡ Some HasResources
