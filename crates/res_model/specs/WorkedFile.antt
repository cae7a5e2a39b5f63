-- Worked values: a file of one item, and what is wrong with it after a change.
use Rattle.std.specs.Prelude.{◌≡◌, ℕ, List, [], ◌∷◌, ◌++◌, take, codes, slice_set, None, Some}
use Rattle.res_model.specs.ItemFields.{item_at}
use Rattle.res_model.specs.ResFile.{item_spelling, items_spelling}
use Rattle.res_model.specs.Faults.{item_fault}
use Rattle.res_model.specs.declared.item.ResItem.{ResItem}
use Rattle.res_model.specs.declared.refusal.ResRefusal.TheVariants.{Short, BadItem, Twice}

-- type 1, identifier 2, flags 1030h, and `ABC`
abbrev abc : List ℕ
abc = 0xFF ∷ 0x01 ∷ 0x00 ∷ 0xFF ∷ 0x02 ∷ 0x00 ∷ 0x30 ∷ 0x10 ∷ 0x03 ∷ 0x00 ∷ 0x00 ∷ 0x00 ∷ 0x41 ∷ 0x42 ∷ 0x43 ∷ []

abbrev item : ℕ → ℕ → List ℕ → ResItem
item ty id bytes = record { ty = ty; id = id; flags = 0x1030; bytes = bytes }

pub record WorkedFile : Type 0 where
  pub spelled : item_spelling (item 1 2 (codes "ABC")) ≡ abc
  pub two : items_spelling (item 1 2 (codes "ABC") ∷ item 1 2 (codes "ABC") ∷ []) ≡ abc ++ abc
  pub read : item_at (abc ++ abc) ≡ item 1 2 (codes "ABC")
  pub good : item_fault [] 0 abc ≡ None
  -- without its last byte, without any byte, and with a mark alone
  pub cut : item_fault [] 0 (take 14 abc) ≡ Some (Short 12)
  pub gone : item_fault [] 0 [] ≡ Some (Short 0)
  pub mark_alone : item_fault [] 7 (take 1 abc) ≡ Some (Short 8)
  pub flags_cut : item_fault [] 0 (take 7 abc) ≡ Some (Short 6)
  -- another byte for a mark, which is seen before what is cut off after it
  pub second_mark : item_fault [] 0 (slice_set abc 3 0) ≡ Some (BadItem 3)
  pub first_mark : item_fault [] 0 (slice_set (take 2 abc) 0 0xFE) ≡ Some (BadItem 0)
  -- the same type and identifier again; another of the two; a fault of its fields comes first
  pub again : item_fault (item 1 2 [] ∷ []) 12 abc ≡ Some (Twice 12)
  pub other_id : item_fault (item 1 3 [] ∷ []) 12 abc ≡ None
  pub other_type : item_fault (item 2 2 [] ∷ []) 12 abc ≡ None
  pub cut_first : item_fault (item 1 2 [] ∷ []) 12 (take 14 abc) ≡ Some (Short 24)
