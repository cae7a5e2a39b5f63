-- Worked values: a resource table, which of its entries count, and which is found.
use Rattle.std.specs.Prelude.{◌≡◌, ℕ, List, [], ◌∷◌, ◌++◌, take, codes, replicate, None, Some}
use Rattle.lx_bytes.specs.LittleEndian.{little_bytes}
use Rattle.lx_types.specs.declared.object.ObjHead.{ObjHead}
use Rattle.lx_types.specs.declared.parts.Parts.{Parts}
use Rattle.lx_types.specs.declared.resource.ResSpot.{ResSpot}
use Rattle.lx_model.specs.Resources.{Res}
use Rattle.lx_model.specs.Worked.Library.{library}

-- a header's first 88 bytes, of which the last eight are the table's place and its count; the table follows
abbrev pub header : ℕ → List ℕ
header count = 0x4C ∷ 0x58 ∷ [] ++ replicate 0x4E 0 ++ little_bytes 4 0x58 ++ little_bytes 4 count

abbrev pub item : ℕ → ℕ → ℕ → ℕ → ℕ → List ℕ
item ty id len object offset = little_bytes 2 ty ++ little_bytes 2 id ++ little_bytes 4 len ++ little_bytes 2 object ++ little_bytes 4 offset

abbrev pub object_of_size : ℕ → ObjHead
object_of_size size = record { size = size; base = 0; flags = 0x2009; first = 0; count = 0 }

-- a library of objects of 16 and of 3 bytes, whose file is a header with a table
abbrev pub with_resources : ℕ → List ℕ → Parts
with_resources count items = record (library (codes "R")) { file = header count ++ items; objects = object_of_size 16 ∷ object_of_size 3 ∷ [] }

abbrev spot : ℕ → ℕ → ℕ → ResSpot
spot object offset len = record { object = object; offset = offset; len = len }

abbrev two : Parts
two = with_resources 2 (item 1 2 3 2 0 ++ item 1 3 4 1 8)

pub record WorkedResources : Type 0 where
  pub first : Res two 1 2 ≡ Some (spot 2 0 3)
  pub second : Res two 1 3 ≡ Some (spot 1 8 4)
  -- another type, and another identifier
  pub other_type : Res two 2 2 ≡ None
  pub other_id : Res two 1 4 ≡ None
  -- the table ends where its count does
  pub past_count : Res (with_resources 1 (item 1 2 3 2 0 ++ item 1 3 4 1 8)) 1 3 ≡ None
  -- of two that have the key the first counts
  pub first_of_two : Res (with_resources 2 (item 1 2 3 1 0 ++ item 1 2 3 2 0)) 1 2 ≡ Some (spot 1 0 3)
  -- no object has number 0 or 3; nor has one of 3 bytes a fourth, or three from its second on
  pub object_0 : Res (with_resources 1 (item 1 2 0 0 0)) 1 2 ≡ None
  pub object_3 : Res (with_resources 1 (item 1 2 0 3 0)) 1 2 ≡ None
  pub long : Res (with_resources 1 (item 1 2 4 2 0)) 1 2 ≡ None
  pub late : Res (with_resources 1 (item 1 2 3 2 1)) 1 2 ≡ None
  -- a good entry is found after a bad one of its key
  pub after_bad : Res (with_resources 2 (item 1 2 4 2 0 ++ item 1 2 1 2 2)) 1 2 ≡ Some (spot 2 2 1)
  -- an entry that the file's end cuts off does not count, though the bytes that are left have the key
  pub cut : Res (with_resources 1 (take 13 (item 1 2 3 2 0))) 1 2 ≡ None
  -- empty resources are found at the end of an object too
  pub empty : Res (with_resources 1 (item 1 2 0 2 3)) 1 2 ≡ Some (spot 2 3 0)
  -- a file without a table, and a module without a file
  pub none : Res (with_resources 0 []) 1 2 ≡ None
  pub no_file : Res (library (codes "R")) 1 2 ≡ None
