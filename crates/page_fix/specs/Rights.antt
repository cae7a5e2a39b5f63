-- Rights to fix the pages of a residence, and what becomes of them; the marks by which rights are kept.
use Rattle.std.specs.Prelude.{ℕ, zero, suc, Bool, false, List, [], length, map, slice_index_or}
use Rattle.std.specs.List.{filter, flat_map, range_with_len}
use Rattle.lx_types.specs.Object.{pages_of}
use Rattle.lx_types.specs.Parts.{object_of}
use Rattle.lx_types.specs.declared.object.PageId.{PageId}
use Rattle.lx_types.specs.declared.parts.Parts.{Parts}
use Rattle.page_fix.specs.Fixable.{is_fixable}

-- the right to fix a page of the residence with a serial number
pub record PageRight : Type 0 where
  pub serial : ℕ
  pub page : PageId

-- the pages of a residence whose right is left
pub record PageRights : Type 0 where
  pub serial : ℕ
  pub left : List PageId

-- a page of a residence, with the bytes that it was given
pub record PageBytes : Type 0 where
  pub serial : ℕ
  pub page : PageId
  pub bytes : List ℕ

-- ---- marks: a row for each object, and in it a mark for each page

-- the row of an object, which counts from 1
abbrev pub row_of : List (List Bool) → ℕ → List Bool
row_of rows zero = []
row_of rows (suc k) = slice_index_or rows k []

abbrev pub is_marked : List (List Bool) → PageId → Bool
is_marked rows p = slice_index_or (row_of rows p.object) p.page false

abbrev pub row_pages : List (List Bool) → ℕ → List PageId
row_pages rows object = map (λ n. record { object = object; page = n }) (range_with_len 0 (length (row_of rows object)))

-- the pages that have a mark, object by object
unfoldable pub marked_pages : List (List Bool) → List PageId
marked_pages rows = filter (is_marked rows) (flat_map (row_pages rows) (range_with_len 1 (length rows)))

-- the marks of an object whose rights are all left
unfoldable pub fixable_row : Parts → ℕ → List Bool
fixable_row m object = map (λ n. is_fixable m (record { object = object; page = n })) (range_with_len 0 (pages_of (object_of m object)))
