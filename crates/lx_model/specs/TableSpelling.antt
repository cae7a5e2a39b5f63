-- How the header, the object table, the page table and the fixup page table are written. What they say is read again:
-- `TableLaws.antt`. What of it a linker chooses stands with the linker.
-- "32-bit Linear eXecutable Module Format": "LX Header", "Object Table", "Object Page Table", "Fixup Page Table".
use Rattle.std.specs.Prelude.{◌≡◌, ℕ, ◌+◌, ◌<◌, ◌^◌, List, ◌∷◌, ◌++◌, length, option_map, replicate, Option}
use Rattle.std.specs.List.{flat_map, AllByRecursion}
use Rattle.lx_bytes.specs.LittleEndian.{little_bytes}
use Rattle.lx_types.specs.declared.object.ObjHead.{ObjHead}
use Rattle.lx_types.specs.declared.object.PageHead.{PageHead}
use Rattle.lx_types.specs.declared.object.PageKind.{PageKind}
use Rattle.lx_types.specs.declared.object.PageKind.TheVariants.{Plain, Iterated, Invalid, Zero}
use Rattle.lx_model.specs.declared.header_fields.TheConstants.{LX_SIGNATURE}
use Rattle.lx_model.specs.Reading.{number_at}
use Rattle.lx_model.specs.Tables.{page_kind}

-- ---- doublewords

abbrev pub doublewords : List ℕ → List ℕ
doublewords ns = flat_map (little_bytes 4) ns

abbrev pub AreDoublewords : List ℕ → Type 0
AreDoublewords ns = AllByRecursion (λ n. n < 2 ^ 32) ns

-- ---- the header

-- The fields of a header, from 00h to A8h, in doublewords; the rest of its C4h bytes is not used.
abbrev pub header_spelling : List ℕ → List ℕ
header_spelling fields = doublewords fields ++ replicate 24 0

-- `LX`, with little-endian bytes and words, and the other 42 doublewords
pub record HeaderFits (fields : List ℕ) : Type 0 where
  pub others : List ℕ
  pub signature : fields ≡ LX_SIGNATURE ∷ others
  pub count : length others ≡ 42
  pub fit : AreDoublewords fields

-- ---- objects

-- size, linked base, flags, first page, page count, and a doubleword that is reserved
abbrev pub object_spelling : ObjHead → List ℕ
object_spelling o =
    little_bytes 4 o.size ++ little_bytes 4 o.base ++ little_bytes 4 o.flags ++ little_bytes 4 o.first ++ little_bytes 4 o.count ++ little_bytes 4 0

abbrev pub objects_spelling : List ObjHead → List ℕ
objects_spelling os = flat_map object_spelling os

pub record ObjectHeadFits (o : ObjHead) : Type 0 where
  pub size : o.size < 2 ^ 32
  pub base : o.base < 2 ^ 32
  pub flags : o.flags < 2 ^ 32
  pub first : o.first < 2 ^ 32
  pub count : o.count < 2 ^ 32

-- ---- pages

abbrev pub page_flags : PageKind → ℕ
page_flags Plain = 0
page_flags Iterated = 1
page_flags Invalid = 2
page_flags Zero = 3

-- An entry as it stands in the table: here `at` is its own offset, which is not shifted and counts from nowhere
-- yet. There is none where its flags are none.
abbrev pub page_fields : List ℕ → ℕ → Option PageHead
page_fields file at =
    option_map (λ kind. record { kind = kind; at = number_at 4 file at; len = number_at 2 file (at + 4) }) (page_kind (number_at 2 file (at + 6)))

abbrev pub page_spelling : PageHead → List ℕ
page_spelling p = little_bytes 4 p.at ++ little_bytes 2 p.len ++ little_bytes 2 (page_flags p.kind)

abbrev pub pages_spelling : List PageHead → List ℕ
pages_spelling ps = flat_map page_spelling ps

pub record PageHeadFits (p : PageHead) : Type 0 where
  pub at : p.at < 2 ^ 32
  pub len : p.len < 2 ^ 16
