-- The object table and the object page table: what each entry says, and what may be wrong with it.
-- "32-bit Linear eXecutable Module Format": "Object Table", "Object Page Table".
use Rattle.std.specs.Prelude.{ℕ, zero, suc, ◌+◌, ◌*◌, ◌^◌, ◌==◌, ◌&&◌, ◌||◌, not, Bool, List, length, map, Option, Some, None, nat_lt, nat_le, if◌then◌else◌}
use Rattle.std.specs.List.{range_with_len}
use Rattle.lx_types.specs.declared.refusal.LxRefusal.{LxRefusal}
use Rattle.lx_types.specs.declared.refusal.LxKind.TheVariants as kinds
use Rattle.lx_types.specs.declared.object.ObjHead.{ObjHead}
use Rattle.lx_types.specs.declared.object.PageHead.{PageHead}
use Rattle.lx_types.specs.declared.object.PageKind.{PageKind}
use Rattle.lx_types.specs.declared.object.PageKind.TheVariants.{Plain, Iterated, Invalid, Zero}
use Rattle.lx_types.specs.declared.object.TheConstants.{PAGE_SIZE}
use Rattle.lx_types.specs.Object.{zero_page}
use Rattle.lx_types.specs.Parts.{span}
use Rattle.lx_model.specs.declared.lengths.TheConstants.{OBJECT_ENTRY_LEN, PAGE_ENTRY_LEN}
use Rattle.lx_model.specs.declared.header_fields.TheConstants.{PAGE_OFFSET_SHIFT, OBJECT_TABLE, OBJECT_PAGE_TABLE, ITERATED_PAGES, DATA_PAGES}
use Rattle.lx_model.specs.Reading.{fault, number_at, short_at, first, first_of, ◌then◌, placed, fault_of}
use Rattle.lx_model.specs.Header.{field, table, page_count, object_count}
use Rattle.lx_model.specs.Iterated.{expansion}

-- ---- objects

-- An entry at a place: size, linked base, flags, first page, page count, and a doubleword
-- that is reserved.
abbrev pub object_entry : List ℕ → ℕ → ObjHead
object_entry file at = record {
  size = number_at 4 file at;
  base = number_at 4 file (at + 4);
  flags = number_at 4 file (at + 8);
  first = number_at 4 file (at + 12);
  count = number_at 4 file (at + 16);
}

-- where entry k stands, from 0
abbrev pub object_place : List ℕ → ℕ → ℕ
object_place file k = table file OBJECT_TABLE + OBJECT_ENTRY_LEN * k

unfoldable pub objects_of : List ℕ → List ObjHead
objects_of file = map (λ k. object_entry file (object_place file k)) (range_with_len 0 (object_count file))

-- an object has pages that are not in a page table of this length
abbrev pub lacks_pages : ℕ → ObjHead → Bool
lacks_pages pages o = not (o.count == 0) && (o.first == 0 || nat_lt (pages + 1) (o.first + o.count))

-- An object whose pages are not there is wrong at its entry, and so before what is short in it.
abbrev pub object_fault : List ℕ → ℕ → Option LxRefusal
object_fault file k =
    let at = object_place file k in
    if nat_le (at + 20) (length file) && lacks_pages (page_count file) (object_entry file at)
    then Some (fault kinds.Object at)
    else first (map (λ i. short_at 4 file (at + 4 * i)) (range_with_len 0 6))

unfoldable pub objects_fault : List ℕ → Option LxRefusal
objects_fault file = first_of (object_count file) (object_fault file)

-- ---- pages

-- the kinds of pages, by their flags
abbrev pub page_kind : ℕ → Option PageKind
page_kind zero = Some Plain
page_kind (suc zero) = Some Iterated
page_kind (suc (suc zero)) = Some Invalid
page_kind (suc (suc (suc zero))) = Some Zero
page_kind (suc (suc (suc (suc flags)))) = None

-- where entry k of the page table stands, from 0: an offset, a size word and a flags word
abbrev pub page_place : List ℕ → ℕ → ℕ
page_place file k = table file OBJECT_PAGE_TABLE + PAGE_ENTRY_LEN * k

-- A page's data: where it begins in the file, and its length. Offsets are shifted, and count from the
-- data pages or from the iterated pages.
abbrev pub page_data : List ℕ → ℕ → PageKind → PageHead
page_data file at Plain = record {
  kind = Plain;
  at = field file DATA_PAGES + number_at 4 file at * 2 ^ field file PAGE_OFFSET_SHIFT;
  len = number_at 2 file (at + 4);
}
page_data file at Iterated = record {
  kind = Iterated;
  at = field file ITERATED_PAGES + number_at 4 file at * 2 ^ field file PAGE_OFFSET_SHIFT;
  len = number_at 2 file (at + 4);
}
page_data file at Invalid = record { kind = Invalid; at = 0; len = 0 }
page_data file at Zero = zero_page

abbrev pub page_of_kind : List ℕ → ℕ → Option PageKind → Option PageHead
page_of_kind file at (Some kind) = Some (page_data file at kind)
page_of_kind file at None = None

-- the page of an entry, unless its flags are none
abbrev pub page_entry : List ℕ → ℕ → Option PageHead
page_entry file at = page_of_kind file at (page_kind (number_at 2 file (at + 6)))

abbrev pub page_or_zero : Option PageHead → PageHead
page_or_zero (Some page) = page
page_or_zero None = zero_page

unfoldable pub page_heads : List ℕ → List PageHead
page_heads file = map (λ k. page_or_zero (page_entry file (page_place file k))) (range_with_len 0 (page_count file))

-- What is wrong with the data of the page of an entry: data that is not in the file, plain data that
-- is longer than a page, or a group of iterated data.
abbrev pub kind_fault : List ℕ → ℕ → PageKind → PageHead → Option LxRefusal
kind_fault file entry Plain page = if nat_le (page.at + page.len) (length file) && nat_le page.len PAGE_SIZE then None else Some (fault kinds.PageData entry)
kind_fault file entry Iterated page =
    if nat_le (page.at + page.len) (length file)
    then fault_of (placed page.at (expansion (span file page.at (page.at + page.len))))
    else Some (fault kinds.PageData entry)
kind_fault file entry Invalid page = None
kind_fault file entry Zero page = None

abbrev pub data_fault : List ℕ → ℕ → Option PageHead → Option LxRefusal
data_fault file entry None = Some (fault kinds.PageKind entry)
data_fault file entry (Some page) = kind_fault file entry page.kind page

abbrev pub page_fault : List ℕ → ℕ → Option LxRefusal
page_fault file k =
    let at = page_place file k in
    short_at 4 file at then short_at 2 file (at + 4) then short_at 2 file (at + 6) then data_fault file at (page_entry file at)

unfoldable pub pages_fault : List ℕ → Option LxRefusal
pages_fault file = first_of (page_count file) (page_fault file)
