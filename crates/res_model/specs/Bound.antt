-- The file of a module with items as its resources.
-- "32-bit Linear eXecutable Module Format": "Object Table", "Object Page Table", "Fixup Page Table", "Resource Table".
use Rattle.std.specs.Prelude.{ℕ, ◌+◌, ◌-◌, ◌*◌, ◌/◌, ◌==◌, List, [], ◌∷◌, ◌++◌, length, take, drop, map, max, min, replicate, nat_le, if◌then◌else◌}
use Rattle.std.specs.List.{range_with_len, repeat}
use Rattle.lx_bytes.specs.LittleEndian.{little_bytes}
use Rattle.lx_types.specs.declared.object.ObjHead.{ObjHead}
use Rattle.lx_types.specs.declared.object.PageHead.{PageHead}
use Rattle.lx_types.specs.declared.object.PageKind.TheVariants.{Plain}
use Rattle.lx_types.specs.declared.object.TheConstants.{PAGE_SIZE}
use Rattle.lx_types.specs.Parts.{span}
use Rattle.lx_types.specs.declared.limits.TheConstants.{BASE_UNIT}
use Rattle.lx_model.specs.declared.lengths.TheConstants.{OBJECT_ENTRY_LEN, PAGE_ENTRY_LEN}
use Rattle.lx_model.specs.declared.header_fields.TheConstants.{MODULE_PAGES, OBJECT_TABLE, OBJECT_COUNT, OBJECT_PAGE_TABLE, RESOURCE_TABLE, RESOURCE_COUNT, FIXUP_PAGE_TABLE, DATA_PAGES}
use Rattle.lx_model.specs.Header.{header_place, field, table, page_count, object_count}
use Rattle.lx_model.specs.Tables.{objects_of}
use Rattle.lx_model.specs.FixupPages.{has_records}
use Rattle.lx_model.specs.TableSpelling.{object_spelling, pages_spelling}
use Rattle.res_model.specs.declared.item.ResItem.{ResItem}
use Rattle.res_model.specs.declared.flags.TheConstants.{RESOURCE_OBJECT_FLAGS}
use Rattle.res_model.specs.Placed.{up_to_unit, object_size, new_page_count, data_from, entries_from}
use Rattle.res_model.specs.Layout.{page_unit, data_place, objects_place, pages_place, fixups_place, resources_place}

-- ---- the new object

-- the greatest end of objects, and of n
abbrev pub ends_above : ℕ → List ObjHead → ℕ
ends_above n [] = n
ends_above n (o ∷ objects) = ends_above (max n (o.base + o.size)) objects

abbrev pub base_or_zero : ℕ → ℕ
base_or_zero base = if nat_le base 0xFFFF0000 then base else 0

-- the least multiple of 65,536 that is not below the end of an object, or 0 where that is past the last one of 32 bits
abbrev pub base_above : List ObjHead → ℕ
base_above objects = base_or_zero (up_to_unit (ends_above 0 objects) BASE_UNIT)

-- It is readable, a resource and 32-bit. Its pages are the last ones.
unfoldable pub new_object : List ℕ → List ResItem → ObjHead
new_object file items = record {
  size = object_size items;
  base = base_above (objects_of file);
  flags = RESOURCE_OBJECT_FLAGS;
  first = if new_page_count items == 0 then 0 else page_count file + 1;
  count = new_page_count items;
}

-- Page k of it, as the page table has it: offsets count from the data pages, in units.
unfoldable pub new_page : List ℕ → List ResItem → ℕ → PageHead
new_page file items k = record {
  kind = Plain;
  at = (data_place file (new_page_count items) - field file DATA_PAGES + PAGE_SIZE * k) / page_unit file;
  len = min (object_size items - PAGE_SIZE * k) PAGE_SIZE;
}

unfoldable pub new_pages : List ℕ → List ResItem → List PageHead
new_pages file items = map (new_page file items) (range_with_len 0 (new_page_count items))

-- ---- the tables: the old entries as they stand, and the new ones

-- n entries of some bytes of the table whose place is in a field
abbrev pub old_entries : List ℕ → ℕ → ℕ → ℕ → List ℕ
old_entries file offset size n = span file (table file offset) (table file offset + size * n)

unfoldable pub object_table : List ℕ → List ResItem → List ℕ
object_table file items = old_entries file OBJECT_TABLE OBJECT_ENTRY_LEN (object_count file) ++ object_spelling (new_object file items)

unfoldable pub page_table : List ℕ → List ResItem → List ℕ
page_table file items = old_entries file OBJECT_PAGE_TABLE PAGE_ENTRY_LEN (page_count file) ++ pages_spelling (new_pages file items)

-- where the last page's records end
abbrev pub last_offset : List ℕ → List ℕ
last_offset file = let at = table file FIXUP_PAGE_TABLE + 4 * page_count file in span file at (at + 4)

-- No new page has records: each ends where the last old one does.
unfoldable pub fixup_table : List ℕ → ℕ → List ℕ
fixup_table file pages = if has_records file then old_entries file FIXUP_PAGE_TABLE 4 (page_count file + 1) ++ repeat pages (last_offset file) else []

-- ---- the header's fields

-- a file with a number in the four bytes at a place
unfoldable pub with_number : ℕ → ℕ → List ℕ → List ℕ
with_number at value file = take at file ++ little_bytes 4 value ++ drop (at + 4) file

-- a field of the header, whose place is given
abbrev pub with_field : ℕ → ℕ → ℕ → List ℕ → List ℕ
with_field place offset value file = with_number (place + offset) value file

-- The numbers of pages, objects and resources, and where the tables stand.
unfoldable pub with_fields : List ℕ → List ResItem → List ℕ
with_fields file items =
    let place = header_place file in
    let pages = with_field place MODULE_PAGES (page_count file + new_page_count items) file in
    let objects = with_field place OBJECT_TABLE (objects_place file items - place) pages in
    let count = with_field place OBJECT_COUNT (object_count file + 1) objects in
    let heads = with_field place OBJECT_PAGE_TABLE (pages_place file items - place) count in
    let resources = with_field place RESOURCE_TABLE (resources_place file items - place) heads in
    let all = with_field place RESOURCE_COUNT (length items) resources in
    if has_records file then with_field place FIXUP_PAGE_TABLE (fixups_place file items - place) all else all

-- ---- the file

unfoldable pub appended : List ℕ → List ResItem → List ℕ
appended file items =
    replicate (data_place file (new_page_count items) - length file) 0
    ++ data_from 0 items
    ++ object_table file items
    ++ page_table file items
    ++ fixup_table file (new_page_count items)
    ++ entries_from (object_count file + 1) 0 items

-- Without items it is the module's own.
abbrev pub bound_file : List ℕ → List ResItem → List ℕ
bound_file file [] = file
bound_file file (i ∷ items) = with_fields file (i ∷ items) ++ appended file (i ∷ items)
