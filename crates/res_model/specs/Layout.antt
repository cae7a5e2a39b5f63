-- Where the parts that are appended to a file begin.
use Rattle.std.specs.Prelude.{ℕ, ◌+◌, ◌-◌, ◌*◌, ◌^◌, ◌==◌, List, length, max, if◌then◌else◌}
use Rattle.lx_model.specs.declared.lengths.TheConstants.{OBJECT_ENTRY_LEN, PAGE_ENTRY_LEN, RESOURCE_ENTRY_LEN}
use Rattle.lx_model.specs.declared.header_fields.TheConstants.{PAGE_OFFSET_SHIFT, DATA_PAGES}
use Rattle.lx_model.specs.Header.{field, page_count, object_count}
use Rattle.lx_model.specs.FixupPages.{has_records}
use Rattle.res_model.specs.declared.item.ResItem.{ResItem}
use Rattle.res_model.specs.Placed.{up_to_unit, object_size, new_page_count}

-- the file's end, or where its data pages begin, where the file is shorter
abbrev pub end_of : List ℕ → ℕ
end_of file = max (length file) (field file DATA_PAGES)

-- offsets of pages count units
abbrev pub page_unit : List ℕ → ℕ
page_unit file = 2 ^ field file PAGE_OFFSET_SHIFT

-- where the data of the new pages begins: on a unit from the first page's place on
abbrev pub paged_place : List ℕ → ℕ
paged_place file = field file DATA_PAGES + up_to_unit (end_of file - field file DATA_PAGES) (page_unit file)

-- without pages nothing is put on a unit
abbrev pub data_place : List ℕ → ℕ → ℕ
data_place file pages = if pages == 0 then end_of file else paged_place file

-- ---- the places, in their order

unfoldable pub objects_place : List ℕ → List ResItem → ℕ
objects_place file items = data_place file (new_page_count items) + object_size items

unfoldable pub pages_place : List ℕ → List ResItem → ℕ
pages_place file items = objects_place file items + OBJECT_ENTRY_LEN * (object_count file + 1)

unfoldable pub fixups_place : List ℕ → List ResItem → ℕ
fixups_place file items = pages_place file items + PAGE_ENTRY_LEN * (page_count file + new_page_count items)

-- a module without records has no fixup page table
unfoldable pub resources_place : List ℕ → List ResItem → ℕ
resources_place file items = if has_records file then fixups_place file items + 4 * (page_count file + new_page_count items + 1) else fixups_place file items

unfoldable pub end_place : List ℕ → List ResItem → ℕ
end_place file items = resources_place file items + RESOURCE_ENTRY_LEN * length items
