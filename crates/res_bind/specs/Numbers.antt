-- The numbers that the code has of a file and of its layout, against the definitions.
use Rattle.std.specs.Prelude.{◌≡◌, ℕ, ◌+◌, ◌<◌, ◌≤◌, ◌^◌, List, length, None}
use Rattle.lx_types.specs.declared.limits.TheConstants.{MAX_PAGES, MAX_OBJECTS, MAX_FILE}
use Rattle.lx_types.specs.declared.object.TheConstants.{PAGE_SIZE}
use Rattle.lx_model.specs.declared.header_fields.TheConstants.{PAGE_OFFSET_SHIFT, OBJECT_TABLE, OBJECT_PAGE_TABLE, RESOURCE_COUNT, FIXUP_PAGE_TABLE, DATA_PAGES}
use Rattle.lx_model.specs.Header.{field, table, header_place, header_fault, header_fields, page_count, object_count}
use Rattle.lx_model.specs.FixupPages.{has_records}
use Rattle.lx_model.specs.Tables.{objects_of}
use Rattle.lx_types.specs.declared.object.ObjHead.{ObjHead}
use Rattle.lx_head.specs.declared.head.Head.{Head}
use Rattle.res_model.specs.declared.item.ResItem.{ResItem}
use Rattle.res_model.specs.Placed.{object_size, new_page_count}
use Rattle.res_model.specs.Layout.{page_unit, data_place, objects_place, pages_place, fixups_place, resources_place, end_place}
use Rattle.res_bind.specs.declared.header.OldTables.{OldTables}
use Rattle.res_bind.specs.declared.layout.Layout.{Layout}

-- a file with a good header, whose places have 32 bits
pub record HasHeader (file : List ℕ) : Type 0 where
  pub short : length file < 2 ^ 32
  pub faultless : header_fault file ≡ None

-- a header as it stands in a file whose places have 32 bits
pub record IsHeadOf (file : List ℕ) (h : Head) : Type 0 where
  pub short : length file < 2 ^ 32
  pub place : h.place ≡ header_place file
  pub fields : h.fields ≡ header_fields file
  pub long : header_place file + 0xAC ≤ length file
  pub shift : field file PAGE_OFFSET_SHIFT ≤ 12
  pub few_pages : page_count file ≤ MAX_PAGES
  pub few_objects : object_count file ≤ MAX_OBJECTS

-- The numbers are those of the header of a file whose places have 32 bits.
pub record AreTablesOf (file : List ℕ) (old : OldTables) : Type 0 where
  pub short : length file < 2 ^ 32
  pub header : old.header ≡ header_place file
  -- the header is there up to the field A8h
  pub long : old.header + 0xAC ≤ length file
  pub pages : old.pages ≡ page_count file
  pub few_pages : old.pages ≤ MAX_PAGES
  pub objects : old.objects ≡ object_count file
  pub few_objects : old.objects ≤ MAX_OBJECTS
  pub page_unit : old.page_unit ≡ page_unit file
  pub small_unit : (1 ≤ old.page_unit) × (old.page_unit ≤ PAGE_SIZE)
  pub data_pages : old.data_pages ≡ field file DATA_PAGES
  pub object_table : (old.object_table ≡ table file OBJECT_TABLE) × (old.object_table < 2 ^ 33)
  pub page_table : (old.page_table ≡ table file OBJECT_PAGE_TABLE) × (old.page_table < 2 ^ 33)
  pub fixup_pages : (old.fixup_pages ≡ table file FIXUP_PAGE_TABLE) × (old.fixup_pages < 2 ^ 33)
  pub has_records : old.has_records ≡ has_records file
  pub resources : old.resources ≡ field file RESOURCE_COUNT

-- The layout is that of the file with these items, and the whole is not too large.
pub record IsLayoutOf (file : List ℕ) (items : List ResItem) (layout : Layout) : Type 0 where
  pub size : layout.size ≡ object_size items
  pub pages : layout.pages ≡ new_page_count items
  pub contents : layout.contents ≡ data_place file (new_page_count items)
  pub objects : layout.objects ≡ objects_place file items
  pub page_table : layout.page_table ≡ pages_place file items
  pub fixups : layout.fixups ≡ fixups_place file items
  pub resources : layout.resources ≡ resources_place file items
  pub small : end_place file items ≤ MAX_FILE

-- What a bound file is written from: the numbers are those of the file, the objects its own, and the layout that of both.
pub record IsPlanOf (file : List ℕ) (tables : OldTables) (objects : List ObjHead) (items : List ResItem) (layout : Layout) : Type 0 where
  pub numbers : AreTablesOf file tables
  pub heads : objects ≡ objects_of file
  pub places : IsLayoutOf file items layout
