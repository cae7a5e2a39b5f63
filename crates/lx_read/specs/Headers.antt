-- The numbers of a header, against what the definitions read.
use Rattle.std.specs.Prelude.{◌≡◌, ℕ, ◌<◌, ◌≤◌, ◌^◌, List, length, Some, None, Result, Ok, Err, IfSome, if◌then◌else◌}
use Rattle.lx_types.specs.declared.refusal.LxRefusal.{LxRefusal}
use Rattle.lx_model.specs.declared.header_fields.TheConstants.{MODULE_FLAGS, EIP_OBJECT, EIP, PAGE_OFFSET_SHIFT, OBJECT_TABLE, OBJECT_PAGE_TABLE, ITERATED_PAGES, RESIDENT_NAME_TABLE, ENTRY_TABLE, FIXUP_PAGE_TABLE, FIXUP_RECORD_TABLE, IMPORT_MODULE_TABLE, IMPORT_PROCEDURE_TABLE, DATA_PAGES, NONRESIDENT_NAME_TABLE, NONRESIDENT_NAME_LENGTH}
use Rattle.lx_model.specs.Header.{field, table, header_place, header_fault, header_fields, page_count, object_count, import_count}
use Rattle.lx_model.specs.FixupPages.{has_records}
use Rattle.lx_head.specs.declared.head.Head.{Head}
use Rattle.lx_read.specs.declared.header.Header.{Header}

-- a place that is offset from the header by a number of 32 bits
abbrev pub IsNear : ℕ → Type 0
IsNear place = place < 2 ^ 33

-- the numbers are those of the header of a file whose places have 32 bits
pub record IsHeaderOf (file : List ℕ) (h : Header) : Type 0 where
  pub short : length file < 2 ^ 32
  pub place : h.place ≡ header_place file
  pub module_flags : h.module_flags ≡ field file MODULE_FLAGS
  pub pages : h.pages ≡ page_count file
  pub objects : h.objects ≡ object_count file
  pub imports : h.imports ≡ import_count file
  pub start : h.start ≡ (field file EIP_OBJECT, field file EIP)
  pub page_shift : h.page_shift ≡ field file PAGE_OFFSET_SHIFT
  -- offsets of pages are shifted by 12 bits at most
  pub shift : h.page_shift ≤ 12
  pub object_table : (h.object_table ≡ table file OBJECT_TABLE) × IsNear h.object_table
  pub page_table : (h.page_table ≡ table file OBJECT_PAGE_TABLE) × IsNear h.page_table
  pub iterated_pages : h.iterated_pages ≡ field file ITERATED_PAGES
  pub data_pages : h.data_pages ≡ field file DATA_PAGES
  pub resident_names : (h.resident_names ≡ table file RESIDENT_NAME_TABLE) × IsNear h.resident_names
  pub other_names : h.other_names ≡ field file NONRESIDENT_NAME_TABLE
  pub other_names_length : h.other_names_length ≡ field file NONRESIDENT_NAME_LENGTH
  pub import_modules : (h.import_modules ≡ table file IMPORT_MODULE_TABLE) × IsNear h.import_modules
  pub import_procedures : (h.import_procedures ≡ table file IMPORT_PROCEDURE_TABLE) × IsNear h.import_procedures
  pub entry_table : (h.entry_table ≡ table file ENTRY_TABLE) × IsNear h.entry_table
  pub fixup_pages : (h.fixup_pages ≡ (if has_records file then Some (table file FIXUP_PAGE_TABLE) else None)) × IfSome h.fixup_pages IsNear
  pub fixup_records : (h.fixup_records ≡ table file FIXUP_RECORD_TABLE) × IsNear h.fixup_records

-- a header as it stands in a file whose places have 32 bits
pub record IsHeadOf (file : List ℕ) (h : Head) : Type 0 where
  pub short : length file < 2 ^ 32
  pub place : h.place ≡ header_place file
  pub fields : h.fields ≡ header_fields file
  pub shift : field file PAGE_OFFSET_SHIFT ≤ 12

-- A header that is read has no fault; of another its first fault is told.
abbrev pub ReadsHeader : Result Header LxRefusal → List ℕ → Type 0
ReadsHeader (Ok header) file = (header_fault file ≡ None) × IsHeaderOf file header
ReadsHeader (Err e) file = header_fault file ≡ Some e
