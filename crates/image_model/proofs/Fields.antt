-- The fields of a written header, by their offsets.
use Rattle.std.proofs.Common.{◌≡◌, ℕ, ◌+◌, List, refl, ap, ◌∙◌, arith}
use Rattle.std.specs.Prelude.{slice_index}
use Rattle.lx_model.specs.declared.header_fields.TheConstants.{MODULE_FLAGS, EIP_OBJECT, EIP, PAGE_OFFSET_SHIFT, OBJECT_TABLE, OBJECT_PAGE_TABLE, ITERATED_PAGES, RESIDENT_NAME_TABLE, ENTRY_TABLE, FIXUP_PAGE_TABLE, FIXUP_RECORD_TABLE, IMPORT_MODULE_TABLE, IMPORT_PROCEDURE_TABLE, DATA_PAGES, NONRESIDENT_NAME_TABLE, NONRESIDENT_NAME_LENGTH}
use Rattle.lx_model.specs.Header.{header_place, field, table, header_fields, page_count, object_count, import_count}
use Rattle.image_model.specs.Image.{Image}
use Rattle.image_model.specs.Sections.{sections, objects_at, pages_at, residents_at, entries_at, spans_at, records_at, imports_at, procs_at, data_at, others_at}
use Rattle.image_model.specs.File.{header_fields_of, file_of, object_field, offset_field}
use Rattle.image_model.specs.ReadBack.{ImageFits}
use Rattle.image_model.proofs.HeaderRead.{fields_read}
use Rattle.std.specs.Prelude.{length}

field_number : (m : Image) → ImageFits m → (k : ℕ) → slice_index (header_fields (file_of m)) k ≡ slice_index (header_fields_of m (sections m)) k
field_number m fits k = ap (λ (xs : List ℕ). slice_index xs k) (fields_read m fits)

pub place_read : (m : Image) → header_place (file_of m) ≡ 0
unfolding file_of header_fields_of header_place
place_read m = refl

-- the table whose offset is field k of the header
table_number : (m : Image) → ImageFits m → (offset k : ℕ) → field (file_of m) offset ≡ slice_index (header_fields_of m (sections m)) k → table (file_of m) offset ≡ slice_index (header_fields_of m (sections m)) k
table_number m fits offset k is = ap (λ (n : ℕ). n + field (file_of m) offset) (place_read m) ∙ no_front (field (file_of m) offset) ∙ is
  where
    no_front : (n : ℕ) → 0 + n ≡ n
    no_front n = omega arith

-- What the header says of each table.
pub record Tables (m : Image) : Type 0 where
  pub flags : field (file_of m) MODULE_FLAGS ≡ m.flags
  pub page_number : page_count (file_of m) ≡ length m.pages
  pub start_object : field (file_of m) EIP_OBJECT ≡ object_field m.start
  pub start_offset : field (file_of m) EIP ≡ offset_field m.start
  pub shift : field (file_of m) PAGE_OFFSET_SHIFT ≡ 0
  pub objects : table (file_of m) OBJECT_TABLE ≡ objects_at (sections m)
  pub object_number : object_count (file_of m) ≡ length m.objects
  pub pages : table (file_of m) OBJECT_PAGE_TABLE ≡ pages_at (sections m)
  pub iterated : field (file_of m) ITERATED_PAGES ≡ data_at (sections m)
  pub residents : table (file_of m) RESIDENT_NAME_TABLE ≡ residents_at (sections m)
  pub entries : table (file_of m) ENTRY_TABLE ≡ entries_at (sections m)
  pub span_offset : field (file_of m) FIXUP_PAGE_TABLE ≡ spans_at (sections m)
  pub spans : table (file_of m) FIXUP_PAGE_TABLE ≡ spans_at (sections m)
  pub records : table (file_of m) FIXUP_RECORD_TABLE ≡ records_at (sections m)
  pub imports : table (file_of m) IMPORT_MODULE_TABLE ≡ imports_at (sections m)
  pub import_number : import_count (file_of m) ≡ length m.imports
  pub procs : table (file_of m) IMPORT_PROCEDURE_TABLE ≡ procs_at (sections m)
  pub contents : field (file_of m) DATA_PAGES ≡ data_at (sections m)
  pub others : field (file_of m) NONRESIDENT_NAME_TABLE ≡ others_at (sections m)
  pub others_length : field (file_of m) NONRESIDENT_NAME_LENGTH ≡ length (sections m).others

pub tables : (m : Image) → ImageFits m → Tables m
unfolding header_fields_of
tables m fits = record {
  flags = field_number m fits 4;
  page_number = field_number m fits 5;
  start_object = field_number m fits 6;
  start_offset = field_number m fits 7;
  shift = field_number m fits 11;
  objects = table_number m fits OBJECT_TABLE 16 (field_number m fits 16);
  object_number = field_number m fits 17;
  pages = table_number m fits OBJECT_PAGE_TABLE 18 (field_number m fits 18);
  iterated = field_number m fits 19;
  residents = table_number m fits RESIDENT_NAME_TABLE 22 (field_number m fits 22);
  entries = table_number m fits ENTRY_TABLE 23 (field_number m fits 23);
  span_offset = field_number m fits 26;
  spans = table_number m fits FIXUP_PAGE_TABLE 26 (field_number m fits 26);
  records = table_number m fits FIXUP_RECORD_TABLE 27 (field_number m fits 27);
  imports = table_number m fits IMPORT_MODULE_TABLE 28 (field_number m fits 28);
  import_number = field_number m fits 29;
  procs = table_number m fits IMPORT_PROCEDURE_TABLE 30 (field_number m fits 30);
  contents = field_number m fits 32;
  others = field_number m fits 34;
  others_length = field_number m fits 35;
}
