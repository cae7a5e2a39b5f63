-- The sections of a written file, which stand one after the other without gaps, and where each begins.
use Rattle.std.specs.Prelude.{ℕ, ◌+◌, List, length}
use Rattle.std.specs.List.{flat_map}
use Rattle.link_model.specs.ImportTables.{name_table}
use Rattle.lx_model.specs.declared.lengths.TheConstants.{HEADER_LEN}
use Rattle.lx_model.specs.Bundles.{table_spelling}
use Rattle.lx_model.specs.NameTables.{names_spelling, import_spelling}
use Rattle.lx_model.specs.TableSpelling.{doublewords, objects_spelling, pages_spelling}
use Rattle.image_model.specs.Image.{Image}
use Rattle.image_model.specs.PageTables.{form_data, page_heads_from, page_records, record_offsets_from}

-- In the order in which they stand after the header.
pub record Sections : Type 0 where
  pub objects : List ℕ  -- the object table
  pub pages : List ℕ  -- the object page table
  pub residents : List ℕ  -- the resident name table
  pub entries : List ℕ  -- the entry table
  pub spans : List ℕ  -- the fixup page table
  pub records : List ℕ  -- the fixup records
  pub imports : List ℕ  -- the import module names
  pub procs : List ℕ  -- the import procedure names
  pub contents : List ℕ  -- the data of pages, plain and iterated
  pub others : List ℕ  -- the non-resident name table

unfoldable pub sections : Image → Sections
sections m = record {
  objects = objects_spelling m.objects;
  pages = pages_spelling (page_heads_from 0 m.pages);
  residents = names_spelling m.residents;
  entries = table_spelling m.entries;
  spans = doublewords (record_offsets_from 0 m.records);
  records = flat_map page_records m.records;
  imports = flat_map import_spelling m.imports;
  procs = name_table m.procs;
  contents = flat_map form_data m.pages;
  others = names_spelling m.others;
}

-- ---- places in the file; the header stands at its begin

abbrev pub objects_at : Sections → ℕ
objects_at s = HEADER_LEN

abbrev pub pages_at : Sections → ℕ
pages_at s = objects_at s + length s.objects

abbrev pub residents_at : Sections → ℕ
residents_at s = pages_at s + length s.pages

abbrev pub entries_at : Sections → ℕ
entries_at s = residents_at s + length s.residents

abbrev pub spans_at : Sections → ℕ
spans_at s = entries_at s + length s.entries

abbrev pub records_at : Sections → ℕ
records_at s = spans_at s + length s.spans

abbrev pub imports_at : Sections → ℕ
imports_at s = records_at s + length s.records

abbrev pub procs_at : Sections → ℕ
procs_at s = imports_at s + length s.imports

abbrev pub data_at : Sections → ℕ
data_at s = procs_at s + length s.procs

abbrev pub others_at : Sections → ℕ
others_at s = data_at s + length s.contents

-- ---- sizes that the header has

-- the loader section: from the object table to the entry table
abbrev pub loader_size : Sections → ℕ
loader_size s = length s.objects + length s.pages + length s.residents + length s.entries

-- the fixup section: from the fixup page table to the import procedure names
abbrev pub fixup_size : Sections → ℕ
fixup_size s = length s.spans + length s.records + length s.imports + length s.procs
