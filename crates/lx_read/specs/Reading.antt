-- What the reader has found of a file, part by part.
use Rattle.std.specs.Prelude.{◌≡◌, ℕ, List, [], ◌++◌, Option, None, Result, Ok, Err}
use Rattle.lx_types.specs.declared.fail.Fail.{Fail}
use Rattle.lx_types.specs.Answers.{if_said}
use Rattle.lx_types.specs.declared.refusal.LxRefusal.{LxRefusal}
use Rattle.lx_model.specs.Reading.{first_of, ◌then◌, value_or}
use Rattle.lx_model.specs.Judging.{IsFault}
use Rattle.lx_model.specs.Header.{page_count, start_of, start_fault}
use Rattle.lx_model.specs.Tables.{objects_of, objects_fault, page_heads, pages_fault}
use Rattle.lx_model.specs.NameTables.{resident_names, other_names, import_names, resident_fault, others_fault, imports_fault, name_of, names_after_first}
use Rattle.lx_model.specs.EntryTable.{entries_of, entries_fault}
use Rattle.lx_model.specs.FixupPages.{spans_of, spans_fault}
use Rattle.lx_model.specs.Module.{LxFault, refs_of, page_records_fault}
use Rattle.lx_read.specs.Headers.{IsHeaderOf}
use Rattle.lx_read.specs.declared.reading.Pages.{Pages}
use Rattle.lx_read.specs.declared.reading.Links.{Links}
use Rattle.lx_read.specs.declared.reading.Found.{Found}

-- the tables up to the non-resident names, and what is wrong first with them
abbrev pub pages_in : List ℕ → Pages
pages_in file = record {
  objects = objects_of file;
  pages = page_heads file;
  resident = value_or [] (resident_names file);
  others = value_or [] (other_names file);
}

abbrev pub fault_in_pages : List ℕ → Option LxRefusal
fault_in_pages file = objects_fault file then pages_fault file then resident_fault file then others_fault file

-- the tables from the import modules on
abbrev pub links_in : List ℕ → Links
links_in file = record {
  imports = value_or [] (import_names file);
  entries = value_or [] (entries_of file);
  start = start_of file;
  fix_spans = spans_of file;
  refs = refs_of file;
}

abbrev pub fault_in_links : List ℕ → Option LxRefusal
fault_in_links file =
    imports_fault file then entries_fault file then start_fault file then spans_fault file then first_of (page_count file) (page_records_fault file)

-- all that a file without a fault says
pub record IsFoundIn (file : List ℕ) (found : Found) : Type 0 where
  pub header : IsHeaderOf file found.header
  pub name : found.name ≡ name_of file
  pub names : found.names ≡ names_after_first (value_or [] (resident_names file)) ++ names_after_first (value_or [] (other_names file))
  pub objects : found.objects ≡ objects_of file
  pub pages : found.pages ≡ page_heads file
  pub links : found.links ≡ links_in file

-- Of a file with a fault the first one is said. Want of memory is free.
abbrev pub Finds : Result Found (Fail LxRefusal) → List ℕ → Type 0
Finds (Ok found) file = (LxFault file ≡ None) × IsFoundIn file found
Finds (Err why) file = IsFault (if_said why) (LxFault file)
