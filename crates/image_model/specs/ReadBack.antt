-- What a written file is read as: the parts of its image.
use Rattle.std.specs.Prelude.{◌≡◌, ◌≢◌, ℕ, ◌+◌, ◌<◌, ◌≤◌, ◌^◌, true, IfSome, List, [], ◌∷◌, ◌++◌, length, map, filter, Ok}
use Rattle.std.specs.List.{flat_map, AllByRecursion}
use Rattle.lx_types.specs.declared.fix.FixTarget.{FixTarget}
use Rattle.lx_types.specs.declared.object.PageHead.{PageHead}
use Rattle.lx_types.specs.declared.object.PageKind.TheVariants.{Plain, Iterated, Invalid, Zero}
use Rattle.lx_types.specs.declared.object.TheConstants.{PAGE_SIZE}
use Rattle.lx_types.specs.declared.parts.Parts.{Parts}
use Rattle.lx_types.specs.Sound.{IsNumberOf, HasPages}
use Rattle.lx_types.specs.declared.limits.TheConstants.{MAX_PAGES, MAX_OBJECTS}
use Rattle.lx_model.specs.Bundles.{entries_after, ordinals_together, BundleFits}
use Rattle.lx_model.specs.EntryTable.{entries_of}
use Rattle.lx_model.specs.declared.limits.TheConstants.{MAX_ORDINAL}
use Rattle.lx_model.specs.FixupPages.{spans_of}
use Rattle.lx_model.specs.Header.{is_module_flags, header_fields}
use Rattle.lx_model.specs.Iterated.{groups_spelling, groups_data, GroupFits}
use Rattle.lx_model.specs.Module.{once, is_reference, is_target, Lx, Targets}
use Rattle.lx_model.specs.NameTables.{first_name, names_after_first, NameFits, ImportFits, resident_names, other_names, import_names}
use Rattle.lx_model.specs.RecordSpelling.{Written, fixes_written, RecordFits}
use Rattle.lx_model.specs.TableSpelling.{ObjectHeadFits}
use Rattle.lx_model.specs.Tables.{objects_of, page_heads}
use Rattle.image_model.specs.Image.{Image, PageForm, plain, iterated, zeros}
use Rattle.image_model.specs.PageTables.{page_heads_from, page_records}
use Rattle.image_model.specs.Sections.{sections, data_at, records_at, procs_at}
use Rattle.image_model.specs.File.{file_of, header_fields_of}

-- ---- pages and records, at their places in the file

-- Data stands after the begin of all page data; a page of zeros has none.
abbrev pub placed_page : ℕ → PageHead → PageHead
placed_page from page = elim page.kind [
  | Plain ↦ record page { at = from + page.at }
  | Iterated ↦ record page { at = from + page.at }
  | Invalid ↦ page
  | Zero ↦ page
]

-- Where the records of each page begin and end.
abbrev pub spans_from : ℕ → List (List Written) → List (ℕ × ℕ)
spans_from at [] = []
spans_from at (page ∷ pages) = (at, at + length (page_records page)) ∷ spans_from (at + length (page_records page)) pages

-- The targets of all sources, in the order of pages and of records.
abbrev pub targets_of : Image → List FixTarget
targets_of m = flat_map (λ page. map (λ f. f.target) (flat_map fixes_written page)) m.records

-- ---- the parts

unfoldable pub parts_of_image : Image → Parts
parts_of_image m = record {
  file = file_of m;
  name = first_name m.residents;
  flags = m.flags;
  start = m.start;
  objects = m.objects;
  pages = map (placed_page (data_at (sections m))) (page_heads_from 0 m.pages);
  fix_spans = spans_from (records_at (sections m)) m.records;
  imports = m.imports;
  procs_at = procs_at (sections m);
  entries = entries_after 0 m.entries;
  names = names_after_first m.residents ++ names_after_first m.others;
  refs = once (filter is_reference (targets_of m));
}

-- ---- what has a file that can be read

-- Data and groups that a page has room for.
abbrev pub FormFits : PageForm → Type 0
FormFits (plain bytes) = length bytes ≤ PAGE_SIZE
FormFits (iterated groups) = AllByRecursion GroupFits groups × (length (groups_data groups) ≤ PAGE_SIZE) × (length (groups_spelling groups) < 2 ^ 16)
FormFits zeros = Unit {0}

-- An object and an offset that fit their fields.
abbrev pub PlaceFits : ℕ × ℕ → Type 0
PlaceFits place = (place.0 < 2 ^ 32) × (place.1 < 2 ^ 32)

-- What the targets of its records name.
abbrev pub targets_there : Image → Targets
targets_there m = record {
  objects = length m.objects;
  imports = length m.imports;
  file = file_of m;
  procs_at = procs_at (sections m);
  entries = entries_after 0 m.entries;
}

-- The numbers of an image fit their fields, and its tables fit each other.
pub record ImageFits (m : Image) : Type 0 where
  -- a place in the file has 32 bits
  pub short : length (file_of m) < 2 ^ 32
  pub flags : m.flags < 2 ^ 32
  pub kind : is_module_flags m.flags ≡ true
  pub start : IfSome m.start (λ place. IsNumberOf place.0 (length m.objects) × (place.1 < 2 ^ 32))
  pub stack : IfSome m.stack PlaceFits
  pub auto : m.auto < 2 ^ 32
  pub heap : m.heap < 2 ^ 32
  -- objects, and the pages of each
  pub few_objects : length m.objects ≤ MAX_OBJECTS
  pub objects : AllByRecursion ObjectHeadFits m.objects
  pub own_pages : AllByRecursion (HasPages (length m.pages)) m.objects
  pub few_pages : length m.pages ≤ MAX_PAGES
  pub pages : AllByRecursion FormFits m.pages
  -- records of each page, and what they name
  pub each : length m.records ≡ length m.pages
  pub records : AllByRecursion (AllByRecursion RecordFits) m.records
  pub targets : AllByRecursion (λ target. is_target (targets_there m) target ≡ true) (targets_of m)
  -- names, the module's first, and entries
  pub named : m.residents ≢ []
  pub residents : AllByRecursion NameFits m.residents
  pub others : AllByRecursion NameFits m.others
  pub entries : AllByRecursion (BundleFits (length m.objects) (length m.imports)) m.entries
  pub ordinals : ordinals_together m.entries ≤ MAX_ORDINAL
  -- a module's number has 16 bits
  pub few_imports : length m.imports < 2 ^ 16
  pub imports : AllByRecursion ImportFits m.imports

-- ---- laws

-- The header of a file has the fields that were written.
abbrev pub FieldsReadBack : Type 0
FieldsReadBack = (m : Image) → ImageFits m → header_fields (file_of m) ≡ header_fields_of m (sections m)

-- So do the object table, the page table, the fixup page table, the name tables, the import modules and the entry table.
pub record SectionsRead (m : Image) : Type 0 where
  pub objects : objects_of (file_of m) ≡ m.objects
  pub pages : page_heads (file_of m) ≡ map (placed_page (data_at (sections m))) (page_heads_from 0 m.pages)
  pub spans : spans_of (file_of m) ≡ spans_from (records_at (sections m)) m.records
  pub residents : resident_names (file_of m) ≡ Ok m.residents
  pub others : other_names (file_of m) ≡ Ok m.others
  pub imports : import_names (file_of m) ≡ Ok m.imports
  pub entries : entries_of (file_of m) ≡ Ok (entries_after 0 m.entries)

abbrev pub SectionsReadBack : Type 0
SectionsReadBack = (m : Image) → ImageFits m → SectionsRead m

-- The file of an image has no fault, and the parts that it lists are those of the image.
abbrev pub FilesReadBack : Type 0
FilesReadBack = (m : Image) → ImageFits m → Lx (file_of m) (parts_of_image m)
