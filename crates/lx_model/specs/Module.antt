-- What an LX file means: its parts, and its first fault.
use Rattle.std.specs.Prelude.{◌≡◌, ℕ, ◌+◌, ◌<◌, ◌^◌, ◌==◌, ◌&&◌, not, Bool, true, false, List, [], ◌∷◌, ◌++◌, length, map, filter, Option, Some, None, is_some, if◌then◌else◌}
use Rattle.std.specs.List.{range_with_len, flat_map}
use Rattle.lx_types.specs.declared.refusal.LxRefusal.{LxRefusal}
use Rattle.lx_types.specs.declared.refusal.LxKind.TheVariants.{BadTarget}
use Rattle.lx_types.specs.declared.fix.FixTarget.{FixTarget}
use Rattle.lx_types.specs.declared.fix.FixTarget.TheVariants.{Internal, Ordinal, Named, Own}
use Rattle.lx_types.specs.declared.parts.Parts.{Parts}
use Rattle.lx_types.specs.Parts.{span, name_at, entry_of}
use Rattle.lx_model.specs.declared.header_fields.TheConstants.{MODULE_FLAGS, IMPORT_PROCEDURE_TABLE}
use Rattle.lx_model.specs.Reading.{fault, first, first_of, ◌then◌, Many, fault_of, value_or}
use Rattle.lx_model.specs.Header.{field, table, page_count, object_count, import_count, start_of, start_fault, header_fault}
use Rattle.lx_model.specs.Tables.{objects_of, objects_fault, page_heads, pages_fault}
use Rattle.lx_model.specs.NameTables.{name_of, names_after_first, resident_names, other_names, import_names, resident_fault, others_fault, imports_fault}
use Rattle.lx_model.specs.EntryTable.{Numbered, names_one_of, entries_of, entries_fault}
use Rattle.lx_model.specs.FixupPages.{spans_of, records_span, spans_fault}
use Rattle.lx_model.specs.Records.{Record, records_at, fixes_of}

-- ---- the targets that records name

-- the records of entry k of the page table, from 0
abbrev pub page_records : List ℕ → ℕ → Many Record
page_records file k = let s = records_span file k in records_at s.0 (span file s.0 s.1)

-- the targets of all records, in the order of pages and of sources
abbrev pub targets_of : List ℕ → List FixTarget
targets_of file = flat_map (λ k. map (λ f. f.target) (fixes_of (page_records file k))) (range_with_len 0 (page_count file))

abbrev pub same_target : FixTarget → FixTarget → Bool
same_target (Internal o x) (Internal p y) = o == p && x == y
same_target (Ordinal i x) (Ordinal j y) = i == j && x == y
same_target (Named i x) (Named j y) = i == j && x == y
same_target (Own x) (Own y) = x == y
same_target t u = false

-- a target outside the module's own objects
abbrev pub is_reference : FixTarget → Bool
is_reference (Internal o x) = false
is_reference (Ordinal i x) = true
is_reference (Named i x) = true
is_reference (Own x) = true

-- each of them once, where it stands first
abbrev pub once : List FixTarget → List FixTarget
once [] = []
once (t ∷ ts) = t ∷ filter (λ u. not (same_target t u)) (once ts)

unfoldable pub refs_of : List ℕ → List FixTarget
refs_of file = once (filter is_reference (targets_of file))

-- ---- the parts that a file lists

unfoldable pub parts_of : List ℕ → Parts
parts_of file = record {
  file = file;
  name = name_of file;
  flags = field file MODULE_FLAGS;
  start = start_of file;
  objects = objects_of file;
  pages = page_heads file;
  fix_spans = spans_of file;
  imports = value_or [] (import_names file);
  procs_at = table file IMPORT_PROCEDURE_TABLE;
  entries = value_or [] (entries_of file);
  names = names_after_first (value_or [] (resident_names file)) ++ names_after_first (value_or [] (other_names file));
  refs = refs_of file;
}

-- ---- the first fault

-- What targets name: so many objects and import modules, the names of the import procedures, which begin at a
-- place of the file, and the entries.
pub record Targets : Type 0 where
  pub objects : ℕ
  pub imports : ℕ
  pub file : List ℕ
  pub procs_at : ℕ
  pub entries : List Numbered

abbrev pub targets_in : List ℕ → Targets
targets_in file = record {
  objects = object_count file;
  imports = import_count file;
  file = file;
  procs_at = table file IMPORT_PROCEDURE_TABLE;
  entries = value_or [] (entries_of file);
}

-- A target's object, import or name is there, or its ordinal has an entry. Ordinals of other modules are
-- not judged.
abbrev pub is_target : Targets → FixTarget → Bool
is_target within (Internal object offset) = names_one_of within.objects object
is_target within (Ordinal import ordinal) = names_one_of within.imports import
is_target within (Named import name) = names_one_of within.imports import && is_some (name_at within.file (within.procs_at + name))
is_target within (Own ordinal) = is_some (entry_of within.entries ordinal)

-- A record with a source has one target, which is wrong at the record's first byte.
abbrev pub target_fault : Targets → Record → Option LxRefusal
target_fault within r = first (map (λ f. if is_target within f.target then None else Some (fault BadTarget r.at)) r.fixes)

-- the first fault of a page's records: a target of the good ones, or what follows them
abbrev pub records_fault : Targets → Many Record → Option LxRefusal
records_fault within records = first (map (target_fault within) records.items) then fault_of records.end

abbrev pub page_records_fault : List ℕ → ℕ → Option LxRefusal
page_records_fault file k = records_fault (targets_in file) (page_records file k)

-- The first fault of a file, in this order. What stands after a fault is not judged.
unfoldable pub LxFault : List ℕ → Option LxRefusal
LxFault file =
    header_fault file
    then objects_fault file
    then pages_fault file
    then resident_fault file
    then others_fault file
    then imports_fault file
    then entries_fault file
    then start_fault file
    then spans_fault file
    then first_of (page_count file) (page_records_fault file)

-- ---- what a file means

-- The file is an LX module with these parts: it has no fault, and lists them.
pub record Lx (file : List ℕ) (m : Parts) : Type 0 where
  pub faultless : LxFault file ≡ None
  pub parts : m ≡ parts_of file

-- A module that was read: its parts are those that its own file means. A library has no others.
pub record IsRead (m : Parts) : Type 0 where
  -- a place in the file has 32 bits
  pub short : length m.file < 2 ^ 32
  pub means : Lx m.file m
