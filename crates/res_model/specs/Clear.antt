-- Which bytes of a module's file are read as something else than a field of its header: where none of them is in a field that
-- is set, the module stays what it is.
use Rattle.std.specs.Prelude.{ℕ, ◌+◌, ◌-◌, ◌*◌, ◌==◌, Bool, List, [], ◌∷◌, ◌++◌, length, drop, take, map, max, min, is_some, Ok, Err, nat_le, slice_index, if◌then◌else◌}
use Rattle.std.specs.List.{range_with_len, flat_map, list_all}
use Rattle.lx_types.specs.declared.entry.EntryHead.{EntryHead}
use Rattle.lx_types.specs.declared.entry.EntryHead.TheVariants.{At, Gate286, Forward}
use Rattle.lx_types.specs.declared.entry.FwdKey.{FwdKey}
use Rattle.lx_types.specs.declared.entry.FwdKey.TheVariants as keys
use Rattle.lx_types.specs.declared.fix.FixTarget.{FixTarget}
use Rattle.lx_types.specs.declared.fix.FixTarget.TheVariants as targets
use Rattle.lx_types.specs.declared.object.PageHead.{PageHead}
use Rattle.lx_types.specs.Parts.{name_at}
use Rattle.lx_model.specs.declared.lengths.TheConstants.{OBJECT_ENTRY_LEN, PAGE_ENTRY_LEN}
use Rattle.lx_model.specs.declared.header_fields.TheConstants.{MODULE_PAGES, OBJECT_TABLE, OBJECT_COUNT, OBJECT_PAGE_TABLE, RESOURCE_TABLE, RESOURCE_COUNT, RESIDENT_NAME_TABLE, ENTRY_TABLE, FIXUP_PAGE_TABLE, IMPORT_MODULE_TABLE, IMPORT_PROCEDURE_TABLE, NONRESIDENT_NAME_TABLE, NONRESIDENT_NAME_LENGTH, HEADER_PLACE}
use Rattle.lx_model.specs.Reading.{Many, many, cursor, value_or}
use Rattle.lx_model.specs.Header.{field, table, header_place, is_lx_at, page_count, object_count, import_count}
use Rattle.lx_model.specs.Tables.{page_heads}
use Rattle.lx_model.specs.NameTables.{name_entry, import_entry}
use Rattle.lx_model.specs.EntryTable.{bundle_at, entries_of}
use Rattle.lx_model.specs.FixupPages.{has_records, records_span}
use Rattle.lx_model.specs.Module.{targets_of}

-- some bytes of a file: where they begin, and how many they are
pub record Part : Type 0 where
  pub at : ℕ
  pub len : ℕ

abbrev pub part : ℕ → ℕ → Part
part at len = record { at = at; len = len }

-- no byte is in both
abbrev pub are_apart : Part → Part → Bool
are_apart p q = nat_le (min (p.at + p.len) (q.at + q.len)) (max p.at q.at)

-- ---- the fields that are set

-- a module without records has no fixup page table before and after
abbrev pub set_offsets : Bool → List ℕ
set_offsets records =
    MODULE_PAGES ∷ OBJECT_TABLE ∷ OBJECT_COUNT ∷ OBJECT_PAGE_TABLE ∷ RESOURCE_TABLE ∷ RESOURCE_COUNT
    ∷ (if records then FIXUP_PAGE_TABLE ∷ [] else [])

abbrev pub set_parts : List ℕ → List Part
set_parts file = map (λ offset. part (header_place file + offset) 4) (set_offsets (has_records file))

-- ---- what else is read

-- where the header stands, after a program for DOS
abbrev pub place_parts : List ℕ → List Part
place_parts file = if is_lx_at file 0 then [] else part HEADER_PLACE 4 ∷ []

-- a table that is read up to its own end, of these bytes, which stand at a place
abbrev pub taken : {A : Type 0} → ℕ → List ℕ → Many A → Part
taken at bytes read = elim (read.end) [ Ok end ↦ part at (length bytes - length end.left) | Err e ↦ part at (length bytes) ]

abbrev pub resident_part : List ℕ → Part
resident_part file =
    let bytes = drop (table file RESIDENT_NAME_TABLE) file in
    taken (table file RESIDENT_NAME_TABLE) bytes (many name_entry tt (cursor 0 bytes))

abbrev pub other_parts : List ℕ → List Part
other_parts file =
    if field file NONRESIDENT_NAME_LENGTH == 0 then []
    else let bytes = take (field file NONRESIDENT_NAME_LENGTH) (drop (field file NONRESIDENT_NAME_TABLE) file) in
    taken (field file NONRESIDENT_NAME_TABLE) bytes (many name_entry tt (cursor 0 bytes)) ∷ []

abbrev pub import_part : List ℕ → Part
import_part file =
    let bytes = drop (table file IMPORT_MODULE_TABLE) file in
    taken (table file IMPORT_MODULE_TABLE) bytes (many import_entry (import_count file) (cursor 0 bytes))

abbrev pub entry_part : List ℕ → Part
entry_part file =
    let bytes = drop (table file ENTRY_TABLE) file in
    taken (table file ENTRY_TABLE) bytes (many (bundle_at (object_count file) (import_count file)) 0 (cursor 0 bytes))

-- the fixup page table, and the records of each page
abbrev pub records_part : List ℕ → ℕ → Part
records_part file k = let s = records_span file k in part s.0 (s.1 - s.0)

abbrev pub fixup_parts : List ℕ → List Part
fixup_parts file =
    if has_records file
    then part (table file FIXUP_PAGE_TABLE) (4 * (page_count file + 1)) ∷ map (records_part file) (range_with_len 0 (page_count file))
    else []

-- the data of each page; of one without data it is empty
abbrev pub data_part : PageHead → Part
data_part page = part page.at page.len

-- a name of the import procedures, with its length byte; what passes the file's end is no name
abbrev pub name_parts : List ℕ → ℕ → List Part
name_parts file offset =
    let at = table file IMPORT_PROCEDURE_TABLE + offset in
    if is_some (name_at file at) then part at (1 + slice_index file at) ∷ [] else []

abbrev pub names_of_target : List ℕ → FixTarget → List Part
names_of_target file (targets.Internal object offset) = []
names_of_target file (targets.Ordinal import ordinal) = []
names_of_target file (targets.Named import name) = name_parts file name
names_of_target file (targets.Own ordinal) = []

abbrev pub names_of_key : List ℕ → FwdKey → List Part
names_of_key file (keys.Ordinal ordinal) = []
names_of_key file (keys.NameAt name) = name_parts file name

abbrev pub names_of_head : List ℕ → EntryHead → List Part
names_of_head file (At object offset) = []
names_of_head file (Gate286 object offset) = []
names_of_head file (Forward import key) = names_of_key file key

-- the names that fixup records and forwarders ask for
abbrev pub procedure_parts : List ℕ → List Part
procedure_parts file = flat_map (names_of_target file) (targets_of file) ++ flat_map (λ e. names_of_head file e.1) (value_or [] (entries_of file))

-- ---- all of it

unfoldable pub read_parts : List ℕ → List Part
read_parts file =
    place_parts file
    ++ part (table file OBJECT_TABLE) (OBJECT_ENTRY_LEN * object_count file) ∷ part (table file OBJECT_PAGE_TABLE) (PAGE_ENTRY_LEN * page_count file) ∷ []
    ++ resident_part file ∷ import_part file ∷ entry_part file ∷ []
    ++ other_parts file
    ++ fixup_parts file
    ++ map data_part (page_heads file)
    ++ procedure_parts file

-- No byte of the header's fields that are set is read as something else too: the doubleword at 3Ch, a table, a name, a record or
-- the data of a page.
unfoldable pub is_clear : List ℕ → Bool
is_clear file = list_all (λ p. list_all (are_apart p) (set_parts file)) (read_parts file)
