-- What the definitions say of tables, records and iterated data.
use Rattle.std.specs.Prelude.{◌≡◌, ℕ, ◌+◌, ◌*◌, ◌≤◌, map, Some, List, [], ◌∷◌, ◌++◌, length, None, Ok, if◌then◌else◌}
use Rattle.std.specs.List.{flat_map, list_any, range_with_len, AllByRecursion}
use Rattle.lx_bytes.specs.Cursor.{Cursor}
use Rattle.lx_bytes.specs.LittleEndian.{AreBytes}
use Rattle.lx_types.specs.declared.object.TheConstants.{PAGE_SIZE}
use Rattle.lx_types.specs.declared.fix.Fix.{Fix}
use Rattle.lx_types.specs.declared.fix.FixTarget.{FixTarget}
use Rattle.lx_types.specs.declared.object.ObjHead.{ObjHead}
use Rattle.lx_types.specs.declared.object.PageHead.{PageHead}
use Rattle.lx_model.specs.declared.lengths.TheConstants.{OBJECT_ENTRY_LEN, PAGE_ENTRY_LEN}
use Rattle.lx_model.specs.Reading.{fault_of, number_at, OneByOne}
use Rattle.lx_model.specs.Header.{header_fields}
use Rattle.lx_model.specs.Tables.{object_entry}
use Rattle.lx_model.specs.TableSpelling.{doublewords, AreDoublewords, header_spelling, HeaderFits, objects_spelling, ObjectHeadFits, page_fields, pages_spelling, PageHeadFits}
use Rattle.lx_model.specs.Module.{same_target, once}
use Rattle.lx_model.specs.Iterated.{Group, groups_spelling, groups_data, GroupFits, group_at, expansion}
use Rattle.lx_model.specs.NameTables.{Named, name_entry, names_in, names_spelling, NameFits, import_entry, imports_in, import_spelling, ImportFits}
use Rattle.lx_model.specs.EntryTable.{Numbered, bundle_at, entries_in}
use Rattle.lx_model.specs.declared.limits.TheConstants.{MAX_ORDINAL}
use Rattle.lx_model.specs.Bundles.{Bundle, ordinals_together, table_spelling, entries_after, BundleFits}
use Rattle.lx_model.specs.Records.{record_at, next_record, records_at, records_in, fixes_of}
use Rattle.lx_model.specs.RecordSpelling.{Written, record_spelling, fixes_written, RecordFits}

-- ---- A table goes on after its first item, and each item takes a byte or more.

abbrev pub NamesGoOn : Type 0
NamesGoOn = OneByOne name_entry

abbrev pub ImportsGoOn : Type 0
ImportsGoOn = OneByOne import_entry

abbrev pub BundlesGoOn : Type 0
BundlesGoOn = (objects imports : ℕ) → OneByOne (bundle_at objects imports)

abbrev pub RecordsGoOn : Type 0
RecordsGoOn = OneByOne next_record

abbrev pub GroupsGoOn : Type 0
GroupsGoOn = OneByOne group_at

-- One target more stands at the end, unless it stood there before.
abbrev pub OneTargetMore : Type 0
OneTargetMore = (ts : List FixTarget) (t : FixTarget) → once (ts ++ t ∷ []) ≡ (if list_any (λ u. same_target u t) (once ts) then once ts else once ts ++ t ∷ [])

-- ---- What was written is read again.

-- a name table, whatever follows it
abbrev pub NamesReadAgain : Type 0
NamesReadAgain = (ns : List Named) (rest : List ℕ) → AllByRecursion NameFits ns → names_in (names_spelling ns ++ rest) ≡ Ok ns

-- the names of import modules, whatever follows them
abbrev pub ImportsReadAgain : Type 0
ImportsReadAgain =
    (names : List (List ℕ)) (rest : List ℕ) → AllByRecursion ImportFits names → imports_in (length names) (flat_map import_spelling names ++ rest) ≡ Ok names

-- an entry table, whatever follows it: the ordinals of its bundles, one after the other
abbrev pub EntriesReadAgain : Type 0
EntriesReadAgain =
    (objects imports : ℕ) (bs : List Bundle) (rest : List ℕ) → AllByRecursion (BundleFits objects imports) bs → ordinals_together bs ≤ MAX_ORDINAL →
    entries_in objects imports (table_spelling bs ++ rest) ≡ Ok (entries_after 0 bs)

-- the records of a page: one fixup for each source, in the order in which they stand
abbrev pub RecordsReadAgain : Type 0
RecordsReadAgain =
    (ws : List Written) → AllByRecursion RecordFits ws →
    (fixes_of (records_in (flat_map record_spelling ws)) ≡ flat_map fixes_written ws) × (fault_of (records_in (flat_map record_spelling ws)).end ≡ None)

-- groups that give no more than a page
abbrev pub GroupsReadAgain : Type 0
GroupsReadAgain = (gs : List Group) → AllByRecursion GroupFits gs → length (groups_data gs) ≤ PAGE_SIZE → expansion (groups_spelling gs) ≡ Ok (groups_data gs)

-- entries of tables by places, wherever the table begins and whatever follows it: the fixup page table, the
-- object table, and the page table
abbrev pub DoublewordsReadAgain : Type 0
DoublewordsReadAgain =
    (before ns rest : List ℕ) → AreDoublewords ns →
    map (λ k. number_at 4 (before ++ (doublewords ns ++ rest)) (length before + 4 * k)) (range_with_len 0 (length ns)) ≡ ns

abbrev pub ObjectsReadAgain : Type 0
ObjectsReadAgain =
    (before : List ℕ) (os : List ObjHead) (rest : List ℕ) → AllByRecursion ObjectHeadFits os →
    map (λ k. object_entry (before ++ (objects_spelling os ++ rest)) (length before + OBJECT_ENTRY_LEN * k)) (range_with_len 0 (length os)) ≡ os

abbrev pub PagesReadAgain : Type 0
PagesReadAgain =
    (before : List ℕ) (ps : List PageHead) (rest : List ℕ) → AllByRecursion PageHeadFits ps →
    map (λ k. page_fields (before ++ (pages_spelling ps ++ rest)) (length before + PAGE_ENTRY_LEN * k)) (range_with_len 0 (length ps)) ≡ map Some ps

-- the fields of a header at the file's start
abbrev pub HeaderReadAgain : Type 0
HeaderReadAgain = (fields rest : List ℕ) → HeaderFits fields → header_fields (header_spelling fields ++ rest) ≡ fields

-- ---- What is read is spelled so, each byte of it.

-- a record, with the sizes that its flags name
abbrev pub RecordIsSpelled : Type 0
RecordIsSpelled =
    (c d : Cursor) (fixes : List Fix) → AreBytes c.left → record_at c ≡ Ok (fixes, d) →
    (w : Written) × RecordFits w × (fixes ≡ fixes_written w) × (c.left ≡ record_spelling w ++ d.left)

-- the records of a page, where none of them has a fault: all of them, and nothing else
abbrev pub RecordsAreSpelled : Type 0
RecordsAreSpelled =
    (at : ℕ) (bytes : List ℕ) → AreBytes bytes → fault_of (records_at at bytes).end ≡ None →
    (ws : List Written) × AllByRecursion RecordFits ws × (fixes_of (records_at at bytes) ≡ flat_map fixes_written ws) × (bytes ≡ flat_map record_spelling ws)

-- a name table, and what follows it
abbrev pub NamesAreSpelled : Type 0
NamesAreSpelled =
    (bytes : List ℕ) (ns : List Named) → AreBytes bytes → names_in bytes ≡ Ok ns →
    (rest : List ℕ) × AllByRecursion NameFits ns × (bytes ≡ names_spelling ns ++ rest)

-- the names of import modules, and what follows them
abbrev pub ImportsAreSpelled : Type 0
ImportsAreSpelled =
    (n : ℕ) (bytes : List ℕ) (names : List (List ℕ)) → AreBytes bytes → imports_in n bytes ≡ Ok names →
    (rest : List ℕ) × AllByRecursion ImportFits names × (bytes ≡ flat_map import_spelling names ++ rest)

-- an entry table, and what follows it
abbrev pub EntriesAreSpelled : Type 0
EntriesAreSpelled =
    (objects imports : ℕ) (bytes : List ℕ) (es : List Numbered) → AreBytes bytes → entries_in objects imports bytes ≡ Ok es →
    (bs : List Bundle) × (rest : List ℕ) × AllByRecursion (BundleFits objects imports) bs × (ordinals_together bs ≤ MAX_ORDINAL) × (es ≡ entries_after 0 bs)
    × (bytes ≡ table_spelling bs ++ rest)

-- iterated data, which gives a page or less
abbrev pub GroupsAreSpelled : Type 0
GroupsAreSpelled =
    (bytes given : List ℕ) → AreBytes bytes → expansion bytes ≡ Ok given →
    (gs : List Group) × AllByRecursion GroupFits gs × (bytes ≡ groups_spelling gs) × (given ≡ groups_data gs) × (length given ≤ PAGE_SIZE)
