-- The resident and the non-resident name table, and the import tables.
-- "32-bit Linear eXecutable Module Format": "Resident or Non-resident Name Table Entry", "Import Module Name Table",
-- "Import Procedure Name Table".
use Rattle.std.specs.Prelude.{ℕ, zero, suc, ◌<◌, ◌^◌, ◌==◌, List, [], ◌∷◌, ◌++◌, length, take, drop, Option, Some, None, Result, Ok, Err, if◌then◌else◌}
use Rattle.std.specs.List.{flat_map}
use Rattle.lx_bytes.specs.Cursor.{Cursor}
use Rattle.lx_bytes.specs.LittleEndian.{little_bytes}
use Rattle.lx_types.specs.declared.refusal.LxRefusal.{LxRefusal}
use Rattle.lx_types.specs.declared.refusal.LxKind.TheVariants as kinds
use Rattle.lx_model.specs.declared.header_fields.TheConstants.{RESIDENT_NAME_TABLE, IMPORT_MODULE_TABLE, NONRESIDENT_NAME_TABLE, NONRESIDENT_NAME_LENGTH}
use Rattle.lx_model.specs.Reading.{fault, cursor, text, number, Read, ◌>>=◌, Step, ends, many, whole, placed, fault_of, value_or}
use Rattle.lx_model.specs.Header.{field, table, import_count}

-- ---- a table of names with ordinals

-- a name and its ordinal
abbrev pub Named : Type 0
Named = List ℕ × ℕ

-- An entry is a length byte, as many bytes, and an ordinal word; a length of 0 ends the table. Nothing has
-- to be known of the entries before it.
unfoldable pub name_entry : Step (Unit {0}) Named
name_entry known c = do
  len ← number 1 c
  if len.0 == 0 then ends len.1 else do
    name ← text len.0 len.1
    ordinal ← number 2 name.1
    Ok (Some ((name.0, ordinal.0), tt), ordinal.1)

-- the names of a table; places are places in the table
abbrev pub names_in : List ℕ → Result (List Named) LxRefusal
names_in bytes = whole (many name_entry tt (cursor 0 bytes))

-- ---- how it is written

abbrev pub name_spelling : Named → List ℕ
name_spelling n = length n.0 ∷ n.0 ++ little_bytes 2 n.1

-- a table ends with a length of 0
abbrev pub names_spelling : List Named → List ℕ
names_spelling ns = flat_map name_spelling ns ++ 0 ∷ []

pub record NameFits (n : Named) : Type 0 where
  pub some : 0 < length n.0
  pub short : length n.0 < 256
  pub ordinal : n.1 < 2 ^ 16

-- ---- the two tables of a module

-- The resident table ends somewhere in the file. Its first entry is the module's name.
abbrev pub resident_names : List ℕ → Result (List Named) LxRefusal
resident_names file = placed (table file RESIDENT_NAME_TABLE) (names_in (drop (table file RESIDENT_NAME_TABLE) file))

-- The non-resident table is read within its length. Without one there are no names.
abbrev pub other_names : List ℕ → Result (List Named) LxRefusal
other_names file =
    if field file NONRESIDENT_NAME_LENGTH == 0 then Ok []
    else placed (field file NONRESIDENT_NAME_TABLE) (names_in (take (field file NONRESIDENT_NAME_LENGTH) (drop (field file NONRESIDENT_NAME_TABLE) file)))

abbrev pub lacks_name : List ℕ → List Named → Option LxRefusal
lacks_name file [] = Some (fault kinds.NameTable (table file RESIDENT_NAME_TABLE))
lacks_name file (name ∷ others) = None

abbrev pub resident_fault : List ℕ → Option LxRefusal
resident_fault file = elim (resident_names file) [ Ok names ↦ lacks_name file names | Err e ↦ Some e ]

abbrev pub others_fault : List ℕ → Option LxRefusal
others_fault file = fault_of (other_names file)

-- ---- import modules

-- a name that is not empty: a length byte, and as many bytes
unfoldable pub import_name : Cursor → Read (List ℕ)
import_name c = do
  len ← number 1 c
  if len.0 == 0 then Err (fault kinds.ImportTable c.at) else text len.0 len.1

-- What is known at a name is how many there are from there on.
unfoldable pub import_entry : Step ℕ (List ℕ)
import_entry zero c = ends c
import_entry (suc n) c = import_name c >>= λ name. Ok (Some (name.0, n), name.1)

-- the names of n import modules; places are places in the table
abbrev pub imports_in : ℕ → List ℕ → Result (List (List ℕ)) LxRefusal
imports_in n bytes = whole (many import_entry n (cursor 0 bytes))

-- how a name is written
abbrev pub import_spelling : List ℕ → List ℕ
import_spelling name = length name ∷ name

pub record ImportFits (name : List ℕ) : Type 0 where
  pub some : 0 < length name
  pub short : length name < 256

abbrev pub import_names : List ℕ → Result (List (List ℕ)) LxRefusal
import_names file = placed (table file IMPORT_MODULE_TABLE) (imports_in (import_count file) (drop (table file IMPORT_MODULE_TABLE) file))

abbrev pub imports_fault : List ℕ → Option LxRefusal
imports_fault file = fault_of (import_names file)

-- ---- what a module has of them

abbrev pub first_name : List Named → List ℕ
first_name [] = []
first_name (named ∷ others) = named.0

abbrev pub name_of : List ℕ → List ℕ
name_of file = first_name (value_or [] (resident_names file))

-- the names of both tables, after the first of each
abbrev pub names_after_first : List Named → List Named
names_after_first names = drop 1 names
