-- The entry table: bundles of entry points with consecutive ordinals.
-- "32-bit Linear eXecutable Module Format": "Entry Table".
use Rattle.std.specs.Prelude.{ℕ, zero, suc, ◌+◌, ◌==◌, ◌&&◌, ◌%◌, not, Bool, List, [], ◌∷◌, drop, Some, Result, Ok, Err, Option, nat_lt, nat_le, if◌then◌else◌}
use Rattle.std.specs.List.{flat_map}
use Rattle.lx_bytes.specs.Cursor.{Cursor}
use Rattle.lx_types.specs.declared.refusal.LxRefusal.{LxRefusal}
use Rattle.lx_types.specs.declared.refusal.LxKind.TheVariants as kinds
use Rattle.lx_types.specs.declared.entry.EntryHead.{EntryHead}
use Rattle.lx_types.specs.declared.entry.EntryHead.TheVariants.{At, Gate286, Forward}
use Rattle.lx_types.specs.declared.entry.FwdKey.{FwdKey}
use Rattle.lx_types.specs.declared.entry.FwdKey.TheVariants as keys
use Rattle.lx_model.specs.declared.header_fields.TheConstants.{ENTRY_TABLE}
use Rattle.lx_model.specs.Reading.{fault, cursor, number, Read, ◌>>=◌, Step, ends, many, whole, placed, fault_of}
use Rattle.lx_model.specs.Header.{table, object_count, import_count}
use Rattle.lx_model.specs.declared.limits.TheConstants.{MAX_ORDINAL}

-- an ordinal and what it stands for
abbrev pub Numbered : Type 0
Numbered = ℕ × EntryHead

-- a number that counts from 1 names one of so many
abbrev pub names_one_of : ℕ → ℕ → Bool
names_one_of count number = nat_le 1 number && nat_le number count

-- ---- the entries of a bundle

-- a flags byte and an offset, of two or of four bytes
unfoldable pub at_entry : ℕ → ℕ → Cursor → Read EntryHead
at_entry width object c = do
  flags ← number 1 c
  offset ← number width flags.1
  Ok (At object offset.0, offset.1)

-- a flags byte, an offset word, and a word that the loader fills with the gate's selector
unfoldable pub gate_entry : ℕ → Cursor → Read EntryHead
gate_entry object c = do
  flags ← number 1 c
  offset ← number 2 flags.1
  gate ← number 2 offset.1
  Ok (Gate286 object offset.0, gate.1)

-- the low flag makes the number an ordinal, otherwise it is a name's offset
abbrev pub forward_key : ℕ → ℕ → FwdKey
forward_key flags number = if flags % 2 == 1 then keys.Ordinal number else keys.NameAt number

-- a flags byte, a module's number, and an ordinal or a name's offset
unfoldable pub forward_entry : ℕ → Cursor → Read EntryHead
forward_entry imports c = do
  flags ← number 1 c
  import ← number 2 flags.1
  if not (names_one_of imports import.0) then Err (fault kinds.EntryTable c.at) else do
    key ← number 4 import.1
    Ok (Forward import.0 (forward_key flags.0 key.0), key.1)

-- n entries, with the ordinals from `ordinal` on
unfoldable pub bundle_entries : ℕ → ℕ → (Cursor → Read EntryHead) → Cursor → Read (List Numbered)
bundle_entries zero ordinal read c = Ok ([], c)
bundle_entries (suc n) ordinal read c = do
  head ← read c
  others ← bundle_entries n (ordinal + 1) read head.1
  Ok ((ordinal, head.0) ∷ others.0, others.1)

-- an object's number, which the entries of a bundle share
unfoldable pub object_entries : ℕ → ℕ → ℕ → ℕ → (ℕ → Cursor → Read EntryHead) → Cursor → Read (List Numbered)
object_entries objects bundle n ordinal read c = do
  object ← number 2 c
  if not (names_one_of objects object.0) then Err (fault kinds.EntryTable bundle) else bundle_entries n ordinal (read object.0) object.1

-- ---- bundles

-- What stands after the count and the type of a bundle. Type 0 has nothing: its ordinals are unused.
-- Then there are 16-bit entries, gates of the 80286, 32-bit entries, and forwarders.
unfoldable pub bundle_of_type : ℕ → ℕ → ℕ → ℕ → ℕ → ℕ → Cursor → Read (List Numbered)
bundle_of_type zero objects imports bundle n ordinal c = Ok ([], c)
bundle_of_type (suc zero) objects imports bundle n ordinal c = object_entries objects bundle n ordinal (at_entry 2) c
bundle_of_type (suc (suc zero)) objects imports bundle n ordinal c = object_entries objects bundle n ordinal gate_entry c
bundle_of_type (suc (suc (suc zero))) objects imports bundle n ordinal c = object_entries objects bundle n ordinal (at_entry 4) c
bundle_of_type (suc (suc (suc (suc zero)))) objects imports bundle n ordinal c =
    number 2 c >>= λ reserved. bundle_entries n ordinal (forward_entry imports) reserved.1
bundle_of_type (suc (suc (suc (suc (suc k))))) objects imports bundle n ordinal c = Err (fault kinds.EntryTable bundle)

-- A bundle, after the last ordinal of those before it: a count byte, which ends the table where it is 0, a
-- type byte, and the entries. A bundle whose ordinals pass the last one is wrong at its count.
unfoldable pub bundle_at : ℕ → ℕ → Step ℕ (List Numbered)
bundle_at objects imports last c = do
  count ← number 1 c
  if count.0 == 0 then ends count.1 else if nat_lt MAX_ORDINAL (last + count.0) then Err (fault kinds.EntryTable c.at) else do
    type ← number 1 count.1
    entries ← bundle_of_type type.0 objects imports c.at count.0 (last + 1) type.1
    Ok (Some (entries.0, last + count.0), entries.1)

-- the entries of a table, for so many objects and import modules; places are places in the table
abbrev pub entries_in : ℕ → ℕ → List ℕ → Result (List Numbered) LxRefusal
entries_in objects imports bytes = whole (many (bundle_at objects imports) 0 (cursor 0 bytes)) >>= λ bundles. Ok (flat_map (λ es. es) bundles)

-- ---- the table of a module

abbrev pub entries_of : List ℕ → Result (List Numbered) LxRefusal
entries_of file = placed (table file ENTRY_TABLE) (entries_in (object_count file) (import_count file) (drop (table file ENTRY_TABLE) file))

abbrev pub entries_fault : List ℕ → Option LxRefusal
entries_fault file = fault_of (entries_of file)
