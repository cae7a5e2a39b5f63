-- The import modules and the names of import procedures ("32-bit Linear eXecutable Module Format": "Import
-- Module Name Table", "Import Procedure Name Table"), in order of first use.
use Rattle.std.specs.Prelude.{◌≡◌, ℕ, suc, drop, ◌+◌, List, ◌++◌, ◌∷◌, Option, Some, None, map, length, take, slice_get, bytes_eq, sum_by}
use Rattle.std.specs.List.{filter_map, flat_map}
use Rattle.std.specs.Option.{option_map, option_and_then}
use Rattle.lx_types.specs.Names.{uppercase}
use Rattle.lx_types.specs.declared.entry.EntryKey.{EntryKey}
use Rattle.lx_types.specs.declared.entry.EntryKey.TheVariants as keys
use Rattle.lx_types.specs.declared.fix.FixTarget.{FixTarget}
use Rattle.lx_types.specs.declared.fix.FixTarget.TheVariants as leads
use Rattle.obj_types.specs.declared.symbol.Imp.{Imp}
use Rattle.link_model.specs.Appearance.{firsts, place_by}
use Rattle.link_model.specs.Link.{Link}
use Rattle.link_model.specs.Symbols.{imports}
use Rattle.link_model.specs.Goals.{Target, Internal, Constant, Entry}
use Rattle.link_model.specs.Exports.{ExportTarget, At, Forward, Out}
use Rattle.link_model.specs.Patches.{recorded}

abbrev pub pair_used : Link → Target → Option Imp
pair_used l (Internal o offset) = None
pair_used l (Constant value) = None
pair_used l (Entry slot) = slice_get (imports l) slot

-- The import pairs that records name.
unfoldable pub used_pairs : Link → List Imp
used_pairs l = filter_map (λ q. pair_used l q.target) (recorded l)

abbrev pub proc_name : EntryKey → Option (List ℕ)
proc_name (keys.Ordinal n) = None
proc_name (keys.Named name) = Some name

-- The import modules, in upper case and numbered from 1, and the names of import procedures, which stand once over
-- all modules.
abbrev pub modules_in : List Imp → List (List ℕ)
modules_in pairs = firsts bytes_eq (map (λ pair. uppercase pair.module) pairs)

abbrev pub procs_in : List Imp → List (List ℕ)
procs_in pairs = firsts bytes_eq (filter_map (λ pair. proc_name pair.entry) pairs)

-- A link has the pairs of its forwarders too, after them and in order of exports.
abbrev pub forwarded : ExportTarget → Option Imp
forwarded (At o offset) = None
forwarded (Forward pair) = Some pair

unfoldable pub link_pairs : Link → List Imp
link_pairs l = used_pairs l ++ filter_map (λ x. forwarded x.target) (Out l)

-- ---- how a record names an entry point

-- A name's place in the list of procedure names; `pairs` are those that the module's records name.
abbrev pub entry_target : List Imp → ℕ → EntryKey → Option FixTarget
entry_target pairs number (keys.Ordinal n) = Some (leads.Ordinal number n)
entry_target pairs number (keys.Named name) =
    option_map (λ k. leads.Named number k) (place_by bytes_eq (λ n. n) name (procs_in pairs))

abbrev pub import_target : List Imp → Imp → Option FixTarget
import_target pairs pair =
    option_and_then (λ k. entry_target pairs (k + 1) pair.entry)
    (place_by bytes_eq (λ n. n) (uppercase pair.module) (modules_in pairs))

-- ---- in a file

-- The table of procedure names: an empty name, then each name after its length.
abbrev pub name_bytes : List ℕ → List ℕ
name_bytes name = length name ∷ name

abbrev pub name_table : List (List ℕ) → List ℕ
name_table names = 0 ∷ flat_map name_bytes names

-- The offset in this table of the name at place k.
abbrev pub name_offset : List (List ℕ) → ℕ → ℕ
name_offset names k = 1 + sum_by (λ name. 1 + length name) (take k names)

-- A record of `Records` has a name's place in `procs_in`, and one in a file has its offset in the table.
abbrev pub with_offset : List (List ℕ) → FixTarget → FixTarget
with_offset names (leads.Internal object offset) = leads.Internal object offset
with_offset names (leads.Ordinal number ordinal) = leads.Ordinal number ordinal
with_offset names (leads.Named number k) = leads.Named number (name_offset names k)
with_offset names (leads.Own ordinal) = leads.Own ordinal

-- At its offset a name stands after its length, and after it the names that follow.
abbrev pub NamesAtOffsets : Type 0
NamesAtOffsets =
    (names : List (List ℕ)) (k : ℕ) (name : List ℕ) → slice_get names k ≡ Some name
    → drop (name_offset names k) (name_table names) ≡ name_bytes name ++ flat_map name_bytes (drop (suc k) names)
