-- What the writer of a module's tables answers.
use Rattle.std.specs.Prelude.{◌≡◌, ◌≤◌, ◌<◌, ◌^◌, ℕ, List, None, Ok}
use Rattle.lx_types.specs.Names.{IsName}
use Rattle.lx_types.specs.declared.entry.EntryHead.{EntryHead}
use Rattle.lx_types.specs.declared.entry.EntryHead.TheVariants.{At, Gate286, Forward}
use Rattle.lx_types.specs.declared.entry.FwdKey.{FwdKey}
use Rattle.lx_types.specs.declared.entry.FwdKey.TheVariants.{Ordinal, NameAt}
use Rattle.lx_model.specs.NameTables.{names_in, names_spelling}
use Rattle.lx_model.specs.EntryTable.{entries_in}
use Rattle.lx_model.specs.Bundles.{table_spelling}
use Rattle.lx_model.specs.ExportTables.{resident_table, other_table, entries_by_ordinal}
use Rattle.lx_model.specs.JoinedEntries.{bundles_for}
use Rattle.link_model.specs.Exports.{ordinals}
use Rattle.lx_exports.specs.declared.exports.OutEntry.{OutEntry}
use Rattle.lx_exports.specs.declared.exports.Tables.{Tables}
use Rattle.lx_exports.specs.Exports.{asked, exported_of, export_refusal}

-- These are the tables of a module with this name, this description and these exports.
pub record AreTablesOf (name about : List ℕ) (exports : List OutEntry) (t : Tables) : Type 0 where
  pub accepted : export_refusal exports ≡ None
  pub ordinals : t.ordinals ≡ ordinals (asked exports)
  pub resident : t.resident ≡ names_spelling (resident_table name (exported_of exports))
  pub entries : t.entries ≡ table_spelling (bundles_for (exported_of exports))
  pub others : t.others ≡ names_spelling (other_table name about (exported_of exports))

-- ---- what was written is read again

-- the object or the import module that a head names is there
abbrev pub HeadIsThere : ℕ → ℕ → EntryHead → Type 0
HeadIsThere objects imports (At object offset) = object ≤ objects
HeadIsThere objects imports (Gate286 object offset) = object ≤ objects
HeadIsThere objects imports (Forward import key) = import ≤ imports

-- The tables are read as what was to be written.
pub record AreReadAgain (objects imports : ℕ) (name about : List ℕ) (exports : List OutEntry) (t : Tables) : Type 0 where
  pub resident : names_in t.resident ≡ Ok (resident_table name (exported_of exports))
  pub entries : entries_in objects imports t.entries ≡ Ok (entries_by_ordinal (exported_of exports))
  pub others : names_in t.others ≡ Ok (other_table name about (exported_of exports))

-- ---- what the types of an export say

abbrev pub KeyHasRange : FwdKey → Type 0
KeyHasRange (Ordinal n) = n < 2 ^ 32
KeyHasRange (NameAt n) = n < 2 ^ 32

abbrev pub HeadHasRange : EntryHead → Type 0
HeadHasRange (At object offset) = offset < 2 ^ 32
HeadHasRange (Gate286 object offset) = offset < 2 ^ 32
HeadHasRange (Forward import key) = KeyHasRange key

pub record HasRange (x : OutEntry) : Type 0 where
  pub name : IsName x.name
  pub head : HeadHasRange x.head
