-- What the tables of exports say together.
use Rattle.std.specs.Prelude.{◌≡◌, ◌≤◌, ℕ, List, ◌++◌, Ok}
use Rattle.std.specs.List.{AllByRecursion}
use Rattle.lx_model.specs.EntryTable.{entries_in}
use Rattle.lx_model.specs.declared.limits.TheConstants.{MAX_ORDINAL}
use Rattle.lx_model.specs.Bundles.{Bundle, table_spelling, BundleFits}
use Rattle.lx_model.specs.ExportTables.{Exported, greatest, AreBundlesOf, entries_by_ordinal}

-- The bundles of exports, whatever follows them, are read as the exports' entries, by rising ordinals.
abbrev pub ExportsReadAgain : Type 0
ExportsReadAgain =
    (objects imports : ℕ) (xs : List Exported) (bs : List Bundle) (rest : List ℕ) → AreBundlesOf xs bs → AllByRecursion (BundleFits objects imports) bs →
    greatest xs ≤ MAX_ORDINAL →
    entries_in objects imports (table_spelling bs ++ rest) ≡ Ok (entries_by_ordinal xs)

-- No two lists of bundles are those of the same exports.
abbrev pub BundlesAreOne : Type 0
BundlesAreOne = (xs : List Exported) (bs cs : List Bundle) → AreBundlesOf xs bs → AreBundlesOf xs cs → bs ≡ cs
