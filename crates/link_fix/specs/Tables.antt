-- The import tables of recorded fixups, where these are the import pairs of the link.
use Rattle.std.specs.Prelude.{◌≡◌, ℕ, List, Option, None, map, slice_get}
use Rattle.std.specs.List.{filter_map}
use Rattle.obj_types.specs.declared.symbol.Imp.{Imp}
use Rattle.link_model.specs.Goals.{Target, Internal, Constant, Entry}
use Rattle.link_model.specs.Fixups as rules
use Rattle.link_fix.specs.declared.tables.FirstNames.{FirstNames}
use Rattle.link_fix.specs.declared.tables.ImportTables.{ImportTables}
use Rattle.link_model.specs.ImportTables.{modules_in, procs_in}

abbrev pub pair_among : List Imp → Target → Option Imp
pair_among imports (Internal o offset) = None
pair_among imports (Constant value) = None
pair_among imports (Entry slot) = slice_get imports slot

-- The pairs that these fixups name.
abbrev pub pairs_among : List Imp → List rules.Fixup → List Imp
pairs_among imports qs = filter_map (λ q. pair_among imports q.target) qs

-- The places of names are those of the list.
abbrev pub AreFirst : FirstNames → List (List ℕ) → Type 0
AreFirst t names = (t.names ≡ names) × (t.places ≡ map (λ n. (n, tt)) names)

-- These are the tables of import pairs.
pub record ArePairs (t : ImportTables) (pairs : List Imp) : Type 0 where
  pub modules : AreFirst t.modules (modules_in pairs)
  pub procs : AreFirst t.procs (procs_in pairs)
