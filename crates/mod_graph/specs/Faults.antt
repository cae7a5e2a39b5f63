-- What may keep a module from being loaded, kind by kind.
use Rattle.std.specs.Prelude.{ℕ, ◌||◌, false, List, map, Option, None, unwrap_or, slice_index_or, Result}
use Rattle.std.specs.List.{list_any}
use Rattle.lx_types.specs.declared.fix.FixTarget.{FixTarget}
use Rattle.lx_types.specs.declared.parts.Parts.{Parts}
use Rattle.lx_model.specs.declared.library.EntryFault.{EntryFault}
use Rattle.lx_model.specs.declared.library.EntryFault.TheVariants as entries
use Rattle.lx_model.specs.declared.library.Health.{Health}
use Rattle.lx_model.specs.declared.library.Health.TheVariants as health
use Rattle.lx_model.specs.declared.library.Spot.{Spot}
use Rattle.lx_model.specs.Entries.{target_spot}
use Rattle.lx_model.specs.Reading.{first, ◌then◌}
use Rattle.lx_model.specs.Reach.{lost_import, target_of_fault, ends_in}
use Rattle.mod_graph.specs.declared.health.Faults.{Faults}
use Rattle.mod_graph.specs.declared.health.Met.{Met}
use Rattle.mod_graph.specs.declared.health.Kind.{Kind}
use Rattle.mod_graph.specs.declared.health.Kind.TheVariants.{NoModule, NoEntry, ForwardLoop, Gate286}

-- ---- the faults of a module's targets

abbrev pub nothing_met : Met
nothing_met = record { no_entry = false; forward_loop = false; gate286 = false }

-- one more look-up
abbrev pub met_with : Result Spot EntryFault → Met → Met
met_with found met = record {
  no_entry = ends_in entries.NoEntry found || met.no_entry;
  forward_loop = ends_in entries.ForwardLoop found || met.forward_loop;
  gate286 = ends_in entries.Gate286 found || met.gate286;
}

-- which faults some of a module's targets have
abbrev pub met_by : List Parts → ℕ → List FixTarget → Met
met_by lib m targets = record {
  no_entry = list_any (λ t. ends_in entries.NoEntry (target_spot lib m t)) targets;
  forward_loop = list_any (λ t. ends_in entries.ForwardLoop (target_spot lib m t)) targets;
  gate286 = list_any (λ t. ends_in entries.Gate286 (target_spot lib m t)) targets;
}

-- ---- all faults of a module

-- the faults of a module of a library, each where it has one
abbrev pub faults_of : List Parts → ℕ → Faults
faults_of lib m = record {
  no_module = lost_import lib m;
  no_entry = target_of_fault entries.NoEntry (health.NoEntry m) lib m;
  forward_loop = target_of_fault entries.ForwardLoop (health.ForwardLoop m) lib m;
  gate286 = target_of_fault entries.Gate286 (health.Gate286 m) lib m;
}

abbrev pub no_faults : Faults
no_faults = record { no_module = None; no_entry = None; forward_loop = None; gate286 = None }

-- the faults of module m in a list of those of all modules
abbrev pub listed : List Faults → ℕ → Faults
listed faults m = slice_index_or faults m no_faults

-- a kind of fault of a module
abbrev pub of_kind : Kind → Faults → Option Health
of_kind NoModule faults = faults.no_module
of_kind NoEntry faults = faults.no_entry
of_kind ForwardLoop faults = faults.forward_loop
of_kind Gate286 faults = faults.gate286

-- the first fault of a kind that the members of an order have
abbrev pub first_of_kind : Kind → List Faults → List ℕ → Option Health
first_of_kind kind faults order = first (map (λ m. of_kind kind (listed faults m)) order)

-- the first kind that a member of an order has, with the first such member
abbrev pub health_among : List Faults → List ℕ → Health
health_among faults order =
    unwrap_or
    (first_of_kind NoModule faults order
    then first_of_kind NoEntry faults order
    then first_of_kind ForwardLoop faults order
    then first_of_kind Gate286 faults order)
    health.Fit
