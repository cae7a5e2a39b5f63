-- What a module reaches through imports, in which order that is loaded, and whether it can be loaded.
use Rattle.std.specs.Prelude.{◌≡◌, ℕ, zero, suc, ◌+◌, ◌==◌, Bool, true, false, List, [], ◌∷◌, ◌++◌, length, map, filter_map, fold, position, Contains, Option, Some, None, option_map, is_none, unwrap_or, Result, Ok, Err, if◌then◌else◌}
use Rattle.std.specs.List.{list_any}
use Rattle.lx_types.specs.declared.parts.Parts.{Parts}
use Rattle.lx_model.specs.declared.library.Spot.{Spot}
use Rattle.lx_model.specs.declared.library.EntryFault.{EntryFault}
use Rattle.lx_model.specs.declared.library.EntryFault.TheVariants as faults
use Rattle.lx_model.specs.declared.library.Health.{Health}
use Rattle.lx_model.specs.declared.library.Health.TheVariants.{Fit, NoModule, NoEntry, ForwardLoop, Gate286}
use Rattle.lx_model.specs.Reading.{first, ◌then◌}
use Rattle.lx_model.specs.Library.{module_of, library_named}
use Rattle.lx_model.specs.Entries.{target_spot}

-- the libraries that a module's import table names, in its order
abbrev pub imports_of : List Parts → ℕ → List ℕ
imports_of lib m = filter_map (library_named lib) (module_of lib m).imports

-- ---- reach

-- The least set that holds m and, with a module, every library that its import table names.
pub data Reach (lib : List Parts) (m : ℕ) : ℕ → Type 0 where
  itself : Reach lib m m
  further : {a b : ℕ} → Reach lib m a → Contains (imports_of lib a) b → Reach lib m b

-- ---- order

-- the modules that were visited, and those of them that were added to the order
pub record Visits : Type 0 where
  pub visited : List ℕ
  pub order : List ℕ

abbrev pub is_among : List ℕ → ℕ → Bool
is_among modules m = list_any (λ other. other == m) modules

-- A visit to a module that was visited before adds nothing. Another one marks the module, visits the
-- libraries that its import table names, in order, and then adds the module; so modules that import each
-- other are each visited once. The visits are at most n deep; each marks a module more.
unfoldable pub visit : ℕ → List Parts → Visits → ℕ → Visits
visit zero lib before m = before
visit (suc n) lib before m =
    if is_among before.visited m then before
    else
    let marked : Visits = record { visited = m ∷ before.visited; order = before.order } in
    let after = fold (visit n lib) marked (imports_of lib m) in
    record { visited = after.visited; order = after.order ++ m ∷ [] }

-- What m reaches, each module after what it imports, where that does not lead back to it.
unfoldable pub Order : List Parts → ℕ → List ℕ
Order lib m = (visit (suc (length lib)) lib (record { visited = []; order = [] }) m).order

-- ---- health

-- the first name of a module's import table that means no library, from 1
abbrev pub lost_import : List Parts → ℕ → Option Health
lost_import lib m = option_map (λ k. NoModule m (k + 1)) (position (λ name. is_none (library_named lib name)) (module_of lib m).imports)

abbrev pub same_fault : EntryFault → EntryFault → Bool
same_fault faults.NoEntry faults.NoEntry = true
same_fault faults.Gate286 faults.Gate286 = true
same_fault faults.ForwardLoop faults.ForwardLoop = true
same_fault e f = false

abbrev pub ends_in : EntryFault → Result Spot EntryFault → Bool
ends_in e (Ok s) = false
ends_in e (Err f) = same_fault e f

-- one of the targets outside a module's own objects has this fault
abbrev pub target_of_fault : EntryFault → Health → List Parts → ℕ → Option Health
target_of_fault e kind lib m = if list_any (λ t. ends_in e (target_spot lib m t)) (module_of lib m).refs then Some kind else None

-- The first kind, in this order, that a member of the order has, with the first such member.
unfoldable pub HealthOf : List Parts → ℕ → Health
HealthOf lib m =
    let members = Order lib m in
    unwrap_or
    (first (map (lost_import lib) members)
    then first (map (λ by. target_of_fault faults.NoEntry (NoEntry by) lib by) members)
    then first (map (λ by. target_of_fault faults.ForwardLoop (ForwardLoop by) lib by) members)
    then first (map (λ by. target_of_fault faults.Gate286 (Gate286 by) lib by) members))
    Fit

-- the module can be loaded
abbrev pub IsFit : List Parts → ℕ → Type 0
IsFit lib m = HealthOf lib m ≡ Fit
