-- A module alone is a library, and can be loaded there where it imports nothing and has no references.
use Rattle.std.specs.Prelude.{◌≡◌, ℕ, zero, suc, ◌+◌, Bool, cond, List, [], ◌∷◌, Option, Some, None, if◌then◌else◌, is_none, map, nat_lt, position, refl}
use Rattle.std.specs.List.{list_any}
use Rattle.std.specs.Option.{option_map, option_and_then}
use Rattle.std.proofs.Common.{ap, arith}
use Rattle.std.proofs.lemmas.Bool.{le-ltb}
use Rattle.lx_types.specs.declared.fix.FixTarget.{FixTarget}
use Rattle.lx_types.specs.declared.parts.Parts.{Parts}
use Rattle.lx_model.specs.declared.library.EntryFault.{EntryFault}
use Rattle.lx_model.specs.declared.library.EntryFault.TheVariants as faults
use Rattle.lx_model.specs.declared.library.Health.{Health}
use Rattle.lx_model.specs.declared.library.Health.TheVariants.{NoModule, NoEntry, ForwardLoop, Gate286}
use Rattle.lx_model.specs.declared.library.LibraryRefusal.{LibraryRefusal}
use Rattle.lx_model.specs.declared.library.LibraryRefusal.TheVariants.{NameTwice}
use Rattle.lx_model.specs.Entries.{target_spot}
use Rattle.lx_model.specs.Gathering.{LibraryFault}
use Rattle.lx_model.specs.Library.{module_of, module_named, library_named}
use Rattle.lx_model.specs.Reach.{Order, lost_import, ends_in, target_of_fault, HealthOf, IsFit}
use Rattle.lx_model.specs.Reading.{first, ◌then◌}

-- ---- it is a library

none_before : (o : Option ℕ) → option_and_then (λ j. if nat_lt j 0 then Some (NameTwice j 0) else None) o ≡ None
none_before None = refl
none_before (Some j) = ap (λ (b : Bool). cond b (Some (NameTwice j 0)) None) (le-ltb j 0 (omega arith))

pub alone_gathers : (m : Parts) → LibraryFault (m ∷ []) ≡ None
unfolding LibraryFault
alone_gathers m = ap (λ (o : Option LibraryRefusal). first (o ∷ [])) (none_before (module_named (m ∷ []) m.name))

-- ---- it can be loaded

imports_none : (m : Parts) (k : ℕ) → m.imports ≡ [] → (module_of (m ∷ []) k).imports ≡ []
imports_none m zero none = none
imports_none m (suc k) none = refl

refs_none : (m : Parts) (k : ℕ) → m.refs ≡ [] → (module_of (m ∷ []) k).refs ≡ []
refs_none m zero none = none
refs_none m (suc k) none = refl

none_lost : (m : Parts) (k : ℕ) → m.imports ≡ [] → lost_import (m ∷ []) k ≡ None
none_lost m k none =
    ap (λ (names : List (List ℕ)). option_map (λ j. NoModule k (j + 1)) (position (λ name. is_none (library_named (m ∷ []) name)) names)) (imports_none m k none)

no_fault : (m : Parts) (k : ℕ) (e : EntryFault) (kind : Health) → m.refs ≡ [] → target_of_fault e kind (m ∷ []) k ≡ None
no_fault m k e kind none =
    ap (λ (ts : List FixTarget). if list_any (λ t. ends_in e (target_spot (m ∷ []) k t)) ts then Some kind else None) (refs_none m k none)

no_first : (f : ℕ → Option Health) → ((k : ℕ) → f k ≡ None) → (ks : List ℕ) → first (map f ks) ≡ None
no_first f none [] = refl
no_first f none (k ∷ ks) = rw (none k) (no_first f none ks)

pub alone_fit : (m : Parts) → m.imports ≡ [] → m.refs ≡ [] → IsFit (m ∷ []) 0
unfolding HealthOf
alone_fit m imports refs =
    let lib = m ∷ [] in
    let members = Order lib 0 in
    let a = no_first (lost_import lib) (λ by. none_lost m by imports) members in
    let b = no_first (λ by. target_of_fault faults.NoEntry (NoEntry by) lib by) (λ by. no_fault m by faults.NoEntry (NoEntry by) refs) members in
    let c = no_first (λ by. target_of_fault faults.ForwardLoop (ForwardLoop by) lib by) (λ by. no_fault m by faults.ForwardLoop (ForwardLoop by) refs) members in
    let d = no_first (λ by. target_of_fault faults.Gate286 (Gate286 by) lib by) (λ by. no_fault m by faults.Gate286 (Gate286 by) refs) members in
    rw (a, b, c, d) refl
