-- Where an entry point leads is in a module that its own module reaches: forwarders go by import tables.
use Rattle.std.proofs.Common.{◌≡◌, ℕ, zero, suc, ◌-◌, true, List, [], ◌∷◌, Option, Some, None, Result, Ok, Err, refl, sym, ◌∙◌, ap, subst, arith}
use Rattle.std.specs.Prelude.{Contains, slice_get, filter_map, option_map, option_and_then}
use Rattle.std.specs.List.{cons_option}
use Rattle.lx_types.specs.declared.entry.EntryHead.{EntryHead}
use Rattle.lx_types.specs.declared.entry.EntryHead.TheVariants as heads
use Rattle.lx_types.specs.declared.entry.EntryKey.{EntryKey}
use Rattle.lx_types.specs.declared.entry.EntryKey.TheVariants as keys
use Rattle.lx_types.specs.declared.entry.FwdKey.{FwdKey}
use Rattle.lx_types.specs.declared.entry.FwdKey.TheVariants as forward
use Rattle.lx_types.specs.Parts.{entry_of, ordinal_named, proc_name_of}
use Rattle.lx_model.specs.declared.library.Spot.{Spot}
use Rattle.lx_model.specs.declared.library.EntryFault.{EntryFault}
use Rattle.lx_model.specs.Library.{module_of, library_named, import_of}
use Rattle.lx_model.specs.Entries.{OrdinalOf, place_named, key_place, import_place, Stands, spot, fails, forwards, place_or_none, head_at, stands_at, followed, entry_count, entry_or_none, Entry}
use Rattle.lx_model.specs.Reach.{Reach, Order, imports_of}
use Rattle.lx_model.specs.Reach.Reach.{itself, further}
use Rattle.lx_model.specs.Laws.{ReachedIsOrdered}
use Rattle.load_model.specs.Modules.{Library, order_of, entry_spot}
use Rattle.load_model.specs.State.{is_among}
use Rattle.load_model.proofs.Orders.{through, contains_among}

-- the module of an entry point is in the order of the module that was asked
abbrev pub SpotsAreOrdered : Type 0
SpotsAreOrdered = (lib : Library) (m : ℕ) (key : EntryKey) (s : Spot) → entry_spot lib m key ≡ Ok s → is_among (order_of lib m) s.«module» ≡ true

-- ---- imports

later_contains : (y : ℕ) (xs : List ℕ) (x : ℕ) → Contains xs x → Contains (y ∷ xs) x
later_contains y xs x (k, below, is) = (suc k, omega arith, is)

kept_contains : (o : Option ℕ) (xs : List ℕ) (x : ℕ) → Contains xs x → Contains (cons_option o xs) x
kept_contains None xs x c = c
kept_contains (Some y) xs x c = later_contains y xs x c

first_contains : (o : Option ℕ) (xs : List ℕ) (x : ℕ) → o ≡ Some x → Contains (cons_option o xs) x
first_contains None xs x e = cc
first_contains (Some y) xs x e = (let same : y ≡ x = cc in (0, omega arith, same))

import_contains : (lib : Library) (names : List (List ℕ)) (i other : ℕ) → option_and_then (library_named lib) (slice_get names i) ≡ Some other →
    Contains (filter_map (library_named lib) names) other
import_contains lib [] i other e = (let wrong : None ≡ Some other = e in cc)
import_contains lib (name ∷ names) zero other e = first_contains (library_named lib name) (filter_map (library_named lib) names) other e
import_contains lib (name ∷ names) (suc i) other e = kept_contains (library_named lib name) (filter_map (library_named lib) names) other (import_contains lib names i other e)

named_in : (m : ℕ) (o : Option ℕ) (next : OrdinalOf) → option_map (λ ordinal. (m, ordinal)) o ≡ Some next → next.0 ≡ m
named_in m None next e = cc
named_in m (Some ordinal) next e = (let same : (m, ordinal) ≡ next = cc in ap (λ p. p.0) (sym same))

some_named_in : (lib : Library) (m : ℕ) (o : Option (List ℕ)) (next : OrdinalOf) → option_and_then (place_named lib m) o ≡ Some next → next.0 ≡ m
some_named_in lib m None next e = cc
some_named_in lib m (Some name) next e = named_in m (ordinal_named (module_of lib m).names name) next e

key_in : (lib : Library) (m : ℕ) (key : FwdKey) (other : ℕ) (next : OrdinalOf) → key_place lib m key other ≡ Some next → next.0 ≡ other
key_in lib m (forward.Ordinal ordinal) other next e = (let same : (other, ordinal) ≡ next = cc in ap (λ p. p.0) (sym same))
key_in lib m (forward.NameAt at) other next e = some_named_in lib other (proc_name_of (module_of lib m) at) next e

import_in : (lib : Library) (m import : ℕ) (key : FwdKey) (next : OrdinalOf) → import_place lib m import key ≡ Some next → Contains (imports_of lib m) next.0
import_in lib m import key next e = step (import_of lib m import) refl e
  where
    step : (o : Option ℕ) → import_of lib m import ≡ o → option_and_then (key_place lib m key) o ≡ Some next → Contains (imports_of lib m) next.0
    step None is e = cc
    step (Some other) is e =
        subst (Contains (imports_of lib m)) (sym (key_in lib m key other next e)) (import_contains lib (module_of lib m).imports (import - 1) other is)

-- ---- one place

spot_in : (lib : Library) (m : ℕ) (head : Option EntryHead) (s : Spot) → head_at lib m head ≡ spot s → s.«module» ≡ m
spot_in lib m None s e = cc
spot_in lib m (Some (heads.At object offset)) s e =
    let it : Spot = record { «module» = m; object = object; offset = offset } in
    let same : it ≡ s = cc in ap (λ x. x.«module») (sym same)
spot_in lib m (Some (heads.Gate286 object offset)) s e = cc
spot_in lib m (Some (heads.Forward import key)) s e = step (import_place lib m import key) e
  where
    step : (o : Option OrdinalOf) → place_or_none o ≡ spot s → s.«module» ≡ m
    step None e = cc
    step (Some place) e = cc

forward_in : (lib : Library) (m : ℕ) (head : Option EntryHead) (next : OrdinalOf) → head_at lib m head ≡ forwards next → Contains (imports_of lib m) next.0
forward_in lib m None next e = cc
forward_in lib m (Some (heads.At object offset)) next e = cc
forward_in lib m (Some (heads.Gate286 object offset)) next e = cc
forward_in lib m (Some (heads.Forward import key)) next e = step (import_place lib m import key) refl e
  where
    step : (o : Option OrdinalOf) → import_place lib m import key ≡ o → place_or_none o ≡ forwards next → Contains (imports_of lib m) next.0
    step None is e = cc
    step (Some place) is e = (let same : place ≡ next = cc in import_in lib m import key next (is ∙ ap Some same))

-- ---- from place to place

followed_in : (n : ℕ) (lib : Library) (place : OrdinalOf) (s : Spot) → followed n lib place ≡ Ok s → Reach lib place.0 s.«module»
unfolding followed
followed_in zero lib place s e = cc
followed_in (suc n) lib place s e = step (stands_at lib place) refl e (λ next f. followed_in n lib next s f)
  where
    step : (st : Stands) → stands_at lib place ≡ st →
        elim st as (λ _. Result Spot EntryFault) [ spot t ↦ Ok t | fails x ↦ Err x | forwards next ↦ followed n lib next ] ≡ Ok s →
        ((next : OrdinalOf) → followed n lib next ≡ Ok s → Reach lib next.0 s.«module») → Reach lib place.0 s.«module»
    step (spot t) is e later =
        let same : t ≡ s = cc in
        subst (Reach lib place.0) (sym (spot_in lib place.0 (entry_of (module_of lib place.0).entries place.1) s (is ∙ ap spot same))) itself
    step (fails x) is e later = (let wrong : Err x ≡ Ok s = e in cc)
    step (forwards next) is e later =
        through lib place.0 next.0 s.«module» (further itself (forward_in lib place.0 (entry_of (module_of lib place.0).entries place.1) next is)) (later next e)

entry_in : (lib : Library) (place : OrdinalOf) (s : Spot) → Entry lib place ≡ Ok s → Reach lib place.0 s.«module»
unfolding Entry
entry_in lib place s e = followed_in (suc (entry_count lib)) lib place s e

key_reach : (lib : Library) (m : ℕ) (key : EntryKey) (s : Spot) → entry_spot lib m key ≡ Ok s → Reach lib m s.«module»
unfolding entry_spot
key_reach lib m (keys.Ordinal ordinal) s e = entry_in lib (m, ordinal) s e
key_reach lib m (keys.Named name) s e = step (place_named lib m name) refl e
  where
    step : (o : Option OrdinalOf) → place_named lib m name ≡ o → entry_or_none lib o ≡ Ok s → Reach lib m s.«module»
    step None is e = cc
    step (Some place) is e =
        subst (λ k. Reach lib k s.«module») (named_in m (ordinal_named (module_of lib m).names name) place is) (entry_in lib place s e)

pub spots_are_ordered : ReachedIsOrdered → SpotsAreOrdered
unfolding order_of
spots_are_ordered ordered lib m key s e = contains_among (Order lib m) s.«module» (ordered lib m s.«module» (key_reach lib m key s e))
