-- A refusal is the first cause of its list that holds.
use Rattle.std.proofs.Common.{◌≡◌, ℕ, Bool, true, false, List, [], ◌∷◌, ◌++◌, Option, Some, None, refl, sym, ◌∙◌, ap}
use Rattle.std.specs.Prelude.{is_none, is_some, option_map, not, nat_le}
use Rattle.lx_types.specs.declared.limits.TheConstants.{MAX_LOADS}
use Rattle.lx_types.specs.Object.{class_of}
use Rattle.lx_types.specs.declared.object.Class.{Class}
use Rattle.lx_types.specs.declared.object.Class.TheVariants as classes
use Rattle.lx_types.specs.declared.entry.EntryKey.{EntryKey}
use Rattle.load_model.specs.declared.commands.Place.{Place}
use Rattle.load_model.specs.declared.commands.Command.TheVariants as commands
use Rattle.load_model.specs.declared.commands.Refusal.{Refusal}
use Rattle.load_model.specs.declared.commands.Refusal.TheVariants.{Ended, Started, NoModule, NotLibrary, NotProgram, CountFull, NotHeld, NotAttached, Range, Invalid, NotTouched, NoResource}
use Rattle.load_model.specs.declared.deeds.How.TheVariants as ways
use Rattle.load_model.specs.Modules.{Library, is_library, unfit, entry_spot, object_at, number_of, resource_of}
use Rattle.load_model.specs.State.{Residence, Process, count_of, serial_of}
use Rattle.load_model.specs.Memory.{first_untouched}
use Rattle.load_model.specs.Refusals.{Purpose, touch, write, share, peek, debug, when, ◌orelse◌, is_held, module_or_none, module_refusal, enter_refusal, class_refusal, is_outside, covers_invalid, span_refusal, touch_refusal, residence_refusal, residence_named, place_refusal, spot_refusal, key_refusal, query_refusal, found_refusal, resource_refusal, refusal_of}
use Rattle.load_model.specs.Causes.{Cause, first_of, cause_of, number_or_none, module_in, start_causes, load_causes, class_causes, untouched_causes, place_causes, query_causes, resource_causes, FirstCauseCounts}

-- ---- lists

one_more : (b : Bool) (r : Refusal) (o : Option Refusal) (others : List Cause) → o ≡ first_of others → (when b r orelse o) ≡ first_of ((b, r) ∷ others)
one_more true r o others same = refl
one_more false r o others same = same

only : (b : Bool) (r : Refusal) → when b r ≡ first_of ((b, r) ∷ [])
only true r = refl
only false r = refl

one_more_of : (c o : Option Refusal) (others : List Cause) → o ≡ first_of others → (c orelse o) ≡ first_of (cause_of c ∷ others)
one_more_of (Some r) o others same = refl
one_more_of None o others same = same

only_of : (c : Option Refusal) → c ≡ first_of (cause_of c ∷ [])
only_of (Some r) = refl
only_of None = refl

joined_first : (xs ys : List Cause) → first_of (xs ++ ys) ≡ (first_of xs orelse first_of ys)
joined_first [] ys = refl
joined_first (x ∷ xs) ys = step x.0 (joined_first xs ys)
  where
    step : (b : Bool) → first_of (xs ++ ys) ≡ (first_of xs orelse first_of ys) →
        first_of ((b, x.1) ∷ xs ++ ys) ≡ (first_of ((b, x.1) ∷ xs) orelse first_of ys)
    step true h = refl
    step false h = h

grouped : (a b c : Option Refusal) → ((a orelse b) orelse c) ≡ (a orelse (b orelse c))
grouped (Some r) b c = refl
grouped None b c = refl

-- ---- start and load

abbrev start_tail : Library → Option ℕ → List Cause
start_tail lib m = (is_none m, NoModule) ∷ (is_library lib (number_or_none lib m), NotProgram) ∷ cause_of (unfit lib (number_or_none lib m)) ∷ []

start_first : (lib : Library) (p : Process) (m : Option ℕ) → enter_refusal lib p ways.Start m ≡ first_of (start_causes lib p m)
unfolding enter_refusal module_refusal
start_first lib p m =
    one_more p.ended Ended _ ((is_some p.started, Started) ∷ start_tail lib m) (one_more (is_some p.started) Started _ (start_tail lib m) (named m))
  where
    named : (o : Option ℕ) → module_or_none lib p ways.Start o ≡ first_of (start_tail lib o)
    named None = refl
    named (Some k) = one_more (is_library lib k) NotProgram (unfit lib k) (cause_of (unfit lib k) ∷ []) (only_of (unfit lib k))

abbrev count_tail : Library → Process → ℕ → List Cause
count_tail lib p m = (nat_le MAX_LOADS (count_of p m), CountFull) ∷ []

abbrev load_tail : Library → Process → Option ℕ → List Cause
load_tail lib p m =
    (is_none m, NoModule) ∷ (not (is_library lib (number_or_none lib m)), NotLibrary) ∷ cause_of (unfit lib (number_or_none lib m))
    ∷ count_tail lib p (number_or_none lib m)

load_first : (lib : Library) (p : Process) (m : Option ℕ) → enter_refusal lib p ways.Load m ≡ first_of (load_causes lib p m)
unfolding enter_refusal module_refusal
load_first lib p m = one_more p.ended Ended _ (load_tail lib p m) (named m)
  where
    named : (o : Option ℕ) → module_or_none lib p ways.Load o ≡ first_of (load_tail lib p o)
    named None = refl
    named (Some k) =
        one_more (not (is_library lib k)) NotLibrary _ (cause_of (unfit lib k) ∷ count_tail lib p k)
        (one_more_of (unfit lib k) _ (count_tail lib p k) (only (nat_le MAX_LOADS (count_of p k)) CountFull))

-- ---- places

class_first : (purpose : Purpose) (class : Class) → class_refusal purpose class ≡ first_of (class_causes purpose class)
class_first touch class = refl
class_first write classes.Code = refl
class_first write classes.Private = refl
class_first write classes.Shared = refl
class_first share classes.Code = refl
class_first share classes.Private = refl
class_first share classes.Shared = refl
class_first peek classes.Code = refl
class_first peek classes.Private = refl
class_first peek classes.Shared = refl
class_first debug classes.Code = refl
class_first debug classes.Private = refl
class_first debug classes.Shared = refl

untouched_first : (purpose : Purpose) (p : Process) (serial object offset len : ℕ) →
    touch_refusal purpose p serial object offset len ≡ first_of (untouched_causes purpose (first_untouched p serial object offset len))
untouched_first touch p serial object offset len = refl
untouched_first write p serial object offset len = only_of (option_map NotTouched (first_untouched p serial object offset len))
untouched_first share p serial object offset len = only_of (option_map NotTouched (first_untouched p serial object offset len))
untouched_first peek p serial object offset len = only_of (option_map NotTouched (first_untouched p serial object offset len))
untouched_first debug p serial object offset len = only_of (option_map NotTouched (first_untouched p serial object offset len))

-- the four kinds of causes in a residence, as they are grouped in the definition, and as a list
in_order : (outside : Bool) (cs : List Cause) (invalid : Bool) (ts : List Cause) (class untouched : Option Refusal) → class ≡ first_of cs → untouched ≡ first_of ts →
    ((when outside Range orelse (class orelse when invalid Invalid)) orelse untouched) ≡ first_of ((outside, Range) ∷ cs ++ (invalid, Invalid) ∷ ts)
in_order outside cs invalid ts class untouched of_class of_touch =
    grouped (when outside Range) (class orelse when invalid Invalid) untouched
    ∙ one_more outside Range _ (cs ++ (invalid, Invalid) ∷ ts)
    (grouped class (when invalid Invalid) untouched
    ∙ ap (λ c. c orelse (when invalid Invalid orelse untouched)) of_class
    ∙ ap (λ o. first_of cs orelse o) (one_more invalid Invalid untouched ts of_touch)
    ∙ sym (joined_first cs ((invalid, Invalid) ∷ ts)))

abbrev place_tail : Library → Process → Purpose → Place → Option Residence → List Cause
place_tail lib p purpose place r =
    (is_none r, NotAttached) ∷ (is_outside lib (module_in r) place.object place.offset place.len, Range)
    ∷ class_causes purpose (class_of (object_at lib (module_in r) place.object))
    ++ (covers_invalid lib (module_in r) place.object place.offset place.len, Invalid)
    ∷ untouched_causes purpose (first_untouched p (serial_of r) place.object place.offset place.len)

residence_first : (lib : Library) (p : Process) (purpose : Purpose) (place : Place) (r : Option Residence) →
    (when p.ended Ended orelse residence_refusal lib p purpose place r) ≡ first_of (place_causes lib p purpose place r)
unfolding span_refusal
residence_first lib p purpose place None = one_more p.ended Ended _ (place_tail lib p purpose place None) refl
residence_first lib p purpose place (Some r) =
    one_more p.ended Ended _ (place_tail lib p purpose place (Some r))
    (in_order (is_outside lib r.«module» place.object place.offset place.len) (class_causes purpose (class_of (object_at lib r.«module» place.object)))
    (covers_invalid lib r.«module» place.object place.offset place.len)
    (untouched_causes purpose (first_untouched p r.serial place.object place.offset place.len)) _ _
    (class_first purpose (class_of (object_at lib r.«module» place.object))) (untouched_first purpose p r.serial place.object place.offset place.len))

-- ---- query, and the search for a resource

abbrev query_tail : Library → EntryKey → Option Residence → List Cause
query_tail lib key r = (is_none r, NotAttached) ∷ cause_of (spot_refusal (entry_spot lib (module_in r) key)) ∷ []

query_first : (lib : Library) (p : Process) (key : EntryKey) (r : Option Residence) →
    (when p.ended Ended orelse key_refusal lib key r) ≡ first_of (query_causes lib p key r)
query_first lib p key None = one_more p.ended Ended _ (query_tail lib key None) refl
query_first lib p key (Some r) = one_more p.ended Ended _ (query_tail lib key (Some r)) (only_of (spot_refusal (entry_spot lib r.«module» key)))

abbrev resource_tail : Library → ℕ → ℕ → Option Residence → List Cause
resource_tail lib ty id r = (is_none r, NotAttached) ∷ (is_none (resource_of lib (module_in r) ty id), NoResource) ∷ []

resource_first : (lib : Library) (p : Process) (ty id : ℕ) (r : Option Residence) →
    (when p.ended Ended orelse found_refusal lib ty id r) ≡ first_of (resource_causes lib p ty id r)
resource_first lib p ty id None = one_more p.ended Ended _ (resource_tail lib ty id None) refl
resource_first lib p ty id (Some r) =
    one_more p.ended Ended _ (resource_tail lib ty id (Some r)) (only (is_none (resource_of lib r.«module» ty id)) NoResource)

-- ---- all commands

pub first_cause_counts : FirstCauseCounts
unfolding refusal_of place_refusal query_refusal resource_refusal
first_cause_counts lib e pid (commands.Start name) = start_first lib (e.processes pid) (number_of lib name)
first_cause_counts lib e pid (commands.Load name) = load_first lib (e.processes pid) (number_of lib name)
first_cause_counts lib e pid (commands.Free name) = one_more (e.processes pid).ended Ended _ ((not (is_held (e.processes pid) (number_of lib name)), NotHeld) ∷ []) (only (not (is_held (e.processes pid) (number_of lib name))) NotHeld)
first_cause_counts lib e pid (commands.Touch place) = residence_first lib (e.processes pid) touch place (residence_named lib e pid place.«module»)
first_cause_counts lib e pid (commands.Peek place) = residence_first lib (e.processes pid) peek place (residence_named lib e pid place.«module»)
first_cause_counts lib e pid (commands.Shared place) = residence_first lib (e.processes pid) share place (residence_named lib e pid place.«module»)
first_cause_counts lib e pid (commands.Write place bytes) = residence_first lib (e.processes pid) write place (residence_named lib e pid place.«module»)
first_cause_counts lib e pid (commands.Debug place bytes) = residence_first lib (e.processes pid) debug place (residence_named lib e pid place.«module»)
first_cause_counts lib e pid (commands.Query name key) = query_first lib (e.processes pid) key (residence_named lib e pid name)
first_cause_counts lib e pid (commands.GetRes name ty id) = resource_first lib (e.processes pid) ty id (residence_named lib e pid name)
first_cause_counts lib e pid commands.Exit = only (e.processes pid).ended Ended
