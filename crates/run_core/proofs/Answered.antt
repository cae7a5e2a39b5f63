-- What a process answers to a command.
use Rattle.std.proofs.Common.{◌≡◌, ℕ, ◌<◌, Bool, true, false, not, Option, Some, None, option_map, Result, Ok, Err, is_none, nat_le, refl, sym, ◌∙◌, ap, subst, slice_index, inl, inr, List, if◌then◌else◌}
use Rattle.run_core.proofs.Words.{call_refusal, class_refusal, Command, CountFull, covers_invalid, debug, Deed, done, Ended, entry_spot, EntryFault, Fine, first_untouched, FitsPlace, found_refusal, has_entry, HealthOf, Holding}
use Rattle.run_core.proofs.Words.{IfOk, Invalid, is_library, is_outside, IsAnswered, IsCarriedOut, IsCommand, IsLineOf, IsRefused, IsRefusedLine, IsTold, IsTouchAnswered, IsTouchLine, key_refusal, Library, lt-leb, MAX_TICKETS}
use Rattle.run_core.proofs.Words.{NoMemory, NoResource, NotHeld, NotLibrary, NotProgram, NotTouched, number_of, object_at, Outcome, peek, Place, Process, ProcState, Purpose, Range, refusal_of_health, Refused, Reply, Residence}
use Rattle.run_core.proofs.Words.{residence_refusal, resource_of, share, span_refusal, Spot, spot_refusal, started_refusal, told, touch, touch_refusal, unfit, when, Worn, write, ◌orelse◌}
use Rattle.lx_types.specs.declared.entry.EntryKey.{EntryKey}
use Rattle.lx_types.specs.declared.object.Class.{Class}
use Rattle.lx_types.specs.Object.{class_of}
use Rattle.load_model.specs.declared.commands.Refusal.{Refusal}
use Rattle.load_model.specs.declared.deeds.How.{How}
use Rattle.lx_model.specs.declared.library.Health.{Health}
use Rattle.lx_types.specs.declared.limits.TheConstants.{MAX_LOADS}
use Rattle.load_model.specs.ViewAnswers.{seen_process, is_held_in, reached_named, view_module_or_none, view_enter_refusal, view_place_refusal, view_refusal}
use Rattle.proc_core.proofs.Fronts.{ended_first}
use Rattle.lx_types.specs.declared.fail.Fail.{Fail}
use Rattle.load_model.specs.declared.commands.Command.TheVariants.{Touch}
use Rattle.process_view.specs.Plans.{HasEntry}
use Rattle.load_model.specs.Outcomes.IsTold.{arena_full, init_failed, is_done}
use Rattle.proc_core.specs.declared.answers.Done.{Done}
use Rattle.lx_types.specs.declared.object.Class.TheVariants as classes
use Rattle.load_model.specs.declared.commands.Command.TheVariants as commands
use Rattle.load_model.specs.declared.deeds.How.TheVariants as ways
use Rattle.lx_model.specs.declared.library.Health.TheVariants as kinds
use Rattle.lx_model.specs.declared.library.EntryFault.TheVariants as faults
use Rattle.lx_types.specs.declared.fail.Fail.TheVariants as fail

-- ---- the refusals that a view decides have no entry, and those of a call that draws a turn are the view's

-- ---- no entry

abbrev Plain : Option Refusal → Type 0
Plain None = Unit {0}
Plain (Some r) = has_entry r ≡ false

orelse_plain : (a b : Option Refusal) → Plain a → Plain b → Plain (a orelse b)
orelse_plain None b first second = second
orelse_plain (Some r) b first second = first

when_plain : (b : Bool) (r : Refusal) → has_entry r ≡ false → Plain (when b r)
when_plain true r plain = plain
when_plain false r plain = tt

health_plain : (h : Health) → Plain (refusal_of_health h)
health_plain kinds.Fit = tt
health_plain other = refl

unfit_plain : (lib : Library) (m : ℕ) → Plain (unfit lib m)
unfolding unfit
unfit_plain lib m = health_plain (HealthOf lib m)

module_plain : (lib : Library) (v : Holding) (how : How) (o : Option ℕ) → Plain (view_module_or_none lib v how o)
module_plain lib v ways.Start None = refl
module_plain lib v ways.Load None = refl
module_plain lib v ways.Start (Some m) = orelse_plain (when (is_library lib m) NotProgram) (unfit lib m) (when_plain (is_library lib m) NotProgram refl) (unfit_plain lib m)
module_plain lib v ways.Load (Some m) =
    orelse_plain (when (not (is_library lib m)) NotLibrary) _ (when_plain (not (is_library lib m)) NotLibrary refl)
    (orelse_plain (unfit lib m) _ (unfit_plain lib m) (when_plain (nat_le MAX_LOADS (slice_index v.counts.loads m)) CountFull refl))

started_plain : (p : Process) (how : How) → Plain (started_refusal p how)
started_plain p ways.Start = step p.started
  where
    step : (o : Option ℕ) → Plain (started_refusal (record p { started = o }) ways.Start)
    step None = tt
    step (Some m) = refl
started_plain p ways.Load = tt

enter_plain : (lib : Library) (v : Holding) (how : How) (o : Option ℕ) → Plain (view_enter_refusal lib v how o)
enter_plain lib v how o =
    orelse_plain (when v.ended Ended) _ (when_plain v.ended Ended refl) (orelse_plain (started_refusal (seen_process v) how) _ (started_plain (seen_process v) how) (module_plain lib v how o))

class_plain : (how : Purpose) (c : Class) → Plain (class_refusal how c)
class_plain touch c = tt
class_plain write classes.Code = refl
class_plain write c = tt
class_plain share classes.Shared = tt
class_plain share c = refl
class_plain peek classes.Shared = refl
class_plain peek c = tt
class_plain debug classes.Code = tt
class_plain debug c = refl

span_plain : (lib : Library) (how : Purpose) (m object offset len : ℕ) → Plain (span_refusal lib how m object offset len)
unfolding span_refusal
span_plain lib how m object offset len =
    orelse_plain (when (is_outside lib m object offset len) Range) _ (when_plain (is_outside lib m object offset len) Range refl)
    (orelse_plain (class_refusal how (class_of (object_at lib m object))) _ (class_plain how (class_of (object_at lib m object))) (when_plain (covers_invalid lib m object offset len) Invalid refl))

untouched_plain : (o : Option ℕ) → Plain (option_map NotTouched o)
untouched_plain None = tt
untouched_plain (Some n) = refl

touch_plain : (how : Purpose) (p : Process) (serial object offset len : ℕ) → Plain (touch_refusal how p serial object offset len)
touch_plain touch p serial object offset len = tt
touch_plain how p serial object offset len = untouched_plain (first_untouched p serial object offset len)

residence_plain : (lib : Library) (p : Process) (how : Purpose) (at : Place) (o : Option Residence) → Plain (residence_refusal lib p how at o)
residence_plain lib p how at None = refl
residence_plain lib p how at (Some r) =
    orelse_plain (span_refusal lib how r.«module» at.object at.offset at.len) _ (span_plain lib how r.«module» at.object at.offset at.len)
    (touch_plain how p r.serial at.object at.offset at.len)

place_plain : (lib : Library) (v : Holding) (how : Purpose) (at : Place) → Plain (view_place_refusal lib v how at)
place_plain lib v how at =
    orelse_plain (when v.ended Ended) _ (when_plain v.ended Ended refl) (residence_plain lib (seen_process v) how at (reached_named lib v at.«module»))

spot_plain : (r : Result Spot EntryFault) → Plain (spot_refusal r)
spot_plain (Ok s) = tt
spot_plain (Err faults.NoEntry) = refl
spot_plain other = refl

key_plain : (lib : Library) (key : EntryKey) (o : Option Residence) → Plain (key_refusal lib key o)
key_plain lib key None = refl
key_plain lib key (Some r) = spot_plain (entry_spot lib r.«module» key)

found_plain : (lib : Library) (ty id : ℕ) (o : Option Residence) → Plain (found_refusal lib ty id o)
found_plain lib ty id None = refl
found_plain lib ty id (Some r) = when_plain (is_none (resource_of lib r.«module» ty id)) NoResource refl

all_plain : (lib : Library) (v : Holding) (c : Command) → Plain (view_refusal lib v c)
unfolding view_refusal
all_plain lib v (commands.Start name) = enter_plain lib v ways.Start (number_of lib name)
all_plain lib v (commands.Load name) = enter_plain lib v ways.Load (number_of lib name)
all_plain lib v (commands.Free name) =
    orelse_plain (when v.ended Ended) _ (when_plain v.ended Ended refl) (when_plain (not (is_held_in v (number_of lib name))) NotHeld refl)
all_plain lib v (commands.Touch at) = place_plain lib v touch at
all_plain lib v (commands.Peek at) = place_plain lib v peek at
all_plain lib v (commands.Shared at) = place_plain lib v share at
all_plain lib v (commands.Write at bytes) = place_plain lib v write at
all_plain lib v (commands.Debug at bytes) = place_plain lib v debug at
all_plain lib v (commands.Query name key) = orelse_plain (when v.ended Ended) _ (when_plain v.ended Ended refl) (key_plain lib key (reached_named lib v name))
all_plain lib v (commands.GetRes name ty id) = orelse_plain (when v.ended Ended) _ (when_plain v.ended Ended refl) (found_plain lib ty id (reached_named lib v name))
all_plain lib v commands.Exit = when_plain v.ended Ended refl

pub view_is_plain : (lib : Library) (v : Holding) (c : Command) (r : Refusal) → view_refusal lib v c ≡ Some r → has_entry r ≡ false
view_is_plain lib v c r is = subst Plain is (all_plain lib v c)

-- ---- a call's refusal

pub call_is_views : (p : ProcState) (c : Command) → p.known.drawn < MAX_TICKETS → call_refusal p c ≡ view_refusal p.view.library p.view.holding c
call_is_views p c few = step p.view.holding.ended refl
  where
    step : (e : Bool) → p.view.holding.ended ≡ e → call_refusal p c ≡ view_refusal p.view.library p.view.holding c
    step true is =
        ap (λ b. when b Ended orelse when (nat_le MAX_TICKETS p.known.drawn) Worn orelse view_refusal p.view.library p.view.holding c) is
        ∙ sym (ended_first p.view.library p.view.holding c is)
    step false is =
        ap (λ b. when b Ended orelse when (nat_le MAX_TICKETS p.known.drawn) Worn orelse view_refusal p.view.library p.view.holding c) is
        ∙ ap (λ b. when b Worn orelse view_refusal p.view.library p.view.holding c) (lt-leb MAX_TICKETS p.known.drawn few)

-- ---- what a call's answer says of its command

-- what a refusal is of that is told of an entry
abbrev TellsEntry : Outcome → Type 0
TellsEntry (told (Refused r)) = has_entry r ≡ true
TellsEntry outcome = Unit {0}

tells_entry : (number : ℕ) (d : Deed) (o : Outcome) → IsTold number d o → TellsEntry o
tells_entry number d o arena_full = refl
tells_entry number d o init_failed = refl
tells_entry number d o (is_done it) = tt

pub refused_line : (p q : ProcState) (c : Command) (r : Refusal) → p.known.drawn < MAX_TICKETS → call_refusal p c ≡ Some r → q ≡ p → IsRefusedLine p q c (Refused r)
refused_line p q c r few refused same = record { refusal = r; told = refl; refused = sym (call_is_views p c few) ∙ refused; same = same }

refused_or_made : (p q : ProcState) (c : Command) (r : Refusal) → p.known.drawn < MAX_TICKETS → IsRefused p q c r → (b : Bool) → has_entry r ≡ b →
    IsCarriedOut p q c (if b then None else Some (Refused r))
refused_or_made p q c r few (inl it) true is = (let wrong : true ≡ false = sym is ∙ view_is_plain p.view.library p.view.holding c r (sym (call_is_views p c few) ∙ it.0.refused) in cc)
refused_or_made p q c r few (inl it) false is = inl (refused_line p q c r few it.0.refused it.1)
refused_or_made p q c r few (inr made) true is = (told (Refused r), made)
refused_or_made p q c r few (inr made) false is =
    (let wrong : false ≡ true = sym is ∙ tells_entry _ made.entry.deed (told (Refused r)) made.answered in cc)

pub answer_carried : (p q : ProcState) (c : Command) (a : Result Done (Fail Refusal)) (reply : Option Reply) → p.known.drawn < MAX_TICKETS → IsAnswered p q c a → IsLineOf a reply →
    IsCarriedOut p q c reply
answer_carried p q c (Ok it) reply few made line = subst (IsCarriedOut p q c) (sym line) (done it.number, made)
answer_carried p q c (Err (fail.Said r)) reply few refused line = subst (IsCarriedOut p q c) (sym line) (refused_or_made p q c r few refused (has_entry r) refl)
answer_carried p q c (Err fail.NoMemory) reply few waited line = absurd line

pub carried_if : (p q : ProcState) (c : Command) (a : Result Done (Fail Refusal)) (r : Result (Option Reply) NoMemory) → p.known.drawn < MAX_TICKETS → IsAnswered p q c a →
    IfOk r (λ reply. IsLineOf a reply) → IfOk r (λ reply. IsCarriedOut p q c reply)
carried_if p q c a (Ok reply) few answered line = answer_carried p q c a reply few answered line
carried_if p q c a (Err why) few answered line = tt

-- a command of a session that is answered by an entry
pub enters : (c : Command) → ((at : Place) → c ≡ commands.Touch at → ⊥) → ((at : Place) → c ≡ commands.Peek at → ⊥) → ((name : List ℕ) (key : EntryKey) → c ≡ commands.Query name key → ⊥) →
    ((name : List ℕ) (ty id : ℕ) → c ≡ commands.GetRes name ty id → ⊥) → HasEntry c
enters (commands.Touch at) touches peeks query getres = absurd (touches at refl)
enters (commands.Peek at) touches peeks query getres = absurd (peeks at refl)
enters (commands.Query name key) touches peeks query getres = absurd (query name key refl)
enters (commands.GetRes name ty id) touches peeks query getres = absurd (getres name ty id refl)
enters other touches peeks query getres = tt

pub fits_place : (c : Command) → IsCommand c → FitsPlace c
fits_place (commands.Write at bytes) is = is.fit
fits_place (commands.Debug at bytes) is = is.fit
fits_place other is = tt

pub touch_refused : (p q : ProcState) (at : Place) (before after : ℕ) (why : Fail Refusal) (r : Refusal) → why ≡ fail.Said r → p.known.drawn < MAX_TICKETS →
    IsTouchAnswered p q at before after (Err why) → IsRefusedLine p q (Touch at) (Refused r)
touch_refused p q at before after why r is few answered =
    let it : IsTouchAnswered p q at before after (Err (fail.Said r)) = subst (λ w. IsTouchAnswered p q at before after (Err w)) is answered in
    refused_line p q (Touch at) r few it.0.refused it.1

pub touch_fine : (p q : ProcState) (at : Place) (before after : ℕ) (it : Unit {0}) → IsTouchAnswered p q at before after (Ok it) → IsTouchLine p q (Touch at) Fine
touch_fine p q at before after it answered =
    record { at = at; is = refl; fine = refl; before = before; after = after; touched = answered.0; mapped = answered.1 }
