-- What a command asks that is not refused, and what its entry says.
use Rattle.std.proofs.Common.{◌≡◌, ℕ, true, false, List, Option, Some, None, option_map, is_none, Result, Ok, Err, length, refl, sym, ap, subst}
use Rattle.std.proofs.lemmas.Bool.{and_parts}
use Rattle.std.proofs.lemmas.Option.{same_Some}
use Rattle.load_model.specs.declared.commands.Place.{Place}
use Rattle.load_model.specs.declared.commands.Command.{Command}
use Rattle.load_model.specs.declared.commands.Command.TheVariants as commands
use Rattle.load_model.specs.declared.commands.Refusal.TheVariants.{NotTouched, Ended}
use Rattle.load_model.specs.declared.deeds.How.{How}
use Rattle.load_model.specs.declared.deeds.How.TheVariants as ways
use Rattle.load_model.specs.declared.deeds.Fresh.{Fresh}
use Rattle.load_model.specs.declared.deeds.Deed.{Deed}
use Rattle.load_model.specs.declared.deeds.Deed.TheVariants as deeds
use Rattle.load_model.specs.Modules.{Library, Held}
use Rattle.load_model.specs.State.{Residence, Process, Eager, attached_residence, serial_of}
use Rattle.load_model.specs.Entering.{NoRoom, placing}
use Rattle.load_model.specs.Initialising.{enter_by, entered, enter_deed, failing_module}
use Rattle.load_model.specs.Memory.{first_untouched}
use Rattle.load_model.specs.Refusals.{write, share, debug, when, span_refusal, residence_refusal, residence_named, place_refusal, refusal_of}
use Rattle.load_model.specs.declared.commands.Ask.{Ask}
use Rattle.load_model.specs.declared.commands.Ask.TheVariants.{Enter as enter, Shared as get}
use Rattle.load_model.specs.Asks.{ask_in, bytes_at, deed_of, may_ask}
use Rattle.load_model.specs.Step.{meant, ask_by, FitsPlace}
use Rattle.load_model.specs.Outcomes.{NamesAreKnown}
use Rattle.load_model.proofs.Bytes.{right_none}
use Rattle.load_model.proofs.ToldOutcomes.{bytes_long}
use Rattle.session_model.specs.Merging.{AsksFor, is_fault, uses_touched}

-- ---- the ask

pub asks_for : NamesAreKnown → (lib : Library) (e : Eager) (pid : ℕ) (command : Command) (ask : Ask) → refusal_of lib e pid command ≡ None → ask_by lib e pid command ≡ Some ask → AsksFor lib command ask
asks_for known lib e pid (commands.Start name) ask fine is = (meant lib name, known lib e pid (commands.Start name) name fine refl, sym (same_Some _ _ is))
asks_for known lib e pid (commands.Load name) ask fine is = (meant lib name, known lib e pid (commands.Load name) name fine refl, sym (same_Some _ _ is))
asks_for known lib e pid (commands.Free name) ask fine is = (meant lib name, known lib e pid (commands.Free name) name fine refl, sym (same_Some _ _ is))
asks_for known lib e pid (commands.Shared at) ask fine is =
    (meant lib at.«module», serial_of (residence_named lib e pid at.«module»), known lib e pid (commands.Shared at) at.«module» fine refl, sym (same_Some _ _ is))
asks_for known lib e pid (commands.Write at bytes) ask fine is =
    (meant lib at.«module», serial_of (residence_named lib e pid at.«module»), known lib e pid (commands.Write at bytes) at.«module» fine refl, sym (same_Some _ _ is))
asks_for known lib e pid (commands.Debug at bytes) ask fine is =
    (meant lib at.«module», serial_of (residence_named lib e pid at.«module»), known lib e pid (commands.Debug at bytes) at.«module» fine refl, sym (same_Some _ _ is))
asks_for known lib e pid commands.Exit ask fine is = sym (same_Some _ _ is)
asks_for known lib e pid (commands.Touch at) ask fine is = cc
asks_for known lib e pid (commands.Peek at) ask fine is = cc
asks_for known lib e pid (commands.Query name key) ask fine is = cc
asks_for known lib e pid (commands.GetRes name ty id) ask fine is = cc

-- ---- the entry

abbrev IsEntered : How → ℕ → Deed → Type 0
IsEntered how m deed = (ask_in deed ≡ enter how m) × (is_fault deed ≡ false) × ((e : Eager) (pid : ℕ) → uses_touched e pid deed ≡ true)

enters : (lib : Library) (e : Eager) (pid : ℕ) (how : How) (m : ℕ) (r : Result (List Fresh) NoRoom) → IsEntered how m (enter_by lib e pid how m r)
enters lib e pid how m (Err none) = (refl, refl, λ f q. refl)
enters lib e pid how m (Ok fresh) = step (failing_module lib e pid how m fresh)
  where
    step : (o : Option ℕ) → IsEntered how m (entered lib e pid how m fresh o)
    step None = (refl, refl, λ f q. refl)
    step (Some by) = (refl, refl, λ f q. refl)

deed_enters : (lib : Library) (contents : Held) (e : Eager) (pid : ℕ) (how : How) (m : ℕ) → IsEntered how m (deed_of lib contents e pid (enter how m))
unfolding deed_of enter_deed
deed_enters lib contents e pid how m = enters lib e pid how m (placing lib e pid m)

-- ---- pages that are touched

none_mapped : {A B : Type 0} (f : A → B) (o : Option A) → option_map f o ≡ None → is_none o ≡ true
none_mapped f None is = refl
none_mapped f (Some a) is = cc

written : (lib : Library) (p : Process) (at : Place) (o : Option Residence) → residence_refusal lib p write at o ≡ None → is_none (first_untouched p (serial_of o) at.object at.offset at.len) ≡ true
written lib p at None is = cc
written lib p at (Some r) is = none_mapped NotTouched _ (right_none (span_refusal lib write r.«module» at.object at.offset at.len) _ is)

shared : (lib : Library) (p : Process) (at : Place) (o : Option Residence) → residence_refusal lib p share at o ≡ None → is_none (first_untouched p (serial_of o) at.object at.offset at.len) ≡ true
shared lib p at None is = cc
shared lib p at (Some r) is = none_mapped NotTouched _ (right_none (span_refusal lib share r.«module» at.object at.offset at.len) _ is)

debugged : (lib : Library) (p : Process) (at : Place) (o : Option Residence) → residence_refusal lib p debug at o ≡ None → is_none (first_untouched p (serial_of o) at.object at.offset at.len) ≡ true
debugged lib p at None is = cc
debugged lib p at (Some r) is = none_mapped NotTouched _ (right_none (span_refusal lib debug r.«module» at.object at.offset at.len) _ is)

-- what is known of an entry: what it asks, that it is no fault, and that it uses touched pages alone
pub record Entered (e : Eager) (pid : ℕ) (ask : Ask) (deed : Deed) : Type 0 where
  pub again : ask_in deed ≡ ask
  pub command : is_fault deed ≡ false
  pub uses : uses_touched e pid deed ≡ true

of_entering : (lib : Library) (contents : Held) (e f : Eager) (pid : ℕ) (how : How) (m : ℕ) → Entered e pid (enter how m) (deed_of lib contents f pid (enter how m))
of_entering lib contents e f pid how m = let is = deed_enters lib contents f pid how m in record { again = is.0; command = is.1; uses = is.2 e pid }

shared_long : (lib : Library) (contents : Held) (f : Eager) (pid serial m object offset len : ℕ) → may_ask lib f pid (get serial m object offset len) ≡ true →
    length (bytes_at lib contents f pid object offset len (attached_residence lib f pid m)) ≡ len
unfolding may_ask
shared_long lib contents f pid serial m object offset len may = bytes_long lib contents f pid serial object offset len (attached_residence lib f pid m) (and_parts _ _ (and_parts _ _ may).1).0

pub entered_by : (lib : Library) (contents : Held) (e f : Eager) (pid : ℕ) (command : Command) (ask : Ask) → FitsPlace command → refusal_of lib e pid command ≡ None → ask_by lib e pid command ≡ Some ask →
    may_ask lib f pid ask ≡ true → Entered e pid ask (deed_of lib contents f pid ask)
unfolding refusal_of place_refusal deed_of
entered_by lib contents e f pid (commands.Start name) ask fits fine is may =
    subst (λ (a : Ask). Entered e pid a (deed_of lib contents f pid a)) (same_Some _ _ is) (of_entering lib contents e f pid ways.Start (meant lib name))
entered_by lib contents e f pid (commands.Load name) ask fits fine is may =
    subst (λ (a : Ask). Entered e pid a (deed_of lib contents f pid a)) (same_Some _ _ is) (of_entering lib contents e f pid ways.Load (meant lib name))
entered_by lib contents e f pid (commands.Free name) ask fits fine is may =
    subst (λ (a : Ask). Entered e pid a (deed_of lib contents f pid a)) (same_Some _ _ is) (record { again = refl; command = refl; uses = refl })
entered_by lib contents e f pid commands.Exit ask fits fine is may =
    subst (λ (a : Ask). Entered e pid a (deed_of lib contents f pid a)) (same_Some _ _ is) (record { again = refl; command = refl; uses = refl })
entered_by lib contents e f pid (commands.Write at bytes) ask fits fine is may =
    subst (λ (a : Ask). Entered e pid a (deed_of lib contents f pid a)) (same_Some _ _ is)
    (record {
      again = refl;
      command = refl;
      uses = subst (λ (n : ℕ). is_none (first_untouched (e.processes pid) (serial_of (residence_named lib e pid at.«module»)) at.object at.offset n) ≡ true) (sym fits)
          (written lib (e.processes pid) at (residence_named lib e pid at.«module») (right_none (when (e.processes pid).ended Ended) _ fine));
    })
entered_by lib contents e f pid (commands.Debug at bytes) ask fits fine is may =
    subst (λ (a : Ask). Entered e pid a (deed_of lib contents f pid a)) (same_Some _ _ is)
    (record {
      again = refl;
      command = refl;
      uses = subst (λ (n : ℕ). is_none (first_untouched (e.processes pid) (serial_of (residence_named lib e pid at.«module»)) at.object at.offset n) ≡ true) (sym fits)
          (debugged lib (e.processes pid) at (residence_named lib e pid at.«module») (right_none (when (e.processes pid).ended Ended) _ fine));
    })
entered_by lib contents e f pid (commands.Shared at) ask fits fine is may =
    let serial : ℕ = serial_of (residence_named lib e pid at.«module») in
    let asked : Ask = get serial (meant lib at.«module») at.object at.offset at.len in
    let may_read : may_ask lib f pid asked ≡ true = subst (λ (a : Ask). may_ask lib f pid a ≡ true) (sym (same_Some asked ask is)) may in
    let long : length (bytes_at lib contents f pid at.object at.offset at.len (attached_residence lib f pid (meant lib at.«module»))) ≡ at.len =
    shared_long lib contents f pid serial (meant lib at.«module») at.object at.offset at.len may_read in
    subst (λ (a : Ask). Entered e pid a (deed_of lib contents f pid a)) (same_Some asked ask is)
    (record {
      again = ap (get serial (meant lib at.«module») at.object at.offset) long;
      command = refl;
      uses = subst (λ (n : ℕ). is_none (first_untouched (e.processes pid) serial at.object at.offset n) ≡ true) (sym long)
          (shared lib (e.processes pid) at (residence_named lib e pid at.«module») (right_none (when (e.processes pid).ended Ended) _ fine));
    })
entered_by lib contents e f pid (commands.Touch at) ask fits fine is may = cc
entered_by lib contents e f pid (commands.Peek at) ask fits fine is may = cc
entered_by lib contents e f pid (commands.Query name key) ask fits fine is may = cc
entered_by lib contents e f pid (commands.GetRes name ty id) ask fits fine is may = cc
