-- Other processes: what they do changes nothing that a process is answered without an entry.
use Rattle.std.proofs.Common.{◌≡◌, ℕ, ◌==◌, Bool, true, false, if◌then◌else◌, List, Option, Some, None, refl, sym, ◌∙◌, ap}
use Rattle.lx_types.specs.declared.object.Class.{Class}
use Rattle.lx_types.specs.declared.object.Class.TheVariants as classes
use Rattle.lx_types.specs.declared.entry.EntryKey.{EntryKey}
use Rattle.load_model.specs.declared.commands.Place.{Place}
use Rattle.load_model.specs.declared.commands.Command.{Command}
use Rattle.load_model.specs.declared.commands.Command.TheVariants as commands
use Rattle.load_model.specs.declared.commands.Refusal.TheVariants.{Ended}
use Rattle.load_model.specs.declared.deeds.How.TheVariants as ways
use Rattle.load_model.specs.declared.deeds.Deed.{Deed}
use Rattle.load_model.specs.declared.deeds.Deed.TheVariants as deeds
use Rattle.load_model.specs.Modules.{Library, Held, number_of}
use Rattle.load_model.specs.Accepted.{retouched}
use Rattle.load_model.specs.State.{PageOf, Residence, Process, Eager, Written, is_among, pids, reaches, residence_of, attached_residence}
use Rattle.load_model.specs.Entering.{after_entering, with_fresh_residences}
use Rattle.load_model.specs.Leaving.{after_leaving}
use Rattle.load_model.specs.Refusals.{Purpose, touch, write, share, peek, debug, ◌orelse◌, when, enter_refusal, free_refusal, residence_refusal, residence_if, residence_named, place_refusal, key_refusal, query_refusal, found_refusal, resource_refusal, refusal_of}
use Rattle.load_model.specs.Asks.{after_write, after_deed}
use Rattle.load_model.specs.Histories.{state_after}
use Rattle.load_model.specs.Alike.{Alike, OthersLeaveAlike}
use Rattle.load_model.specs.Laws.{unwritten_of, OthersRefuseAlike}
use Rattle.load_model.proofs.Kept.{Kept, process_apart}
use Rattle.load_model.proofs.Residents.{Done, done_by, legal_kept}
use Rattle.load_model.proofs.Orders.{one_reaches}
use Rattle.load_model.proofs.Stays.{deed_stays, resident_reached}

-- ---- the process itself

written_apart : (e : Eager) (pid serial : ℕ) (w : Written) (class : Class) (q : ℕ) → (q == pid) ≡ false → (after_write e pid serial w class).processes q ≡ e.processes q
written_apart e pid serial w classes.Code q h = refl
written_apart e pid serial w classes.Private q h = process_apart e pid _ q h
written_apart e pid serial w classes.Shared q h = refl

process_stays : (lib : Library) (e : Eager) (pid : ℕ) (d : Deed) (q : ℕ) → (q == pid) ≡ false → (after_deed lib e pid d).processes q ≡ e.processes q
unfolding after_deed after_entering after_leaving
process_stays lib e pid (deeds.Enter how m fresh calls) q h = process_apart (with_fresh_residences e fresh) pid _ q h
process_stays lib e pid (deeds.Full how m of object size) q h = refl
process_stays lib e pid (deeds.Failed how m by fresh calls gone) q h = refl
process_stays lib e pid (deeds.Free m calls gone) q h = process_apart e pid _ q h
process_stays lib e pid (deeds.Exit calls gone) q h = process_apart e pid _ q h
process_stays lib e pid (deeds.Fault serial m p) q h = refl
process_stays lib e pid (deeds.Write serial m object offset bytes) q h = written_apart e pid serial _ _ q h
process_stays lib e pid (deeds.Debug serial m object offset bytes) q h = written_apart e pid serial _ classes.Private q h
process_stays lib e pid (deeds.Shared serial m object offset bytes) q h = refl

-- ---- two states that a process cannot tell apart

pub deed_alike : (lib : Library) (contents : Held) (e : Eager) (pid : ℕ) (d : Deed) (q : ℕ) → Done lib contents e pid d → Kept lib e → is_among pids q ≡ true →
    (q == pid) ≡ false → Alike lib e (after_deed lib e pid d) q
deed_alike lib contents e pid d q done kept there h =
    let same : (after_deed lib e pid d).processes q ≡ e.processes q = process_stays lib e pid d q h in
    record {
      process = same;
      residences = λ m reached.
          deed_stays lib contents e pid d m done kept (resident_reached lib e m kept ∙ one_reaches lib e q m there reached)
          (one_reaches lib (after_deed lib e pid d) q m there (ap (λ p. reaches lib p m) same ∙ reached));
    }

pub attached_stays : (lib : Library) (e after : Eager) (q m : ℕ) → Alike lib e after q → unwritten_of (attached_residence lib after q m) ≡ unwritten_of (attached_residence lib e q m)
unfolding attached_residence
attached_stays lib e after q m alike =
    ap (λ p. unwritten_of (if reaches lib p m then residence_of after m else None)) alike.process ∙ step (reaches lib (e.processes q) m) (alike.residences m)
  where
    step : (b : Bool) → (b ≡ true → unwritten_of (residence_of after m) ≡ unwritten_of (residence_of e m)) →
        unwritten_of (if b then residence_of after m else None) ≡ unwritten_of (if b then residence_of e m else None)
    step true h = h refl
    step false h = refl

pub named_stays : (lib : Library) (e after : Eager) (q : ℕ) (name : List ℕ) → Alike lib e after q → unwritten_of (residence_named lib after q name) ≡ unwritten_of (residence_named lib e q name)
unfolding residence_named
named_stays lib e after q name alike = step (number_of lib name)
  where
    step : (n : Option ℕ) → unwritten_of (residence_if lib after q n) ≡ unwritten_of (residence_if lib e q n)
    step None = refl
    step (Some m) = attached_stays lib e after q m alike

-- ---- refusals

pub place_by_stay : (lib : Library) (p : Process) (how : Purpose) (place : Place) (r : Option Residence) → residence_refusal lib p how place r ≡ residence_refusal lib p how place (unwritten_of r)
place_by_stay lib p how place None = refl
place_by_stay lib p how place (Some r) = refl

pub key_by_stay : (lib : Library) (key : EntryKey) (r : Option Residence) → key_refusal lib key r ≡ key_refusal lib key (unwritten_of r)
key_by_stay lib key None = refl
key_by_stay lib key (Some r) = refl

place_alike : (lib : Library) (e after : Eager) (q : ℕ) (how : Purpose) (place : Place) → Alike lib e after q → place_refusal lib after q how place ≡ place_refusal lib e q how place
unfolding place_refusal
place_alike lib e after q how place alike =
    ap (λ p. when p.ended Ended orelse residence_refusal lib p how place (residence_named lib after q place.«module»)) alike.process
    ∙ ap (λ r. when (e.processes q).ended Ended orelse r)
    (place_by_stay lib (e.processes q) how place (residence_named lib after q place.«module»)
    ∙ ap (residence_refusal lib (e.processes q) how place) (named_stays lib e after q place.«module» alike)
    ∙ sym (place_by_stay lib (e.processes q) how place (residence_named lib e q place.«module»)))

query_alike : (lib : Library) (e after : Eager) (q : ℕ) (name : List ℕ) (key : EntryKey) → Alike lib e after q → query_refusal lib after q name key ≡ query_refusal lib e q name key
unfolding query_refusal
query_alike lib e after q name key alike =
    ap (λ p. when p.ended Ended orelse key_refusal lib key (residence_named lib after q name)) alike.process
    ∙ ap (λ r. when (e.processes q).ended Ended orelse r)
    (key_by_stay lib key (residence_named lib after q name) ∙ ap (key_refusal lib key) (named_stays lib e after q name alike)
    ∙ sym (key_by_stay lib key (residence_named lib e q name)))

pub found_by_stay : (lib : Library) (ty id : ℕ) (r : Option Residence) → found_refusal lib ty id r ≡ found_refusal lib ty id (unwritten_of r)
found_by_stay lib ty id None = refl
found_by_stay lib ty id (Some r) = refl

resource_alike : (lib : Library) (e after : Eager) (q : ℕ) (name : List ℕ) (ty id : ℕ) → Alike lib e after q → resource_refusal lib after q name ty id ≡ resource_refusal lib e q name ty id
unfolding resource_refusal
resource_alike lib e after q name ty id alike =
    ap (λ p. when p.ended Ended orelse found_refusal lib ty id (residence_named lib after q name)) alike.process
    ∙ ap (λ r. when (e.processes q).ended Ended orelse r)
    (found_by_stay lib ty id (residence_named lib after q name) ∙ ap (found_refusal lib ty id) (named_stays lib e after q name alike)
    ∙ sym (found_by_stay lib ty id (residence_named lib e q name)))

pub refusal_alike : (lib : Library) (e after : Eager) (q : ℕ) (command : Command) → Alike lib e after q → refusal_of lib after q command ≡ refusal_of lib e q command
unfolding refusal_of
refusal_alike lib e after q (commands.Start name) alike = ap (λ p. enter_refusal lib p ways.Start (number_of lib name)) alike.process
refusal_alike lib e after q (commands.Load name) alike = ap (λ p. enter_refusal lib p ways.Load (number_of lib name)) alike.process
refusal_alike lib e after q (commands.Free name) alike = ap (λ p. free_refusal p (number_of lib name)) alike.process
refusal_alike lib e after q (commands.Touch place) alike = place_alike lib e after q touch place alike
refusal_alike lib e after q (commands.Peek place) alike = place_alike lib e after q peek place alike
refusal_alike lib e after q (commands.Shared place) alike = place_alike lib e after q share place alike
refusal_alike lib e after q (commands.Write place bytes) alike = place_alike lib e after q write place alike
refusal_alike lib e after q (commands.Debug place bytes) alike = place_alike lib e after q debug place alike
refusal_alike lib e after q (commands.Query name key) alike = query_alike lib e after q name key alike
refusal_alike lib e after q (commands.GetRes name ty id) alike = resource_alike lib e after q name ty id alike
refusal_alike lib e after q commands.Exit alike = ap (λ p. when p.ended Ended) alike.process

-- nor can it where the same was touched in both
pub retouched_alike : (lib : Library) (e after : Eager) (touched : ℕ → List PageOf) (q : ℕ) → Alike lib e after q → Alike lib (retouched touched e) (retouched touched after) q
unfolding reaches residence_of
retouched_alike lib e after touched q alike = record {
  process = ap (λ (p : Process). record p { touched = touched q }) alike.process;
  residences = λ m reached. alike.residences m reached;
}

pub others_leave_alike : OthersLeaveAlike
others_leave_alike lib failing contents h x pid legal follows there other =
    deed_alike lib contents (state_after lib failing h) x.pid x.deed pid (done_by lib failing contents h x follows) (legal_kept lib failing contents h legal) there other

pub others_refuse_alike : OthersRefuseAlike
others_refuse_alike lib failing contents h x touched pid command legal follows there apart =
    refusal_alike lib (retouched touched (state_after lib failing h)) _ pid command
    (retouched_alike lib (state_after lib failing h) _ touched pid (others_leave_alike lib failing contents h x pid legal follows there apart))
