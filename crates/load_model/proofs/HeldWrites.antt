-- A process's own writes lie in residences that it reaches.
use Rattle.std.proofs.Common.{◌≡◌, ℕ, ◌==◌, Bool, true, false, not, ◌&&◌, List, [], ◌∷◌, ◌++◌, length, Option, Some, None, refl, sym, ◌∙◌, ap, subst, append_assoc}
use Rattle.std.specs.Prelude.{is_none, nat_lt}
use Rattle.std.specs.List.{AllByRecursion}
use Rattle.std.proofs.lemmas.Bool.{eqb-true}
use Rattle.std.proofs.lemmas.List.{append-nil}
use Rattle.lx_types.specs.Object.{class_of}
use Rattle.lx_types.specs.declared.object.Class.{Class}
use Rattle.lx_types.specs.declared.object.Class.TheVariants as classes
use Rattle.load_model.specs.declared.deeds.Deed.{Deed}
use Rattle.load_model.specs.declared.deeds.Deed.TheVariants as deeds
use Rattle.load_model.specs.declared.deeds.Entry.{Entry}
use Rattle.load_model.specs.declared.deeds.How.{How}
use Rattle.load_model.specs.declared.deeds.Fresh.{Fresh}
use Rattle.load_model.specs.Modules.{Library, Held, module_count, object_at}
use Rattle.load_model.specs.State.{Written, OwnWrite, Residence, Process, Failing, Eager, pids, is_among, attached_residence}
use Rattle.load_model.specs.Entering.{joined, after_entering}
use Rattle.load_model.specs.Leaving.{freeing, exiting, left_serials, after_leaving}
use Rattle.load_model.specs.declared.commands.Refusal.{Refusal}
use Rattle.load_model.specs.declared.commands.Refusal.TheVariants.{Range, Invalid}
use Rattle.load_model.specs.Refusals.{Purpose, write, peek, debug, when, ◌orelse◌, is_outside, covers_invalid, class_refusal, span_refusal, enter_refusal}
use Rattle.load_model.specs.Asks.{may_ask, is_serial, is_attached, after_write, after_deed}
use Rattle.load_model.specs.Histories.{after_entry, state_after, Follows, AllFollow, Legal}
use Rattle.load_model.specs.Laws.{unwritten_of}
use Rattle.load_model.specs.Alike.{Alike}
use Rattle.load_model.specs.HeldWrites.{IsHeldBy, OwnWritesAreHeld}
use Rattle.load_model.proofs.Bools.{and_right}
use Rattle.load_model.proofs.Growing.{one_more_is_after, one_more_is_legal, nothing_is_legal}
use Rattle.load_model.proofs.Kept.{Kept}
use Rattle.load_model.proofs.KeptLeaving.{GivesUp, freeing_gives_up, exiting_gives_up}
use Rattle.load_model.proofs.Residents.{legal_kept}
use Rattle.load_model.proofs.Apart.{attached_stays, others_leave_alike}
use Rattle.load_model.proofs.Bytes.{left_none, right_none, with_writes, same_stay, some_stay, attached_is}
use Rattle.load_model.proofs.ViewSteps.{quiet_alike, shared_alike}
use Rattle.load_model.proofs.ViewLoads.{entering_process, attached_grows, held_writes}
use Rattle.load_model.proofs.ViewWrites.{own_process, attached_written, attached_in}
use Rattle.load_model.proofs.ViewLeaving.{all_filter, still_reached, residence_after, writes_after}

abbrev AllHeld : Library → Eager → ℕ → Type 0
AllHeld lib e pid = AllByRecursion (IsHeldBy lib e pid) (e.processes pid).writes

all_moved : (P Q : OwnWrite → Type 0) → ((w : OwnWrite) → P w → Q w) → (ws : List OwnWrite) → AllByRecursion P ws → AllByRecursion Q ws
all_moved P Q each [] all = tt
all_moved P Q each (w ∷ ws) all = (each w all.0, all_moved P Q each ws all.1)

one_more : (P : OwnWrite → Type 0) (ws : List OwnWrite) (w : OwnWrite) → AllByRecursion P ws → P w → AllByRecursion P (ws ++ w ∷ [])
one_more P [] w all one = (one, tt)
one_more P (v ∷ ws) w all one = (all.0, one_more P ws w all.1 one)

-- ---- where the process stays as it was

alike_one : (lib : Library) (e after : Eager) (q : ℕ) (w : OwnWrite) → Alike lib e after q → IsHeldBy lib e q w → IsHeldBy lib after q w
alike_one lib e after q w alike it =
    step (attached_residence lib after q it.residence.«module») refl (attached_stays lib e after q it.residence.«module» alike ∙ ap unwritten_of it.there)
  where
    step : (o : Option Residence) → attached_residence lib after q it.residence.«module» ≡ o → unwritten_of (attached_residence lib after q it.residence.«module») ≡ unwritten_of (Some it.residence) →
        IsHeldBy lib after q w
    step None is same = absurd (some_stay it.residence (ap unwritten_of (sym is) ∙ same))
    step (Some b) is same = record {
      residence = with_writes it.residence b.writes;
      there = is ∙ ap Some (same_stay it.residence b (ap unwritten_of (sym is) ∙ same));
      serial = it.serial;
      span = it.span;
    }

alike_held : (lib : Library) (e after : Eager) (q : ℕ) → Alike lib e after q → AllHeld lib e q → AllHeld lib after q
alike_held lib e after q alike all =
    subst (λ (p : Process). AllByRecursion (IsHeldBy lib after q) p.writes) (sym alike.process)
    (all_moved (IsHeldBy lib e q) (IsHeldBy lib after q) (λ w it. alike_one lib e after q w alike it) (e.processes q).writes all)

-- ---- where it loads

entered_held : (lib : Library) (e : Eager) (q : ℕ) (how : How) (m : ℕ) (fresh : List Fresh) → is_none (enter_refusal lib (e.processes q) how (Some m)) ≡ true → AllHeld lib e q →
    AllHeld lib (after_entering lib e q how m fresh) q
entered_held lib e q how m fresh may all =
    subst (AllByRecursion (IsHeldBy lib (after_entering lib e q how m fresh) q))
    (sym (ap (λ (p : Process). p.writes) (entering_process lib e q how m fresh) ∙ held_writes how m (joined lib e q m) (e.processes q)))
    (all_moved (IsHeldBy lib e q) (IsHeldBy lib (after_entering lib e q how m fresh) q)
    (λ w it. record { residence = it.residence; there = attached_grows lib e q how m fresh it.residence.«module» it.residence may it.there; serial = it.serial; span = it.span }) (e.processes q).writes all)

-- ---- where it writes

attached_serial : (lib : Library) (e : Eager) (q serial m : ℕ) (w : Written) → is_attached lib e q serial m ≡ true →
    span_refusal lib peek m w.object w.offset (length w.bytes) ≡ None → IsHeldBy lib e q (record { serial = serial; write = w })
attached_serial lib e q serial m w at span = step (attached_residence lib e q m) refl at
  where
    step : (o : Option Residence) → attached_residence lib e q m ≡ o → is_serial serial o ≡ true → IsHeldBy lib e q (record { serial = serial; write = w })
    step None is at = cc
    step (Some r) is at = record {
      residence = r;
      there = ap (attached_residence lib e q) (attached_is lib e q m r is).1 ∙ is;
      serial = sym (eqb-true r.serial serial at);
      span = ap (λ n. span_refusal lib peek n w.object w.offset (length w.bytes)) (attached_is lib e q m r is).1 ∙ span;
    }

written_held : (lib : Library) (e : Eager) (q serial m : ℕ) (w : Written) (c : Class) → is_attached lib e q serial m ≡ true →
    (c ≡ classes.Private → span_refusal lib peek m w.object w.offset (length w.bytes) ≡ None) → AllHeld lib e q → AllHeld lib (after_write e q serial w c) q
written_held lib e q serial m w classes.Code at span all = all
written_held lib e q serial m w classes.Shared at span all = alike_held lib e (after_write e q serial w classes.Shared) q (shared_alike lib e q serial w classes.Shared refl) all
written_held lib e q serial m w classes.Private at span all =
    let after : Eager = after_write e q serial w classes.Private in
    let moved : (o : OwnWrite) → IsHeldBy lib e q o → IsHeldBy lib after q o =
    λ o it. record { residence = it.residence; there = attached_written lib e q serial it.residence.«module» w ∙ it.there; serial = it.serial; span = it.span }
    in
    subst (λ (p : Process). AllByRecursion (IsHeldBy lib after q) p.writes) (sym (own_process e q serial w))
    (one_more (IsHeldBy lib after q) (e.processes q).writes (record { serial = serial; write = w }) (all_moved (IsHeldBy lib e q) (IsHeldBy lib after q) moved (e.processes q).writes all)
    (moved (record { serial = serial; write = w }) (attached_serial lib e q serial m w at (span refl))))

none_is : (o : Option Refusal) → is_none o ≡ true → o ≡ None
none_is None h = refl
none_is (Some r) h = cc

span_in : (ended a : Bool) (o : Option Refusal) → not ended && (a && is_none o) ≡ true → o ≡ None
span_in ended a o may = none_is o (and_right a (is_none o) (and_right (not ended) _ may))

span_as : (lib : Library) (how : Purpose) (m object offset len : ℕ) → class_refusal how (class_of (object_at lib m object)) ≡ class_refusal peek (class_of (object_at lib m object)) →
    span_refusal lib how m object offset len ≡ span_refusal lib peek m object offset len
unfolding span_refusal
span_as lib how m object offset len same = ap (λ r. when (is_outside lib m object offset len) Range orelse r orelse when (covers_invalid lib m object offset len) Invalid) same

written_span : (lib : Library) (m object offset len : ℕ) → span_refusal lib write m object offset len ≡ None → class_of (object_at lib m object) ≡ classes.Private →
    span_refusal lib peek m object offset len ≡ None
written_span lib m object offset len fine private =
    sym (span_as lib write m object offset len (ap (class_refusal write) private ∙ sym (ap (class_refusal peek) private))) ∙ fine

debugged_span : (lib : Library) (m object offset len : ℕ) → span_refusal lib debug m object offset len ≡ None → span_refusal lib peek m object offset len ≡ None
unfolding span_refusal
debugged_span lib m object offset len fine =
    sym (span_as lib debug m object offset len (step (class_of (object_at lib m object)) (left_none _ _ (right_none (when (is_outside lib m object offset len) Range) _ fine)))) ∙ fine
  where
    step : (c : Class) → class_refusal debug c ≡ None → class_refusal debug c ≡ class_refusal peek c
    step classes.Code h = refl
    step classes.Private h = cc
    step classes.Shared h = cc

-- ---- where it leaves

left_held : (lib : Library) (e : Eager) (q : ℕ) (p : Process) → is_among pids q ≡ true → Kept lib e → GivesUp lib (e.processes q) p → p.writes ≡ (e.processes q).writes →
    AllHeld lib e q → AllHeld lib (after_leaving lib e q p) q
left_held lib e q p there kept gives same all =
    subst (AllByRecursion (IsHeldBy lib (after_leaving lib e q p) q)) (sym (writes_after lib e q p same))
    (all_filter (IsHeldBy lib e q) (IsHeldBy lib (after_leaving lib e q p) q) (λ (w : OwnWrite). not (is_among (left_serials lib e p) w.serial))
    (λ w residences it. record {
      residence = it.residence;
      there = residence_after lib e q p it.residence.«module» it.residence there kept gives it.there
          (still_reached lib e q p it.residence.«module» it.residence kept gives it.there (ap (λ n. not (is_among (left_serials lib e p) n)) (sym it.serial) ∙ residences));
      serial = it.serial;
      span = it.span;
    })
    (e.processes q).writes all)

-- ---- an entry of its own

deed_held : (lib : Library) (failing : Failing) (contents : Held) (h : List Entry) (pid : ℕ) (d : Deed) → Legal lib failing contents h →
    Follows lib failing contents h (record { pid = pid; deed = d }) → AllHeld lib (state_after lib failing h) pid → AllHeld lib (after_deed lib (state_after lib failing h) pid d) pid
unfolding after_deed may_ask
deed_held lib failing contents h pid (deeds.Enter how m fresh calls) legal follows all =
    entered_held lib (state_after lib failing h) pid how m fresh (and_right (nat_lt m (module_count lib)) _ follows.may) all
deed_held lib failing contents h pid (deeds.Full how m of object size) legal follows all = all
deed_held lib failing contents h pid (deeds.Failed how m by fresh calls gone) legal follows all =
    alike_held lib (state_after lib failing h) _ pid (quiet_alike lib (state_after lib failing h) pid (deeds.Failed how m by fresh calls gone) tt) all
deed_held lib failing contents h pid (deeds.Free m calls gone) legal follows all =
    left_held lib (state_after lib failing h) pid (freeing m ((state_after lib failing h).processes pid)) follows.process (legal_kept lib failing contents h legal)
    (freeing_gives_up lib m ((state_after lib failing h).processes pid)) refl all
deed_held lib failing contents h pid (deeds.Exit calls gone) legal follows all =
    left_held lib (state_after lib failing h) pid (exiting ((state_after lib failing h).processes pid)) follows.process (legal_kept lib failing contents h legal)
    (exiting_gives_up lib ((state_after lib failing h).processes pid)) refl all
deed_held lib failing contents h pid (deeds.Fault serial m p) legal follows all = all
deed_held lib failing contents h pid (deeds.Write serial m object offset bytes) legal follows all =
    written_held lib (state_after lib failing h) pid serial m (record { object = object; offset = offset; bytes = bytes }) (class_of (object_at lib m object))
    (attached_in lib (state_after lib failing h) pid ((state_after lib failing h).processes pid).ended _ _ follows.may)
    (written_span lib m object offset (length bytes) (span_in _ _ _ follows.may)) all
deed_held lib failing contents h pid (deeds.Debug serial m object offset bytes) legal follows all =
    written_held lib (state_after lib failing h) pid serial m (record { object = object; offset = offset; bytes = bytes }) classes.Private
    (attached_in lib (state_after lib failing h) pid ((state_after lib failing h).processes pid).ended _ _ follows.may)
    (λ private. debugged_span lib m object offset (length bytes) (span_in _ _ _ follows.may)) all
deed_held lib failing contents h pid (deeds.Shared serial m object offset bytes) legal follows all = all

-- ---- a history

held_more : (lib : Library) (failing : Failing) (contents : Held) (h : List Entry) (x : Entry) (q : ℕ) → is_among pids q ≡ true → Legal lib failing contents h →
    Follows lib failing contents h x → AllHeld lib (state_after lib failing h) q → AllHeld lib (state_after lib failing (h ++ x ∷ [])) q
held_more lib failing contents h x q there legal follows all =
    subst (λ e. AllHeld lib e q) (sym (one_more_is_after lib failing h x)) (step (q == x.pid) refl)
  where
    step : (b : Bool) → (q == x.pid) ≡ b → AllHeld lib (after_entry lib (state_after lib failing h) x) q
    step true own =
        subst (λ p. AllHeld lib (after_entry lib (state_after lib failing h) x) p) (sym (eqb-true q x.pid own))
        (deed_held lib failing contents h x.pid x.deed legal follows (subst (AllHeld lib (state_after lib failing h)) (eqb-true q x.pid own) all))
    step false other = alike_held lib (state_after lib failing h) _ q (others_leave_alike lib failing contents h x q legal follows there other) all

all_held : (lib : Library) (failing : Failing) (contents : Held) (q : ℕ) → is_among pids q ≡ true → (h before : List Entry) → AllFollow lib failing contents before h →
    Legal lib failing contents before → AllHeld lib (state_after lib failing before) q → AllHeld lib (state_after lib failing (before ++ h)) q
all_held lib failing contents q there [] before all legal held = (let S : List Entry → Type 0 = λ b. AllHeld lib (state_after lib failing b) q in subst S (sym (append-nil before)) held)
all_held lib failing contents q there (x ∷ h) before all legal held =
    let S : List Entry → Type 0 = λ b. AllHeld lib (state_after lib failing b) q in
    subst S (append_assoc before (x ∷ []) h)
    (all_held lib failing contents q there h (before ++ x ∷ []) all.1 (one_more_is_legal lib failing contents before x legal all.0) (held_more lib failing contents before x q there legal all.0 held))

pub own_writes_are_held : OwnWritesAreHeld
unfolding Legal state_after
own_writes_are_held lib failing contents h pid legal there = all_held lib failing contents pid there h [] legal (nothing_is_legal lib failing contents) tt
