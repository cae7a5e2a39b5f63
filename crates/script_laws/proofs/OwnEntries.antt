-- A command that the view does not refuse and that has an entry: the process makes the entry at once, and its view stands after it.
use Rattle.std.proofs.Common.{◌≡◌, ◌∙◌, ℕ, ◌==◌, Bool, true, false, List, [], ◌∷◌, ◌++◌, length, map, find, Option, Some, None, is_none, IsTrue, cond, refl, sym, ap, subst, append-nil}
use Rattle.std.specs.Prelude.{not, ◌&&◌}
use Rattle.std.specs.List.{AllByRecursion, list_all}
use Rattle.lx_types.specs.Object.{class_of}
use Rattle.lx_types.specs.declared.object.Class.{Class}
use Rattle.lx_types.specs.declared.object.Class.TheVariants as classes
use Rattle.load_model.specs.declared.commands.Command.{Command}
use Rattle.load_model.specs.declared.commands.Refusal.{Refusal}
use Rattle.load_model.specs.declared.commands.Ask.{Ask}
use Rattle.load_model.specs.declared.commands.Ask.TheVariants.{Write as put, Debug as patch}
use Rattle.load_model.specs.declared.deeds.Deed.{Deed}
use Rattle.load_model.specs.declared.deeds.Deed.TheVariants as deeds
use Rattle.load_model.specs.declared.deeds.Entry.{Entry}
use Rattle.load_model.specs.Modules.{Library, Held, object_at}
use Rattle.load_model.specs.State.{Failing, Eager, PageOf, Written}
use Rattle.load_model.specs.Memory.{page, pages_over, first_untouched}
use Rattle.load_model.specs.Refusals.{Purpose, write, debug, class_refusal, span_refusal, refusal_of}
use Rattle.load_model.specs.Asks.{deed_of, may_ask}
use Rattle.load_model.specs.Step.{ask_by, FitsPlace}
use Rattle.load_model.specs.Histories.{state_after, Follows, Legal}
use Rattle.load_model.specs.Leaving.{freeing, exiting}
use Rattle.load_model.specs.Laws.{OneMoreIsLegal}
use Rattle.load_model.specs.Accepted.{AcceptedFollows, AcceptedMayAsk, TouchedIsApart}
use Rattle.load_model.specs.Outcomes.{NamesAreKnown}
use Rattle.load_model.specs.TouchedPages.{has_page, touched_after}
use Rattle.load_model.specs.WrittenPages.{written_over}
use Rattle.load_model.specs.Views.{Holding, Mapped, mapped_pages, is_covered, StandsFor, state_for}
use Rattle.load_model.specs.ViewLaws.{StandsQuiet, StandsWritten, StandsEntered}
use Rattle.load_model.specs.ViewLeaving.{mapped_kept, StandsLeft, KeptAreTouched}
use Rattle.load_model.proofs.Bools.{and_left, and_right, and_true}
use Rattle.load_model.proofs.Bytes.{left_none, right_none}
use Rattle.session_model.specs.declared.sessions.Line.{Line}
use Rattle.session_model.specs.Merging.{AsksFor, is_fault, uses_touched}
use Rattle.merge_laws.specs.ViewAccounts.{WrittenMapped}
use Rattle.script_laws.specs.Progress.{Progress, Enters}
use Rattle.script_laws.specs.Commands.{EntryGoesOn}
use Rattle.script_laws.proofs.Asked.{asks_for, Entered, entered_by}
use Rattle.script_laws.proofs.Kept.{counts_of, counts_are, residences_of, residences_are}

-- ---- the view after an entry

abbrev entry_of : Holding → Deed → Entry
entry_of v d = record { pid = v.pid; deed = d }

-- A view stands after the entry, and has mapped what the process has touched then.
pub record After (lib : Library) (failing : Failing) (contents : Held) (v : Holding) (h : List Entry) (d : Deed) : Type 0 where
  pub view : Holding
  pub same : view.pid ≡ v.pid
  pub stands : StandsFor lib failing contents view (h ++ entry_of v d ∷ [])
  pub mapped : mapped_pages view ≡ touched_after lib (state_after lib failing h) v.pid d (λ q. mapped_pages v) v.pid

-- ---- writes

-- pages that are touched are mapped
all_mapped : (touched : ℕ → Bool) (ns : List ℕ) → is_none (find (λ n. not (touched n)) ns) ≡ true → list_all touched ns ≡ true
all_mapped touched [] is = refl
all_mapped touched (n ∷ ns) is = step (touched n) refl is (all_mapped touched ns)
  where
    step : (b : Bool) → touched n ≡ b → is_none (cond (not b) (Some n) (find (λ n. not (touched n)) ns)) ≡ true →
        (is_none (find (λ n. not (touched n)) ns) ≡ true → list_all touched ns ≡ true) → touched n && list_all touched ns ≡ true
    step true at is later = and_true (touched n) (list_all touched ns) at (later is)
    step false at is later = cc

covered : (lib : Library) (failing : Failing) (v : Holding) (h : List Entry) (serial object offset : ℕ) (bytes : List ℕ) →
    is_none (first_untouched ((state_for lib failing v h).processes v.pid) serial object offset (length bytes)) ≡ true →
    is_covered (mapped_pages v) (record { serial = serial; write = record { object = object; offset = offset; bytes = bytes } }) ≡ true
covered lib failing v h serial object offset bytes is =
    all_mapped (λ n. has_page (mapped_pages v) serial (page object n)) (pages_over offset (length bytes)) is

none_is : (x : Option Refusal) → is_none x ≡ true → x ≡ None
none_is None h = refl
none_is (Some y) h = cc

class_fine : (lib : Library) (how : Purpose) (m object offset len : ℕ) → span_refusal lib how m object offset len ≡ None →
    class_refusal how (class_of (object_at lib m object)) ≡ None
unfolding span_refusal
class_fine lib how m object offset len fine = left_none _ _ (right_none _ _ fine)

put_class : (lib : Library) (e : Eager) (pid serial m object offset : ℕ) (bytes : List ℕ) → may_ask lib e pid (put serial m object offset bytes) ≡ true →
    class_refusal write (class_of (object_at lib m object)) ≡ None
unfolding may_ask
put_class lib e pid serial m object offset bytes may =
    class_fine lib write m object offset (length bytes) (none_is _ (and_right _ _ (and_right _ _ may)))

patch_class : (lib : Library) (e : Eager) (pid serial m object offset : ℕ) (bytes : List ℕ) → may_ask lib e pid (patch serial m object offset bytes) ≡ true →
    class_refusal debug (class_of (object_at lib m object)) ≡ None
unfolding may_ask
patch_class lib e pid serial m object offset bytes may =
    class_fine lib debug m object offset (length bytes) (none_is _ (and_right _ _ (and_right _ _ may)))

-- ---- each entry

-- what is asked of the laws of the loader's model
pub record EntryLaws : Type 0 where
  pub legal : OneMoreIsLegal
  pub accepted : AcceptedMayAsk
  pub apart : TouchedIsApart
  pub follows : AcceptedFollows
  pub known : NamesAreKnown
  pub quiet : StandsQuiet
  pub written : StandsWritten
  pub entered : StandsEntered
  pub left : StandsLeft
  pub kept : KeptAreTouched
  pub pages : WrittenMapped
  pub goes : EntryGoesOn

abbrev at_front : Holding → List Entry → Holding
at_front v h = record v { front = length h }

after_write : (laws : EntryLaws) (lib : Library) (failing : Failing) (contents : Held) (v : Holding) (h : List Entry) (serial m object offset : ℕ) (bytes : List ℕ) →
    Legal lib failing contents h → Follows lib failing contents h (entry_of v (deeds.Write serial m object offset bytes)) → StandsFor lib failing contents v h →
    is_covered (mapped_pages v) (record { serial = serial; write = record { object = object; offset = offset; bytes = bytes } }) ≡ true →
    (c : Class) → class_of (object_at lib m object) ≡ c → class_refusal write c ≡ None →
    After lib failing contents v h (deeds.Write serial m object offset bytes)
after_write laws lib failing contents v h serial m object offset bytes legal follows stands mapped classes.Code is fine = cc
after_write laws lib failing contents v h serial m object offset bytes legal follows stands mapped classes.Private is fine =
    let w : Written = record { object = object; offset = offset; bytes = bytes } in
    let x = entry_of v (deeds.Write serial m object offset bytes) in
    record {
      view = record v { mapped = map (written_over serial w) v.mapped; front = length (h ++ x ∷ []) };
      same = refl;
      stands = laws.written lib failing contents v h x serial m w legal follows refl (is, refl, refl, refl) mapped stands;
      mapped = laws.pages v serial w;
    }
after_write laws lib failing contents v h serial m object offset bytes legal follows stands mapped classes.Shared is fine =
    let x = entry_of v (deeds.Write serial m object offset bytes) in
    record { view = at_front v (h ++ x ∷ []); same = refl; stands = laws.quiet lib failing contents v h x refl is stands; mapped = refl }

after_debug : (laws : EntryLaws) (lib : Library) (failing : Failing) (contents : Held) (v : Holding) (h : List Entry) (serial m object offset : ℕ) (bytes : List ℕ) →
    Legal lib failing contents h → Follows lib failing contents h (entry_of v (deeds.Debug serial m object offset bytes)) → StandsFor lib failing contents v h →
    is_covered (mapped_pages v) (record { serial = serial; write = record { object = object; offset = offset; bytes = bytes } }) ≡ true →
    (c : Class) → class_of (object_at lib m object) ≡ c → class_refusal debug c ≡ None →
    After lib failing contents v h (deeds.Debug serial m object offset bytes)
after_debug laws lib failing contents v h serial m object offset bytes legal follows stands mapped classes.Code is fine =
    let w : Written = record { object = object; offset = offset; bytes = bytes } in
    let x = entry_of v (deeds.Debug serial m object offset bytes) in
    record {
      view = record v { mapped = map (written_over serial w) v.mapped; front = length (h ++ x ∷ []) };
      same = refl;
      stands = laws.written lib failing contents v h x serial m w legal follows refl (is, refl, refl, refl) mapped stands;
      mapped = laws.pages v serial w;
    }
after_debug laws lib failing contents v h serial m object offset bytes legal follows stands mapped classes.Private is fine = cc
after_debug laws lib failing contents v h serial m object offset bytes legal follows stands mapped classes.Shared is fine = cc

after : (laws : EntryLaws) (lib : Library) (failing : Failing) (contents : Held) (v : Holding) (h : List Entry) (d : Deed) →
    Legal lib failing contents h → Follows lib failing contents h (entry_of v d) → StandsFor lib failing contents v h → is_fault d ≡ false →
    uses_touched (state_for lib failing v h) v.pid d ≡ true → After lib failing contents v h d
after laws lib failing contents v h (deeds.Enter how m fresh calls) legal follows stands plain uses =
    let x = entry_of v (deeds.Enter how m fresh calls) in
    let e : Eager = state_after lib failing (h ++ x ∷ []) in
    record {
      view = record v { counts = counts_of lib (e.processes v.pid); residences = residences_of lib e v.pid; front = length (h ++ x ∷ []) };
      same = refl;
      stands =
          laws.entered lib failing contents v h x how m fresh calls (counts_of lib (e.processes v.pid)) (residences_of lib e v.pid) legal follows refl refl
          (counts_are lib (e.processes v.pid)) (residences_are lib e v.pid) stands;
      mapped = refl;
    }
after laws lib failing contents v h (deeds.Free m calls gone) legal follows stands plain uses =
    let x = entry_of v (deeds.Free m calls gone) in
    let e : Eager = state_after lib failing (h ++ x ∷ []) in
    let p = freeing m ((state_after lib failing h).processes v.pid) in
    record {
      view = record v {
        ended = p.ended;
        counts = counts_of lib (e.processes v.pid);
        residences = residences_of lib e v.pid;
        mapped = mapped_kept lib (state_after lib failing h) p v.mapped;
        front = length (h ++ x ∷ []);
      };
      same = refl;
      stands =
          laws.left lib failing contents v h x p (counts_of lib (e.processes v.pid)) (residences_of lib e v.pid) legal follows refl refl
          (counts_are lib (e.processes v.pid)) (residences_are lib e v.pid) stands;
      mapped = laws.kept lib v (state_after lib failing h) (deeds.Free m calls gone) p refl;
    }
after laws lib failing contents v h (deeds.Exit calls gone) legal follows stands plain uses =
    let x = entry_of v (deeds.Exit calls gone) in
    let e : Eager = state_after lib failing (h ++ x ∷ []) in
    let p = exiting ((state_after lib failing h).processes v.pid) in
    record {
      view = record v {
        ended = p.ended;
        counts = counts_of lib (e.processes v.pid);
        residences = residences_of lib e v.pid;
        mapped = mapped_kept lib (state_after lib failing h) p v.mapped;
        front = length (h ++ x ∷ []);
      };
      same = refl;
      stands =
          laws.left lib failing contents v h x p (counts_of lib (e.processes v.pid)) (residences_of lib e v.pid) legal follows refl refl
          (counts_are lib (e.processes v.pid)) (residences_are lib e v.pid) stands;
      mapped = laws.kept lib v (state_after lib failing h) (deeds.Exit calls gone) p refl;
    }
after laws lib failing contents v h (deeds.Full how m of object size) legal follows stands plain uses =
    let x = entry_of v (deeds.Full how m of object size) in
    record { view = at_front v (h ++ x ∷ []); same = refl; stands = laws.quiet lib failing contents v h x refl tt stands; mapped = refl }
after laws lib failing contents v h (deeds.Failed how m by fresh calls gone) legal follows stands plain uses =
    let x = entry_of v (deeds.Failed how m by fresh calls gone) in
    record { view = at_front v (h ++ x ∷ []); same = refl; stands = laws.quiet lib failing contents v h x refl tt stands; mapped = refl }
after laws lib failing contents v h (deeds.Shared serial m object offset bytes) legal follows stands plain uses =
    let x = entry_of v (deeds.Shared serial m object offset bytes) in
    record { view = at_front v (h ++ x ∷ []); same = refl; stands = laws.quiet lib failing contents v h x refl tt stands; mapped = refl }
after laws lib failing contents v h (deeds.Write serial m object offset bytes) legal follows stands plain uses =
    after_write laws lib failing contents v h serial m object offset bytes legal follows stands (covered lib failing v h serial object offset bytes uses)
    (class_of (object_at lib m object)) refl (put_class lib (state_after lib failing h) v.pid serial m object offset bytes follows.may)
after laws lib failing contents v h (deeds.Debug serial m object offset bytes) legal follows stands plain uses =
    after_debug laws lib failing contents v h serial m object offset bytes legal follows stands (covered lib failing v h serial object offset bytes uses)
    (class_of (object_at lib m object)) refl (patch_class lib (state_after lib failing h) v.pid serial m object offset bytes follows.may)
after laws lib failing contents v h (deeds.Fault serial m p) legal follows stands plain uses = cc

-- ---- the command

-- what the process has come to by a command: entries of its own more, and a view that stands after them
pub record Next (lib : Library) (failing : Failing) (contents : Held) (v : Holding) (h : List Entry) (done : List Command) (command : Command) : Type 0 where
  pub view : Holding
  pub same : view.pid ≡ v.pid
  pub whole : List Entry
  pub more : List Entry
  pub is : whole ≡ h ++ more
  pub own : AllByRecursion (λ (x : Entry). x.pid ≡ v.pid) more
  pub lines : List Line
  pub progress : Progress lib failing contents view whole lines (done ++ command ∷ [])

enters_now : (lib : Library) (failing : Failing) (contents : Held) (v : Holding) (h : List Entry) (command : Command) (ask : Ask) (d : Deed) →
    (it : After lib failing contents v h d) → Follows lib failing contents h (entry_of v d) → Entered (state_for lib failing v h) v.pid ask d →
    AsksFor lib command ask → Enters lib failing contents v it.view h (h ++ entry_of v d ∷ []) command
enters_now lib failing contents v h command ask d it follows made asks =
    let here : h ≡ h ++ [] = sym (append-nil h) in
    record {
      more = [];
      others = tt;
      entry = entry_of v d;
      shown = ap (λ l. l ++ entry_of v d ∷ []) here;
      own = refl;
      asked = subst (AsksFor lib command) (sym made.again) asks;
      plain = made.command;
      follows = subst (λ l. Follows lib failing contents l (entry_of v d)) here follows;
      uses = subst (λ l. uses_touched (state_for lib failing v l) v.pid d ≡ true) here made.uses;
      same = it.same;
      mapped = subst (λ l. mapped_pages it.view ≡ touched_after lib (state_after lib failing l) v.pid d (λ q. mapped_pages v) v.pid) here it.mapped;
    }

pub by_entry : (laws : EntryLaws) (lib : Library) (failing : Failing) (contents : Held) (v : Holding) (h : List Entry) (lines : List Line) (done : List Command)
    (command : Command) (ask : Ask) → FitsPlace command → refusal_of lib (state_for lib failing v h) v.pid command ≡ None →
    ask_by lib (state_for lib failing v h) v.pid command ≡ Some ask → Progress lib failing contents v h lines done →
    Next lib failing contents v h done command
by_entry laws lib failing contents v h lines done command ask fits fine is p =
    let e : Eager = state_after lib failing h in
    let f : Eager = state_for lib failing v h in
    let d : Deed = deed_of lib contents e v.pid ask in
    let follows : Follows lib failing contents h (entry_of v d) = laws.follows lib failing contents h (λ q. mapped_pages v) v.pid command ask p.process fits fine is in
    let may : may_ask lib e v.pid ask ≡ true =
    sym (laws.apart lib contents e (λ q. mapped_pages v) v.pid ask).0 ∙ (laws.accepted lib contents f v.pid command ask fits fine is).0
    in
    let made : Entered f v.pid ask d = entered_by lib contents f e v.pid command ask fits fine is may in
    let it : After lib failing contents v h d = after laws lib failing contents v h d p.legal follows p.stands made.command made.uses in
    let legal : Legal lib failing contents (h ++ entry_of v d ∷ []) = laws.legal lib failing contents h (entry_of v d) p.legal follows in
    record {
      view = it.view;
      same = it.same;
      whole = h ++ entry_of v d ∷ [];
      more = entry_of v d ∷ [];
      is = refl;
      own = (refl, tt);
      lines = lines;
      progress =
          laws.goes lib failing contents v it.view h (h ++ entry_of v d ∷ []) lines done command legal it.stands
          (enters_now lib failing contents v h command ask d it follows made (asks_for laws.known lib f v.pid command ask fine is)) p;
    }
