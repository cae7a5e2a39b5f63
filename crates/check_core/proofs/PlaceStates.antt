-- The state at a place, by the history and by touched pages.
use Rattle.std.proofs.Common.{◌≡◌, ℕ, ◌==◌, ◌&&◌, ◌||◌, Bool, true, false, not, if◌then◌else◌, List, [], ◌∷◌, ◌++◌, Option, Some, None, refl, sym, ◌∙◌, ap, subst, eqb-true, eq-eqb}
use Rattle.std.specs.List.{list_any, list_all}
use Rattle.std.proofs.lemmas.List.Folds.{list_any-append}
use Rattle.std.proofs.lemmas.List.Sums.{fold-append}
use Rattle.std.proofs.lemmas.Map.Views.{any-filter_same}
use Rattle.lx_types.specs.declared.object.PageId.{PageId}
use Rattle.lx_types.specs.Object.{class_of}
use Rattle.load_model.specs.declared.commands.Command.{Command}
use Rattle.load_model.specs.declared.commands.Command.TheVariants as commands
use Rattle.load_model.specs.declared.commands.Place.{Place}
use Rattle.load_model.specs.declared.commands.Reply.{Reply}
use Rattle.load_model.specs.declared.commands.Reply.TheVariants as replies
use Rattle.load_model.specs.declared.deeds.Deed.{Deed}
use Rattle.load_model.specs.declared.deeds.Deed.TheVariants as deeds
use Rattle.load_model.specs.declared.deeds.Entry.{Entry}
use Rattle.load_model.specs.Modules.{Library, object_at}
use Rattle.load_model.specs.State.{PageOf, Process, Residence, Failing, Eager, is_among, nothing_yet, serial_of}
use Rattle.load_model.specs.Leaving.{freeing, exiting, left_serials}
use Rattle.load_model.specs.Memory.{is_page, page, pages_over}
use Rattle.load_model.specs.Refusals.{residence_named, refusal_of}
use Rattle.load_model.specs.Asks.{after_deed, is_own}
use Rattle.load_model.specs.Step.{fine_answer, answer_of, serial_named, after_steady}
use Rattle.load_model.specs.Histories.{is_fault_of, has_fault}
use Rattle.load_model.specs.Accepted.{retouched}
use Rattle.load_model.specs.Touched.{SamePages}
use Rattle.load_model.specs.TouchedPages.{has_page, pages_kept, touched_after}
use Rattle.load_model.specs.Views.{mapped_pages}
use Rattle.load_model.specs.ViewLaws.{RefusedByView, AnsweredByView}
use Rattle.load_model.proofs.Answers.{answer_by, answer_is}
use Rattle.load_model.proofs.Bools.{and_left}
use Rattle.load_model.proofs.Touched.{named_apart, answered_by_pages, entries_move_touched}
use Rattle.session_model.specs.declared.sessions.Line.{Line}
use Rattle.session_model.specs.Merging.{Item, entry, line, after_item, state_after_items, is_first_touch, had_faults, is_fault_item, uses_touched}
use Rattle.session_model.specs.MergeLaws.{entries_in, touched_in}
use Rattle.session_model.proofs.MergeStates.{states_are_the_historys}
use Rattle.session_model.proofs.UsedPages.{uses_by_pages}
use Rattle.merge_laws.specs.OwnStates.{pages_after_line, are_fixed}
use Rattle.merge_laws.specs.PageStates.{pages_at}
use Rattle.merge_laws.proofs.Alike.{touch_moves}
use Rattle.check_model.specs.Checks.{Judge, state_at}
use Rattle.check_model.proofs.Following.{may_alike, done_alike}
use Rattle.check_core.specs.PlaceStates.{history_state, EntriesByHistory, HasTouchedAt, TouchedByItems, PagesDecide, ViewsAnswerAtPlaces}

pub entries_by_history : EntriesByHistory
entries_by_history = record {
  may = λ j before pid ask. may_alike j.lib j.failing j.contents before pid ask;
  done = λ j before pid ask. done_alike j.lib j.failing j.contents before pid ask;
}

-- ---- one item more

state_end : (lib : Library) (failing : Failing) (items : List Item) (z : Item) →
    state_after_items lib failing (items ++ z ∷ []) ≡ after_item lib (state_after_items lib failing items) z
unfolding state_after_items
state_end lib failing items z = fold-append (after_item lib) (nothing_yet failing) items (z ∷ [])

nothing_touched : (j : Judge) (pid : ℕ) → HasTouchedAt j [] pid []
unfolding state_after_items
nothing_touched j pid serial q = refl

-- pages that stay by their serial number stay alike
kept_alike : (lib : Library) (e : Eager) (p : Process) (a b : List PageOf) → SamePages a b → SamePages (pages_kept lib e p a) (pages_kept lib e p b)
kept_alike lib e p a b same serial q =
    one a ∙ (ap (λ c. residences && c) (same serial q) ∙ sym (one b))
  where
    residences : Bool
    residences = not (is_among (left_serials lib e p) serial)

    one : (ts : List PageOf) → has_page (pages_kept lib e p ts) serial q ≡ residences && has_page ts serial q
    one ts =
        any-filter_same (λ (t : PageOf). (t.serial == serial) && is_page t.page q) (λ (t : PageOf). not (is_among (left_serials lib e p) t.serial)) residences
        (λ t is. ap (λ (s : ℕ). not (is_among (left_serials lib e p) s)) (eqb-true t.serial serial (and_left (t.serial == serial) (is_page t.page q) is))) ts

if_alike : (c : Bool) (a b d f : List PageOf) → SamePages a b → SamePages d f → SamePages (if c then a else d) (if c then b else f)
if_alike true a b d f first second = first
if_alike false a b d f first second = second

after_alike : (lib : Library) (e : Eager) (q : ℕ) (d : Deed) (a b : ℕ → List PageOf) (pid : ℕ) → SamePages (a pid) (b pid) →
    SamePages (touched_after lib e q d a pid) (touched_after lib e q d b pid)
after_alike lib e q (deeds.Free m calls gone) a b pid same =
    if_alike (pid == q) (pages_kept lib e (freeing m (e.processes q)) (a pid)) (pages_kept lib e (freeing m (e.processes q)) (b pid)) (a pid) (b pid)
    (kept_alike lib e (freeing m (e.processes q)) (a pid) (b pid) same) same
after_alike lib e q (deeds.Exit calls gone) a b pid same =
    if_alike (pid == q) (pages_kept lib e (exiting (e.processes q)) (a pid)) (pages_kept lib e (exiting (e.processes q)) (b pid)) (a pid) (b pid)
    (kept_alike lib e (exiting (e.processes q)) (a pid) (b pid) same) same
after_alike lib e q (deeds.Enter how m fresh calls) a b pid same = same
after_alike lib e q (deeds.Full how m of object size) a b pid same = same
after_alike lib e q (deeds.Failed how m by fresh calls gone) a b pid same = same
after_alike lib e q (deeds.Fault serial m p) a b pid same = same
after_alike lib e q (deeds.Write serial m object offset bytes) a b pid same = same
after_alike lib e q (deeds.Debug serial m object offset bytes) a b pid same = same
after_alike lib e q (deeds.Shared serial m object offset bytes) a b pid same = same

touched_by_entry : (j : Judge) (before : List Item) (pid : ℕ) (pages : List PageOf) (x : Entry) → HasTouchedAt j before pid pages →
    HasTouchedAt j (before ++ entry x ∷ []) pid (touched_after j.lib (history_state j before) x.pid x.deed (λ q. pages) pid)
touched_by_entry j before pid pages x has =
    let at : Eager = state_at j before in
    let h : Eager = history_state j before in
    let next : state_at j (before ++ entry x ∷ []) ≡ retouched (touched_after j.lib h x.pid x.deed (touched_in at)) (after_deed j.lib h x.pid x.deed) =
    state_end j.lib j.failing before (entry x)
    ∙ (ap (λ g. after_deed j.lib g x.pid x.deed) (states_are_the_historys j.lib j.failing before) ∙ entries_move_touched j.lib h (touched_in at) x.pid x.deed) in
    subst (λ (g : Eager). SamePages (touched_in g pid) (touched_after j.lib h x.pid x.deed (λ q. pages) pid)) (sym next)
    (after_alike j.lib h x.pid x.deed (touched_in at) (λ q. pages) pid has)

more_alike : (a b more : List PageOf) → SamePages a b → SamePages (a ++ more) (b ++ more)
more_alike a b more same serial q =
    let test : PageOf → Bool = λ t. (t.serial == serial) && is_page t.page q in
    list_any-append test a more ∙ (ap (λ c. c || has_page more serial q) (same serial q) ∙ sym (list_any-append test b more))

line_alike : (lib : Library) (e : Eager) (touched : ℕ → List PageOf) (pid : ℕ) (pages : List PageOf) (c : Command) (r : Reply) → SamePages (touched pid) pages →
    SamePages (touched_in (after_steady lib (retouched touched e) pid c r) pid) (pages_after_line lib e pid c r pages)
unfolding after_steady
line_alike lib e touched pid pages (commands.Touch at) replies.Fine same =
    subst (λ (g : Eager). SamePages (touched_in g pid) (pages ++ pages_at (serial_named lib e pid at) at)) (sym (touch_moves lib e touched pid at))
    (subst (λ b. SamePages (if b then touched pid ++ pages_at (serial_named lib e pid at) at else touched pid) (pages ++ pages_at (serial_named lib e pid at) at)) (sym (eq-eqb pid pid refl))
    (more_alike (touched pid) pages (pages_at (serial_named lib e pid at) at) same))
line_alike lib e touched pid pages c r same = same

-- a line of another process touches nothing for this one
other_alike : (lib : Library) (e : Eager) (touched : ℕ → List PageOf) (pid other : ℕ) (pages : List PageOf) (c : Command) (r : Reply) → (pid == other) ≡ false →
    SamePages (touched pid) pages → SamePages (touched_in (after_steady lib (retouched touched e) other c r) pid) pages
unfolding after_steady
other_alike lib e touched pid other pages (commands.Touch at) replies.Fine apart same =
    subst (λ (g : Eager). SamePages (touched_in g pid) pages) (sym (touch_moves lib e touched other at))
    (subst (λ b. SamePages (if b then touched pid ++ pages_at (serial_named lib e other at) at else touched pid) pages) (sym apart) same)
other_alike lib e touched pid other pages c r apart same = same

after_line : (j : Judge) (before : List Item) (pid : ℕ) (l : Line) →
    state_at j (before ++ line pid l ∷ []) ≡ after_steady j.lib (retouched (touched_in (state_at j before)) (history_state j before)) pid l.command l.reply
after_line j before pid l =
    state_end j.lib j.failing before (line pid l) ∙ ap (λ g. after_steady j.lib g pid l.command l.reply) (states_are_the_historys j.lib j.failing before)

pub touched_by_items : TouchedByItems
touched_by_items = record {
  nothing = nothing_touched;
  by_entry = touched_by_entry;
  by_line = λ j before pid pages l has.
      subst (λ (g : Eager). SamePages (touched_in g pid) (pages_after_line j.lib (history_state j before) pid l.command l.reply pages)) (sym (after_line j before pid l))
      (line_alike j.lib (history_state j before) (touched_in (state_at j before)) pid pages l.command l.reply has);
  by_other = λ j before pid other pages l apart has.
      subst (λ (g : Eager). SamePages (touched_in g pid) pages) (sym (after_line j before other l))
      (other_alike j.lib (history_state j before) (touched_in (state_at j before)) pid other pages l.command l.reply apart has);
}

-- ---- what touched pages decide

first_by_pages : (lib : Library) (e : Eager) (a b : ℕ → List PageOf) (pid serial : ℕ) (p : PageId) (c : Command) (r : Reply) → SamePages (a pid) (b pid) →
    is_first_touch lib (retouched a e) pid serial p c r ≡ is_first_touch lib (retouched b e) pid serial p c r
first_by_pages lib e a b pid serial p (commands.Touch at) replies.Fine same =
    ap (λ o. (serial_of o == serial) && (at.object == p.object) && is_among (pages_over at.offset at.len) p.page && not (has_page (a pid) serial p))
    (named_apart lib e a pid at.«module» ∙ sym (named_apart lib e b pid at.«module»))
    ∙ ap (λ had. (serial_named lib (retouched b e) pid at == serial) && (at.object == p.object) && is_among (pages_over at.offset at.len) p.page && not had) (same serial p)
first_by_pages lib e a b pid serial p c r same = refl

faults_in : (serial : ℕ) (p : PageId) (items : List Item) → list_any (is_fault_item serial p) items ≡ has_fault (entries_in items) serial p
unfolding has_fault
faults_in serial p [] = refl
faults_in serial p (entry x ∷ items) = ap (λ b. is_fault_of serial p x.deed || b) (faults_in serial p items)
faults_in serial p (line q l ∷ items) = faults_in serial p items

had_in : (lib : Library) (items : List Item) (at : Place) (o : Option Residence) → had_faults lib items at o ≡ are_fixed lib (entries_in items) at o
had_in lib items at None = refl
had_in lib items at (Some r) =
    λ i. list_all (λ n. is_own (class_of (object_at lib r.«module» (page at.object n).object)) || faults_in r.serial (page at.object n) items i) (pages_over at.offset at.len)

pub pages_decide : PagesDecide
pages_decide j before pid pages has =
    let at : Eager = state_at j before in
    let e : Eager = history_state j before in
    let is = states_are_the_historys j.lib j.failing before in
    record {
      refusals = λ c. ap (λ g. refusal_of j.lib g pid c) is ∙ (answered_by_pages j.lib j.contents e (touched_in at) (λ q. pages) pid c has).0;
      answers = λ c. ap (λ g. answer_of j.lib j.contents g pid c) is ∙ (answered_by_pages j.lib j.contents e (touched_in at) (λ q. pages) pid c has).1;
      uses = λ d. ap (λ g. uses_touched g pid d) is ∙ uses_by_pages e (touched_in at) (λ q. pages) pid d has;
      firsts = λ serial p c r. ap (λ g. is_first_touch j.lib g pid serial p c r) is ∙ first_by_pages j.lib e (touched_in at) (λ q. pages) pid serial p c r has;
      follows = λ place.
          had_in j.lib before place (residence_named j.lib at pid place.«module»)
          ∙ ap (are_fixed j.lib (entries_in before) place)
          (ap (λ g. residence_named j.lib g pid place.«module») is ∙ named_apart j.lib e (touched_in at) pid place.«module»);
    }

-- ---- views

pub views_answer_at_places : RefusedByView → AnsweredByView → ViewsAnswerAtPlaces
views_answer_at_places refused answered = record {
  refusals = λ j before v c s.
      (pages_decide j before v.pid (mapped_pages v) s.touched).refusals c ∙ refused j.lib j.failing j.contents v (entries_in before) c s.stands;
  answers = λ j before v c reply s none is.
      (pages_decide j before v.pid (mapped_pages v) s.touched).answers c ∙ answered j.lib j.failing j.contents v (entries_in before) c reply s.legal s.stands none is;
  refused = λ j before v c refusal s is.
      answer_is j.lib j.contents (state_at j before) v.pid c
      ∙ ap (answer_by (fine_answer j.lib j.contents (state_at j before) v.pid c))
      ((pages_decide j before v.pid (mapped_pages v) s.touched).refusals c ∙ (refused j.lib j.failing j.contents v (entries_in before) c s.stands ∙ is));
}
