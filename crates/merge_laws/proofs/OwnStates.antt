-- A process's own state is the history's, but for touched pages, and which those are.
use Rattle.std.proofs.Common.{length, ◌≤◌, arith, append_assoc, append-nil, length-append, ◌≡◌, ℕ, ◌+◌, ◌==◌, ◌&&◌, ◌||◌, Bool, true, false, not, if◌then◌else◌, List, [], ◌∷◌, ◌++◌, filter, flat_map, Option, Some, None, refl, sym, ◌∙◌, ap, subst, IsTrue, eqb-true, eq-eqb}
use Rattle.std.specs.List.{enumerate_from, list_any, list_all}
use Rattle.std.proofs.lemmas.List.Folds.{list_any-append}
use Rattle.std.proofs.lemmas.List.Sums.{fold-append}
use Rattle.std.proofs.lemmas.Map.Views.{any-filter_same}
use Rattle.lx_types.specs.declared.object.PageId.{PageId}
use Rattle.lx_types.specs.Object.{class_of}
use Rattle.load_model.specs.declared.commands.Place.{Place}
use Rattle.load_model.specs.declared.commands.Command.{Command}
use Rattle.load_model.specs.declared.commands.Command.TheVariants as commands
use Rattle.load_model.specs.declared.commands.Reply.{Reply}
use Rattle.load_model.specs.declared.commands.Reply.TheVariants as replies
use Rattle.load_model.specs.declared.deeds.Deed.{Deed}
use Rattle.load_model.specs.declared.deeds.Deed.TheVariants as deeds
use Rattle.load_model.specs.declared.deeds.Entry.{Entry}
use Rattle.load_model.specs.Modules.{Library, object_at}
use Rattle.load_model.specs.State.{PageOf, Process, Residence, Failing, Eager, is_among, nothing_yet, serial_of}
use Rattle.load_model.specs.Leaving.{freeing, exiting, left_serials}
use Rattle.load_model.specs.Memory.{is_page, page, pages_over}
use Rattle.load_model.specs.Refusals.{residence_named, refusal_of}
use Rattle.load_model.specs.Asks.{ask_in, deed_of, may_ask, after_deed, is_own}
use Rattle.load_model.specs.Step.{answer_of, serial_named, after_steady}
use Rattle.load_model.specs.Histories.{is_fault_of, has_fault, state_after}
use Rattle.load_model.specs.Accepted.{retouched}
use Rattle.load_model.specs.Touched.{SamePages}
use Rattle.load_model.specs.TouchedPages.{has_page, pages_kept, touched_after}
use Rattle.load_model.proofs.Bools.{and_left}
use Rattle.load_model.proofs.Retouched.{touched_is_apart}
use Rattle.load_model.proofs.Touched.{named_apart, answered_by_pages, entries_move_touched}
use Rattle.session_model.specs.declared.sessions.Line.{Line}
use Rattle.session_model.specs.Merging.{Item, entry, line, after_item, state_after_items, is_first_touch, had_faults, is_fault_item, uses_touched}
use Rattle.session_model.specs.MergeLaws.{entries_in, touched_in}
use Rattle.session_model.proofs.MergeStates.{entries_append, states_are_the_historys, no_entries}
use Rattle.session_model.proofs.UsedPages.{uses_by_pages}
use Rattle.merge_laws.specs.Accounts.{lines_after, own_items, own_state}
use Rattle.merge_laws.specs.OwnStates.{HasTouched, OwnItemsHaveHistory, OwnStateIsTheHistorys, FollowingReplies, pages_after_line, NothingTouched, TouchedAfterEntry, TouchedAfterLine, TouchedGoesOn, TouchedDecides, are_fixed, TouchFollowsFaults}
use Rattle.merge_laws.specs.PageStates.{pages_at}
use Rattle.merge_laws.proofs.Alike.{touch_moves}
use Rattle.merge_laws.proofs.Steps.{higher}
use Rattle.merge_laws.proofs.Growing.{items_entry, items_line}

-- ---- the state

after_entries : (pid n : ℕ) (h : List Entry) (lines : List Line) →
    entries_in (flat_map (λ (e : ℕ × Entry). entry e.1 ∷ lines_after pid lines e.0) (enumerate_from n h)) ≡ h
after_entries pid n [] lines = refl
after_entries pid n (x ∷ h) lines =
    let rest : List Item = flat_map (λ (e : ℕ × Entry). entry e.1 ∷ lines_after pid lines e.0) (enumerate_from (n + 1) h) in
    ap (λ xs. x ∷ xs)
    (entries_append (lines_after pid lines n) rest ∙ (ap (λ xs. xs ++ entries_in rest) (no_entries pid (filter (λ l. l.front == n) lines)) ∙ after_entries pid (n + 1) h lines))

pub own_items_have_history : OwnItemsHaveHistory
unfolding own_items
own_items_have_history pid h lines =
    let rest : List Item = flat_map (λ (e : ℕ × Entry). entry e.1 ∷ lines_after pid lines e.0) (enumerate_from 1 h) in
    entries_append (lines_after pid lines 0) rest ∙ (ap (λ xs. xs ++ entries_in rest) (no_entries pid (filter (λ l. l.front == 0) lines)) ∙ after_entries pid 1 h lines)

pub own_state_is_the_historys : OwnStateIsTheHistorys
own_state_is_the_historys lib failing pid h lines =
    states_are_the_historys lib failing (own_items pid h lines)
    ∙ ap (λ xs. retouched (touched_in (own_state lib failing pid h lines)) (state_after lib failing xs)) (own_items_have_history pid h lines)

pub following_replies : FollowingReplies
following_replies lib failing contents pid h lines x follows uses =
    let is = own_state_is_the_historys lib failing pid h lines in
    let apart = touched_is_apart lib contents (state_after lib failing h) (touched_in (own_state lib failing pid h lines)) x.pid (ask_in x.deed) in
    record {
      may = subst (λ g. IsTrue (may_ask lib g x.pid (ask_in x.deed))) (sym is) (subst IsTrue (sym apart.0) follows.may);
      done = follows.done ∙ (sym apart.1 ∙ ap (λ g. deed_of lib contents g x.pid (ask_in x.deed)) (sym is));
      touched = uses;
    }

-- ---- one item more

state_end : (lib : Library) (failing : Failing) (items : List Item) (z : Item) →
    state_after_items lib failing (items ++ z ∷ []) ≡ after_item lib (state_after_items lib failing items) z
unfolding state_after_items
state_end lib failing items z = fold-append (after_item lib) (nothing_yet failing) items (z ∷ [])

pub nothing_touched : NothingTouched
unfolding own_items state_after_items
nothing_touched lib failing pid serial q = refl

-- pages that stay by their serial number stay alike
kept_alike : (lib : Library) (e : Eager) (p : Process) (a b : List PageOf) → SamePages a b → SamePages (pages_kept lib e p a) (pages_kept lib e p b)
kept_alike lib e p a b same serial q =
    one a ∙ (ap (λ c. residences && c) (same serial q) ∙ sym (one b))
  where
    residences : Bool
    residences = not (is_among (left_serials lib e p) serial)

    one : (ts : List PageOf) → has_page (pages_kept lib e p ts) serial q ≡ residences && has_page ts serial q
    one ts =
        any-filter_same (λ (t : PageOf). (t.serial == serial) && is_page t.page q) (λ (t : PageOf). not (is_among (left_serials lib e p) t.serial)) residences
        (λ t is. ap (λ (s : ℕ). not (is_among (left_serials lib e p) s)) (eqb-true t.serial serial (and_left (t.serial == serial) (is_page t.page q) is))) ts

if_alike : (c : Bool) (a b d f : List PageOf) → SamePages a b → SamePages d f → SamePages (if c then a else d) (if c then b else f)
if_alike true a b d f first second = first
if_alike false a b d f first second = second

after_alike : (lib : Library) (e : Eager) (q : ℕ) (d : Deed) (a b : ℕ → List PageOf) (pid : ℕ) → SamePages (a pid) (b pid) →
    SamePages (touched_after lib e q d a pid) (touched_after lib e q d b pid)
after_alike lib e q (deeds.Free m calls gone) a b pid same =
    if_alike (pid == q) (pages_kept lib e (freeing m (e.processes q)) (a pid)) (pages_kept lib e (freeing m (e.processes q)) (b pid)) (a pid) (b pid)
    (kept_alike lib e (freeing m (e.processes q)) (a pid) (b pid) same) same
after_alike lib e q (deeds.Exit calls gone) a b pid same =
    if_alike (pid == q) (pages_kept lib e (exiting (e.processes q)) (a pid)) (pages_kept lib e (exiting (e.processes q)) (b pid)) (a pid) (b pid)
    (kept_alike lib e (exiting (e.processes q)) (a pid) (b pid) same) same
after_alike lib e q (deeds.Enter how m fresh calls) a b pid same = same
after_alike lib e q (deeds.Full how m of object size) a b pid same = same
after_alike lib e q (deeds.Failed how m by fresh calls gone) a b pid same = same
after_alike lib e q (deeds.Fault serial m p) a b pid same = same
after_alike lib e q (deeds.Write serial m object offset bytes) a b pid same = same
after_alike lib e q (deeds.Debug serial m object offset bytes) a b pid same = same
after_alike lib e q (deeds.Shared serial m object offset bytes) a b pid same = same

pub touched_after_entry : TouchedAfterEntry
touched_after_entry lib failing pid h lines pages x rise has =
    let own : Eager = own_state lib failing pid h lines in
    let next : own_state lib failing pid (h ++ x ∷ []) lines ≡ retouched (touched_after lib (state_after lib failing h) x.pid x.deed (touched_in own)) (after_deed lib (state_after lib failing h) x.pid x.deed) =
    ap (state_after_items lib failing) (items_entry pid h x lines rise)
    ∙ (state_end lib failing (own_items pid h lines) (entry x)
    ∙ (ap (λ g. after_deed lib g x.pid x.deed) (own_state_is_the_historys lib failing pid h lines) ∙ entries_move_touched lib (state_after lib failing h) (touched_in own) x.pid x.deed))
    in
    subst (λ (g : Eager). SamePages (touched_in g pid) (touched_after lib (state_after lib failing h) x.pid x.deed (λ q. pages) pid)) (sym next)
    (after_alike lib (state_after lib failing h) x.pid x.deed (touched_in own) (λ q. pages) pid has)

-- an entry of another leaves the pages
after_other : (lib : Library) (e : Eager) (q : ℕ) (d : Deed) (pages : List PageOf) (pid : ℕ) → (pid == q) ≡ false → touched_after lib e q d (λ n. pages) pid ≡ pages
after_other lib e q (deeds.Free m calls gone) pages pid apart = ap (λ b. if b then pages_kept lib e (freeing m (e.processes q)) pages else pages) apart
after_other lib e q (deeds.Exit calls gone) pages pid apart = ap (λ b. if b then pages_kept lib e (exiting (e.processes q)) pages else pages) apart
after_other lib e q (deeds.Enter how m fresh calls) pages pid apart = refl
after_other lib e q (deeds.Full how m of object size) pages pid apart = refl
after_other lib e q (deeds.Failed how m by fresh calls gone) pages pid apart = refl
after_other lib e q (deeds.Fault serial m p) pages pid apart = refl
after_other lib e q (deeds.Write serial m object offset bytes) pages pid apart = refl
after_other lib e q (deeds.Debug serial m object offset bytes) pages pid apart = refl
after_other lib e q (deeds.Shared serial m object offset bytes) pages pid apart = refl

pub touched_goes_on : TouchedGoesOn
touched_goes_on lib failing pid h [] lines pages rise others has = subst (λ l. HasTouched lib failing pid l lines pages) (sym (append-nil h)) has
touched_goes_on lib failing pid h (x ∷ more) lines pages rise others has =
    let after : HasTouched lib failing pid (h ++ x ∷ []) lines pages =
    subst (λ l. HasTouched lib failing pid (h ++ x ∷ []) lines l) (after_other lib (state_after lib failing h) x.pid x.deed pages pid others.0)
    (touched_after_entry lib failing pid h lines pages x rise has)
    in
    let high : length h ≤ length (h ++ x ∷ []) = omega (arith, length-append h (x ∷ [])) in
    subst (λ l. HasTouched lib failing pid l lines pages) (append_assoc h (x ∷ []) more)
    (touched_goes_on lib failing pid (h ++ x ∷ []) more lines pages (higher 0 (length h) (length (h ++ x ∷ [])) lines high rise) others.1 after)

-- what an accepted touch adds is added alike
more_alike : (a b more : List PageOf) → SamePages a b → SamePages (a ++ more) (b ++ more)
more_alike a b more same serial q =
    let test : PageOf → Bool = λ t. (t.serial == serial) && is_page t.page q in
    list_any-append test a more ∙ (ap (λ c. c || has_page more serial q) (same serial q) ∙ sym (list_any-append test b more))

line_alike : (lib : Library) (e : Eager) (touched : ℕ → List PageOf) (pid : ℕ) (pages : List PageOf) (c : Command) (r : Reply) → SamePages (touched pid) pages →
    SamePages (touched_in (after_steady lib (retouched touched e) pid c r) pid) (pages_after_line lib e pid c r pages)
unfolding after_steady
line_alike lib e touched pid pages (commands.Touch at) replies.Fine same =
    subst (λ (g : Eager). SamePages (touched_in g pid) (pages ++ pages_at (serial_named lib e pid at) at)) (sym (touch_moves lib e touched pid at))
    (subst (λ b. SamePages (if b then touched pid ++ pages_at (serial_named lib e pid at) at else touched pid) (pages ++ pages_at (serial_named lib e pid at) at)) (sym (eq-eqb pid pid refl))
    (more_alike (touched pid) pages (pages_at (serial_named lib e pid at) at) same))
line_alike lib e touched pid pages c r same = same

pub touched_after_line : TouchedAfterLine
touched_after_line lib failing pid h lines pages l front has =
    let own : Eager = own_state lib failing pid h lines in
    let next : own_state lib failing pid h (lines ++ l ∷ []) ≡ after_steady lib (retouched (touched_in own) (state_after lib failing h)) pid l.command l.reply =
    ap (state_after_items lib failing) (items_line pid h lines l front)
    ∙ (state_end lib failing (own_items pid h lines) (line pid l) ∙ ap (λ g. after_steady lib g pid l.command l.reply) (own_state_is_the_historys lib failing pid h lines))
    in
    subst (λ (g : Eager). SamePages (touched_in g pid) (pages_after_line lib (state_after lib failing h) pid l.command l.reply pages)) (sym next)
    (line_alike lib (state_after lib failing h) (touched_in own) pid pages l.command l.reply has)

-- ---- what touched pages decide

first_by_pages : (lib : Library) (e : Eager) (a b : ℕ → List PageOf) (pid serial : ℕ) (p : PageId) (c : Command) (r : Reply) → SamePages (a pid) (b pid) →
    is_first_touch lib (retouched a e) pid serial p c r ≡ is_first_touch lib (retouched b e) pid serial p c r
first_by_pages lib e a b pid serial p (commands.Touch at) replies.Fine same =
    ap (λ o. (serial_of o == serial) && (at.object == p.object) && is_among (pages_over at.offset at.len) p.page && not (has_page (a pid) serial p))
    (named_apart lib e a pid at.«module» ∙ sym (named_apart lib e b pid at.«module»))
    ∙ ap (λ had. (serial_named lib (retouched b e) pid at == serial) && (at.object == p.object) && is_among (pages_over at.offset at.len) p.page && not had) (same serial p)
first_by_pages lib e a b pid serial p c r same = refl

pub touched_decides : TouchedDecides
touched_decides lib failing contents pid h lines pages has =
    let own : Eager = own_state lib failing pid h lines in
    let e : Eager = state_after lib failing h in
    let is = own_state_is_the_historys lib failing pid h lines in
    record {
      refusals = λ c. ap (λ g. refusal_of lib g pid c) is ∙ (answered_by_pages lib contents e (touched_in own) (λ q. pages) pid c has).0;
      answers = λ c. ap (λ g. answer_of lib contents g pid c) is ∙ (answered_by_pages lib contents e (touched_in own) (λ q. pages) pid c has).1;
      uses = λ d. ap (λ g. uses_touched g pid d) is ∙ uses_by_pages e (touched_in own) (λ q. pages) pid d has;
      firsts = λ serial p c r. ap (λ g. is_first_touch lib g pid serial p c r) is ∙ first_by_pages lib e (touched_in own) (λ q. pages) pid serial p c r has;
    }

-- ---- faults before a touch

faults_in : (serial : ℕ) (p : PageId) (items : List Item) → list_any (is_fault_item serial p) items ≡ has_fault (entries_in items) serial p
unfolding has_fault
faults_in serial p [] = refl
faults_in serial p (entry x ∷ items) = ap (λ b. is_fault_of serial p x.deed || b) (faults_in serial p items)
faults_in serial p (line q l ∷ items) = faults_in serial p items

had_in : (lib : Library) (items : List Item) (at : Place) (o : Option Residence) → had_faults lib items at o ≡ are_fixed lib (entries_in items) at o
had_in lib items at None = refl
had_in lib items at (Some r) =
    λ i. list_all (λ n. is_own (class_of (object_at lib r.«module» (page at.object n).object)) || faults_in r.serial (page at.object n) items i) (pages_over at.offset at.len)

pub touch_follows_faults : TouchFollowsFaults
touch_follows_faults lib failing pid h lines at =
    let own : Eager = own_state lib failing pid h lines in
    had_in lib (own_items pid h lines) at (residence_named lib own pid at.«module»)
    ∙ (ap (λ xs. are_fixed lib xs at (residence_named lib own pid at.«module»)) (own_items_have_history pid h lines)
    ∙ ap (are_fixed lib h at)
    (ap (λ g. residence_named lib g pid at.«module») (own_state_is_the_historys lib failing pid h lines) ∙ named_apart lib (state_after lib failing h) (touched_in own) pid at.«module»))
