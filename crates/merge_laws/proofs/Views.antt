-- What a view refuses and replies is what its process has to account for.
use Rattle.std.proofs.Common.{◌≡◌, ℕ, ◌==◌, ◌&&◌, ◌||◌, Bool, true, false, not, if◌then◌else◌, List, [], ◌∷◌, ◌++◌, length, map, Option, Some, None, option_map, refl, sym, ◌∙◌, ap, subst, eqb-true, eq-eqb}
use Rattle.std.specs.List.{AllByRecursion, list_all}
use Rattle.std.proofs.lemmas.List.Folds.{list_any-append}
use Rattle.lx_types.specs.declared.object.PageId.{PageId}
use Rattle.lx_types.specs.Object.{class_of}
use Rattle.load_model.specs.declared.commands.Place.{Place}
use Rattle.load_model.specs.declared.commands.Command.TheVariants as commands
use Rattle.load_model.specs.declared.commands.Refusal.TheVariants.{Ended}
use Rattle.load_model.specs.declared.commands.Reply.TheVariants as replies
use Rattle.load_model.specs.declared.deeds.Fresh.{Fresh}
use Rattle.load_model.specs.declared.deeds.Entry.{Entry}
use Rattle.load_model.specs.Modules.{Library, Held, object_at}
use Rattle.load_model.specs.State.{PageOf, Residence, Failing, Eager, is_among, serial_of}
use Rattle.load_model.specs.Memory.{is_page, page, pages_over}
use Rattle.load_model.specs.Refusals.{when, ◌orelse◌, touch, residence_refusal, residence_named, place_refusal, refusal_of}
use Rattle.load_model.specs.Asks.{is_own}
use Rattle.load_model.specs.Step.{steady, fine_answer, answer_of, serial_named}
use Rattle.load_model.specs.Histories.{state_after, has_fault}
use Rattle.load_model.specs.Accepted.{retouched}
use Rattle.load_model.specs.Touched.{SamePages}
use Rattle.load_model.specs.TouchedPages.{has_page, touched_after}
use Rattle.load_model.specs.Laws.{unwritten_of}
use Rattle.load_model.specs.Views.{Mapped, Holding, fresh_of, mapped_pages, WasFixed, StandsFor, reached_of}
use Rattle.load_model.specs.ViewAnswers.{seen_process, view_refusal, reached_named}
use Rattle.load_model.specs.ViewLaws.{RefusedByView, AnsweredByView}
use Rattle.load_model.specs.WrittenPages.{over_page, written_over}
use Rattle.load_model.proofs.Answers.{answer_by, answer_is}
use Rattle.load_model.proofs.Bools.{and_left, and_right}
use Rattle.load_model.proofs.Views.{named_by_view}
use Rattle.load_model.proofs.Touched.{named_apart}
use Rattle.load_model.proofs.ViewLeaving.{kept_are_touched}
use Rattle.load_model.proofs.ViewSteps.{each_more}
use Rattle.load_model.proofs.ViewReplies.{attached_named_is}
use Rattle.session_model.specs.MergeLaws.{touched_in}
use Rattle.merge_laws.specs.Accounts.{own_state}
use Rattle.merge_laws.specs.OwnStates.{HasTouched, is_fixed, are_fixed}
use Rattle.merge_laws.specs.PageStates.{pages_at, state_with}
use Rattle.merge_laws.specs.ViewAccounts.{ViewRefuses, ViewReplies, TouchAccepted, TouchFixed, FaultForTouch, TouchMapped, WrittenMapped, LeftMapped}
use Rattle.merge_laws.specs.PageStates.{serial_seen, has_pages}
use Rattle.merge_laws.proofs.OwnStates.{own_state_is_the_historys, touched_after_entry, touched_after_line, touched_decides, touch_follows_faults}

-- ---- refusals and replies

pub view_refuses : RefusedByView → ViewRefuses
view_refuses refused lib failing contents v h lines c refusal stands has is =
    let same = touched_decides lib failing contents v.pid h lines (mapped_pages v) has in
    answer_is lib contents _ v.pid c ∙ ap (answer_by (fine_answer lib contents _ v.pid c)) (same.refusals c ∙ (refused lib failing contents v h c stands ∙ is))

pub view_replies : AnsweredByView → ViewReplies
view_replies answered lib failing contents v h lines c reply legal stands has none is =
    (touched_decides lib failing contents v.pid h lines (mapped_pages v) has).answers c ∙ answered lib failing contents v h c reply legal stands none is

-- ---- a touch

-- what is touched decides no refusal of a touch
touch_refused_alike : (lib : Library) (e : Eager) (a b : ℕ → List PageOf) (pid : ℕ) (at : Place) →
    refusal_of lib (retouched a e) pid (commands.Touch at) ≡ refusal_of lib (retouched b e) pid (commands.Touch at)
unfolding refusal_of place_refusal
touch_refused_alike lib e a b pid at =
    ap (λ r. when (e.processes pid).ended Ended orelse residence_refusal lib (record (e.processes pid) { touched = a pid }) touch at r)
    (named_apart lib e a pid at.«module» ∙ sym (named_apart lib e b pid at.«module»))
    ∙ ap (λ r. when (e.processes pid).ended Ended orelse r) (alike (residence_named lib (retouched b e) pid at.«module»))
  where
    alike : (r : Option Residence) → residence_refusal lib (record (e.processes pid) { touched = a pid }) touch at r ≡ residence_refusal lib (record (e.processes pid) { touched = b pid }) touch at r
    alike None = refl
    alike (Some r) = refl

touch_is_fine : (lib : Library) (contents : Held) (e : Eager) (pid : ℕ) (at : Place) → refusal_of lib e pid (commands.Touch at) ≡ None →
    answer_of lib contents e pid (commands.Touch at) ≡ steady replies.Fine
unfolding fine_answer
touch_is_fine lib contents e pid at none = answer_is lib contents e pid (commands.Touch at) ∙ ap (answer_by (steady replies.Fine)) none

pub touch_accepted : RefusedByView → TouchAccepted
touch_accepted refused lib failing contents v h lines at stands none =
    let own : Eager = own_state lib failing v.pid h lines in
    touch_is_fine lib contents own v.pid at
    (ap (λ g. refusal_of lib g v.pid (commands.Touch at)) (own_state_is_the_historys lib failing v.pid h lines)
    ∙ (touch_refused_alike lib (state_after lib failing h) (touched_in own) (λ q. mapped_pages v) v.pid at
    ∙ (refused lib failing contents v h (commands.Touch at) stands ∙ none)))

-- ---- the faults before it

same_page : (a b : PageId) → is_page a b ≡ true → a ≡ b
same_page a b is = λ i. record {
  object = eqb-true a.object b.object (and_left (a.object == b.object) (a.page == b.page) is) i;
  page = eqb-true a.page b.page (and_right (a.object == b.object) (a.page == b.page) is) i;
}

-- a mapped page that is no private one had its fault
had_fault_by : (lib : Library) (v : Holding) (h : List Entry) (m : ℕ) (s : Fresh) (q : PageId) (ps : List Mapped) → reached_of v m ≡ Some s →
    is_own (class_of (object_at lib m q.object)) ≡ false →
    AllByRecursion (WasFixed lib v h) ps → has_page (map (λ p. p.of) ps) s.serial q ≡ true → has_fault h s.serial q ≡ true
had_fault_by lib v h m s q [] at apart all has = cc
had_fault_by lib v h m s q (p ∷ ps) at apart all has = step ((p.of.serial == s.serial) && is_page p.of.page q) refl has (λ rest. had_fault_by lib v h m s q ps at apart all.1 rest)
  where
    step : (b : Bool) → (p.of.serial == s.serial) && is_page p.of.page q ≡ b → b || has_page (map (λ p. p.of) ps) s.serial q ≡ true →
        (has_page (map (λ p. p.of) ps) s.serial q ≡ true → has_fault h s.serial q ≡ true) → has_fault h s.serial q ≡ true
    step true is has later =
        let serial : p.of.serial ≡ s.serial = eqb-true p.of.serial s.serial (and_left (p.of.serial == s.serial) (is_page p.of.page q) is) in
        let there : p.of.page ≡ q = same_page p.of.page q (and_right (p.of.serial == s.serial) (is_page p.of.page q) is) in
        subst (λ (x : PageId). has_fault h s.serial x ≡ true) there
        (subst (λ (n : ℕ). has_fault h n p.of.page ≡ true) serial (all.0 m s at (sym serial) (subst (λ (x : PageId). is_own (class_of (object_at lib m x.object)) ≡ false) (sym there) apart)))
    step false is has later = later has

pub stay_serial : (o : Option Residence) → serial_of (unwritten_of o) ≡ serial_of o
stay_serial None = refl
stay_serial (Some r) = refl

serial_by_view : (lib : Library) (failing : Failing) (contents : Held) (v : Holding) (h : List Entry) (at : Place) → StandsFor lib failing contents v h →
    serial_named lib (state_after lib failing h) v.pid at ≡ serial_seen lib v at
serial_by_view lib failing contents v h at stands =
    sym (stay_serial (residence_named lib (state_after lib failing h) v.pid at.«module»)) ∙ ap serial_of (named_by_view lib contents v (state_after lib failing h) at.«module» stands.view)

refused_unattached : (lib : Library) (v : Holding) (at : Place) → reached_named lib v at.«module» ≡ None → view_refusal lib v (commands.Touch at) ≡ None → ⊥
unfolding view_refusal
refused_unattached lib v at away none = step v.ended (ap (λ r. when v.ended Ended orelse residence_refusal lib (seen_process v) touch at r) (sym away) ∙ none)
  where
    step : (b : Bool) → (when b Ended orelse residence_refusal lib (seen_process v) touch at None) ≡ None → ⊥
    step true is = cc
    step false is = cc

fixed_by : (lib : Library) (failing : Failing) (contents : Held) (v : Holding) (h : List Entry) (at : Place) (o : Option Residence) →
    residence_named lib (state_after lib failing h) v.pid at.«module» ≡ o → StandsFor lib failing contents v h → view_refusal lib v (commands.Touch at) ≡ None →
    has_pages (mapped_pages v) (serial_of o) at ≡ true → are_fixed lib h at o ≡ true
fixed_by lib failing contents v h at None is stands none has =
    absurd (refused_unattached lib v at (sym (named_by_view lib contents v (state_after lib failing h) at.«module» stands.view) ∙ ap unwritten_of is) none)
fixed_by lib failing contents v h at (Some r) is stands none has =
    each_more (λ n. has_page (mapped_pages v) r.serial (page at.object n)) (λ n. is_fixed lib h r.serial r.«module» (page at.object n))
    (λ n there. one n there (is_own (class_of (object_at lib r.«module» at.object))) refl) (pages_over at.offset at.len) has
  where
    stay : reached_of v r.«module» ≡ Some (fresh_of r)
    stay = stands.view.residences r.«module» ∙ ap (option_map fresh_of) (attached_named_is lib (state_after lib failing h) v.pid at.«module» r is)

    one : (n : ℕ) → has_page (mapped_pages v) r.serial (page at.object n) ≡ true → (b : Bool) → is_own (class_of (object_at lib r.«module» at.object)) ≡ b →
        is_fixed lib h r.serial r.«module» (page at.object n) ≡ true
    one n there true own = ap (λ b. b || has_fault h r.serial (page at.object n)) own
    one n there false own =
        ap (λ b. b || has_fault h r.serial (page at.object n)) own ∙ had_fault_by lib v h r.«module» (fresh_of r) (page at.object n) v.mapped stay own stands.faults there

pub touch_fixed : TouchFixed
touch_fixed lib failing contents v h lines at stands none has =
    touch_follows_faults lib failing v.pid h lines at
    ∙ fixed_by lib failing contents v h at (residence_named lib (state_after lib failing h) v.pid at.«module») refl stands none
    (subst (λ n. has_pages (mapped_pages v) n at ≡ true) (sym (serial_by_view lib failing contents v h at stands)) has)

-- ---- its own faults

all_four : (a b c d : Bool) → a ≡ true → b ≡ true → c ≡ true → d ≡ false → a && b && c && not d ≡ true
all_four a b c d ea eb ec ed = ap (λ x. x && b && c && not d) ea ∙ (ap (λ x. x && c && not d) eb ∙ (ap (λ x. x && not d) ec ∙ ap not ed))

pub fault_for_touch : FaultForTouch
fault_for_touch lib failing contents v h lines pages at m p stands has same among fresh =
    let serial : ℕ = serial_seen lib v at in
    let named : serial_named lib (state_with lib failing h pages) v.pid at ≡ serial =
    ap serial_of (named_apart lib (state_after lib failing h) (λ q. pages) v.pid at.«module») ∙ serial_by_view lib failing contents v h at stands
    in
    (touched_decides lib failing contents v.pid h lines pages has).firsts serial p (commands.Touch at) replies.Fine
    ∙ all_four (serial_named lib (state_with lib failing h pages) v.pid at == serial) (at.object == p.object) (is_among (pages_over at.offset at.len) p.page) (has_page pages serial p)
    (eq-eqb (serial_named lib (state_with lib failing h pages) v.pid at) serial named) (eq-eqb at.object p.object same) among fresh

-- ---- what is mapped after it

-- pages that are all among others have none that those have not
among_others : (a b : List PageOf) → AllByRecursion (λ (t : PageOf). has_page b t.serial t.page ≡ true) a → (serial : ℕ) (q : PageId) → has_page a serial q ≡ true →
    has_page b serial q ≡ true
among_others [] b all serial q has = cc
among_others (t ∷ a) b all serial q has = step ((t.serial == serial) && is_page t.page q) refl has (λ rest. among_others a b all.1 serial q rest)
  where
    step : (c : Bool) → (t.serial == serial) && is_page t.page q ≡ c → c || has_page a serial q ≡ true → (has_page a serial q ≡ true → has_page b serial q ≡ true) →
        has_page b serial q ≡ true
    step true is has later =
        subst (λ (x : PageId). has_page b serial x ≡ true) (same_page t.page q (and_right (t.serial == serial) (is_page t.page q) is))
        (subst (λ (n : ℕ). has_page b n t.page ≡ true) (eqb-true t.serial serial (and_left (t.serial == serial) (is_page t.page q) is)) all.0)
    step false is has later = later has

each_there : (b : List PageOf) (serial object : ℕ) (ns : List ℕ) → list_all (λ n. has_page b serial (page object n)) ns ≡ true →
    AllByRecursion (λ (t : PageOf). has_page b t.serial t.page ≡ true) (map (λ n. record { serial = serial; page = page object n }) ns)
each_there b serial object [] all = tt
each_there b serial object (n ∷ ns) all =
    let rest : Bool = list_all (λ k. has_page b serial (page object k)) ns in (
      and_left (has_page b serial (page object n)) rest all,
      each_there b serial object ns (and_right (has_page b serial (page object n)) rest all),
    )

or_same : (x y z : Bool) → (y ≡ true → x || z ≡ true) → (z ≡ true → x || y ≡ true) → x || y ≡ x || z
or_same true y z there back = refl
or_same false true z there back = sym (there refl)
or_same false false true there back = back refl
or_same false false false there back = refl

joined_alike : (a b c : List PageOf) → ((serial : ℕ) (q : PageId) → has_page b serial q ≡ true → has_page (a ++ c) serial q ≡ true) →
    ((serial : ℕ) (q : PageId) → has_page c serial q ≡ true → has_page b serial q ≡ true) → SamePages (a ++ b) (a ++ c)
joined_alike a b c there back serial q =
    let test : PageOf → Bool = λ t. (t.serial == serial) && is_page t.page q in
    let first : has_page (a ++ b) serial q ≡ has_page a serial q || has_page b serial q = list_any-append test a b in
    let second : has_page (a ++ c) serial q ≡ has_page a serial q || has_page c serial q = list_any-append test a c in
    first
    ∙ (or_same (has_page a serial q) (has_page b serial q) (has_page c serial q) (λ is. sym second ∙ there serial q is)
    (λ is. ap (λ x. has_page a serial q || x) (back serial q is) ∙ or_true (has_page a serial q))
    ∙ sym second)
  where
    or_true : (x : Bool) → x || true ≡ true
    or_true true = refl
    or_true false = refl

pub touch_mapped : TouchMapped
touch_mapped lib failing contents v h lines pages more at stands has is among all serial q =
    let seen : ℕ = serial_seen lib v at in
    let own = touched_after_line lib failing v.pid h lines pages (record { front = length h; command = commands.Touch at; reply = replies.Fine }) refl has in
    own serial q
    ∙ (ap (λ n. has_page (pages ++ pages_at n at) serial q) (serial_by_view lib failing contents v h at stands)
    ∙ (joined_alike pages (pages_at seen at) more
    (among_others (pages_at seen at) (pages ++ more) (each_there (pages ++ more) seen at.object (pages_over at.offset at.len) (subst (λ l. has_pages l seen at ≡ true) is all)))
    (among_others more (pages_at seen at) among) serial q
    ∙ ap (λ l. has_page l serial q) (sym is)))

-- ---- a write of its own

pub written_mapped : WrittenMapped
written_mapped v serial w = each v.mapped
  where
    one : (p : Mapped) (b : Bool) (bytes : List ℕ) → (if b then record p { bytes = bytes } else p).of ≡ p.of
    one p true bytes = refl
    one p false bytes = refl

    each : (ps : List Mapped) → map (λ (p : Mapped). p.of) (map (written_over serial w) ps) ≡ map (λ p. p.of) ps
    each [] = refl
    each (p ∷ ps) = λ i. one p ((p.of.serial == serial) && (p.of.page.object == w.object)) (over_page w p.of.page p.bytes) i ∷ each ps i

-- ---- a free or an exit of its own

pub left_mapped : LeftMapped
left_mapped lib failing v h lines x after rise own gives has =
    let e : Eager = state_after lib failing h in
    subst (HasTouched lib failing v.pid (h ++ x ∷ []) lines)
    (ap (λ q. touched_after lib e q x.deed (λ r. mapped_pages v) v.pid) own ∙ sym (kept_are_touched lib v e x.deed after gives))
    (touched_after_entry lib failing v.pid h lines (mapped_pages v) x rise has)
