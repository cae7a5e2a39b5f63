-- A view after a free or an exit of its own.
use Rattle.std.proofs.Common.{◌≡◌, ℕ, ◌==◌, Bool, true, false, cond, if◌then◌else◌, not, ◌&&◌, ◌||◌, List, [], ◌∷◌, ◌++◌, map, filter, find, length, Option, Some, None, option_map, is_some, refl, sym, ◌∙◌, ap, subst}
use Rattle.std.specs.List.{AllByRecursion, list_all}
use Rattle.std.proofs.lemmas.Bool.{eqb-true, eq-eqb, not-true}
use Rattle.lx_types.specs.declared.object.Class.{Class}
use Rattle.lx_types.specs.declared.object.Class.TheVariants as classes
use Rattle.lx_types.specs.declared.object.PageId.{PageId}
use Rattle.load_model.specs.declared.deeds.Deed.{Deed}
use Rattle.load_model.specs.declared.deeds.Deed.TheVariants as deeds
use Rattle.load_model.specs.declared.deeds.Entry.{Entry}
use Rattle.load_model.specs.declared.deeds.Fresh.{Fresh}
use Rattle.load_model.specs.Modules.{Library, Held}
use Rattle.load_model.specs.State.{PageOf, OwnWrite, Residence, Process, Failing, Eager, pids, is_among, reaches, is_reached, residence_of, serial_of, attached_residence}
use Rattle.load_model.specs.Leaving.{freeing, exiting, left, left_serials, keeping, after_leaving}
use Rattle.load_model.specs.Memory.{is_page, page, pages_over, writes_of_class, bases_seen}
use Rattle.load_model.specs.Asks.{after_deed}
use Rattle.load_model.specs.Histories.{state_after, Follows, Legal}
use Rattle.load_model.specs.ProcessCounts.{ProcessCounts, AreCountsOf}
use Rattle.load_model.specs.Views.{Mapped, Holding, mapped_pages, fresh_of, IsMapped, is_covered, WasFixed, StandsFor}
use Rattle.load_model.specs.TouchedPages.{has_page, pages_kept}
use Rattle.load_model.specs.ViewLeaving.{GivesUpTo, mapped_kept, KeptAreReached, KeptAreTouched, StandsLeft}
use Rattle.load_model.proofs.Bools.{and_left, and_right, or_true}
use Rattle.load_model.proofs.Among.{any_filter, any_same}
use Rattle.load_model.proofs.Orders.{OrdersNest, one_reaches}
use Rattle.load_model.proofs.Growing.{one_more_is_after}
use Rattle.load_model.proofs.Kept.{Kept, others, process_at}
use Rattle.load_model.proofs.KeptLeaving.{GivesUp, freeing_gives_up, exiting_gives_up, left_among, left_reached, reaches_keeping}
use Rattle.load_model.proofs.Residents.{legal_kept}
use Rattle.load_model.proofs.Stays.{left_stays, resident_reached}
use Rattle.load_model.proofs.SerialsOwn.{serials_are_own}
use Rattle.load_model.proofs.Bytes.{attached_is}
use Rattle.load_model.proofs.BasesStay.{bases_seen_stay}
use Rattle.load_model.proofs.ViewReplies.{residence_is, attached_is_resident}
use Rattle.load_model.proofs.ViewLoads.{page_same, stay_is}
use Rattle.load_model.proofs.Views.{fixed_more}

-- ---- lists

filter_twice : {X : Type 0} (of : X → ℕ) (g : ℕ → Bool) (m : ℕ) → g m ≡ true → (xs : List X) → filter (λ x. of x == m) (filter (λ x. g (of x)) xs) ≡ filter (λ x. of x == m) xs
filter_twice of g m h [] = refl
filter_twice {X} of g m h (x ∷ xs) = step (of x == m) refl (g (of x)) refl (filter_twice of g m h xs)
  where
    rest : List X
    rest = filter (λ y. of y == m) xs

    kept : List X
    kept = filter (λ y. g (of y)) xs

    inner : (b c : Bool) → (of x == m) ≡ b → filter (λ y. of y == m) kept ≡ rest → (b ≡ true → c ≡ true) → filter (λ y. of y == m) (cond c (x ∷ kept) kept) ≡ cond b (x ∷ rest) rest
    inner b true e later h = ap (λ z. cond z (x ∷ filter (λ y. of y == m) kept) (filter (λ y. of y == m) kept)) e ∙ ap (λ z. cond b (x ∷ z) z) later
    inner true false e later h = (let wrong : false ≡ true = h refl in cc)
    inner false false e later h = later

    step : (b : Bool) → (of x == m) ≡ b → (c : Bool) → g (of x) ≡ c → filter (λ y. of y == m) kept ≡ rest → filter (λ y. of y == m) (cond c (x ∷ kept) kept) ≡ cond b (x ∷ rest) rest
    step b e c f later = inner b c e later (λ t. sym f ∙ ap g (eqb-true (of x) m (e ∙ t)) ∙ h)

pub all_filter : {X : Type 0} (P Q : X → Type 0) (f : X → Bool) → ((x : X) → f x ≡ true → P x → Q x) → (xs : List X) → AllByRecursion P xs → AllByRecursion Q (filter f xs)
all_filter P Q f each [] all = tt
all_filter P Q f each (x ∷ xs) all = step (f x) refl (all_filter P Q f each xs all.1)
  where
    step : (b : Bool) → f x ≡ b → AllByRecursion Q (filter f xs) → AllByRecursion Q (cond b (x ∷ filter f xs) (filter f xs))
    step true is later = (each x is all.0, later)
    step false is later = later

abbrev pages_of : List Mapped → List PageOf
pages_of ps = map (λ (p : Mapped). p.of) ps

abbrev mapped_by : (ℕ → Bool) → List Mapped → List Mapped
mapped_by g ps = filter (λ (p : Mapped). g p.of.serial) ps

abbrev pages_by : (ℕ → Bool) → List PageOf → List PageOf
pages_by g ts = filter (λ (t : PageOf). g t.serial) ts

map_filter : (g : ℕ → Bool) (ps : List Mapped) → pages_of (mapped_by g ps) ≡ pages_by g (pages_of ps)
map_filter g [] = refl
map_filter g (p ∷ ps) = step (g p.of.serial) (map_filter g ps)
  where
    step : (b : Bool) → pages_of (mapped_by g ps) ≡ pages_by g (pages_of ps) →
        pages_of (cond b (p ∷ mapped_by g ps) (mapped_by g ps)) ≡ cond b (p.of ∷ pages_by g (pages_of ps)) (pages_by g (pages_of ps))
    step true later = ap (λ ts. p.of ∷ ts) later
    step false later = later

page_filter : (g : ℕ → Bool) (serial : ℕ) (q : PageId) (ts : List PageOf) → g serial ≡ true → has_page (filter (λ (t : PageOf). g t.serial) ts) serial q ≡ has_page ts serial q
page_filter g serial q ts h =
    any_filter (λ (t : PageOf). (t.serial == serial) && is_page t.page q) (λ (t : PageOf). g t.serial) ts
    ∙ any_same (λ (t : PageOf). g t.serial && ((t.serial == serial) && is_page t.page q)) (λ (t : PageOf). (t.serial == serial) && is_page t.page q)
    (λ t. step (t.serial == serial) (is_page t.page q) (g t.serial) (λ same. ap g (eqb-true t.serial serial same) ∙ h)) ts
  where
    step : (b c d : Bool) → (b ≡ true → d ≡ true) → d && (b && c) ≡ b && c
    step true c d is = ap (λ z. z && c) (is refl)
    step false c true is = refl
    step false c false is = refl

all_same : (f g : ℕ → Bool) → ((n : ℕ) → f n ≡ g n) → (ns : List ℕ) → list_all f ns ≡ list_all g ns
all_same f g same [] = refl
all_same f g same (n ∷ ns) = ap (λ b. b && list_all f ns) (same n) ∙ ap (λ b. g n && b) (all_same f g same ns)

among_map : (f : ℕ → ℕ) (xs : List ℕ) (k : ℕ) → is_among xs k ≡ true → is_among (map f xs) (f k) ≡ true
among_map f [] k h = cc
among_map f (x ∷ xs) k h = step (x == k) refl (among_map f xs k) h
  where
    step : (b : Bool) → (x == k) ≡ b → (is_among xs k ≡ true → is_among (map f xs) (f k) ≡ true) → b || is_among xs k ≡ true → (f x == f k) || is_among (map f xs) (f k) ≡ true
    step true is later h = ap (λ b. b || is_among (map f xs) (f k)) (eq-eqb (f x) (f k) (ap f (eqb-true x k is)))
    step false is later h = or_more (f x == f k) (later h)
      where
        or_more : (a : Bool) {b : Bool} → b ≡ true → a || b ≡ true
        or_more true h = refl
        or_more false h = h

-- ---- what the process still reaches

leaving_process : (lib : Library) (e : Eager) (pid : ℕ) (p : Process) → (after_leaving lib e pid p).processes pid ≡ keeping lib e p
unfolding after_leaving
leaving_process lib e pid p = process_at e pid (keeping lib e p)

reaches_after : (lib : Library) (e : Eager) (pid : ℕ) (p : Process) (k : ℕ) → reaches lib ((after_leaving lib e pid p).processes pid) k ≡ reaches lib p k
reaches_after lib e pid p k = ap (λ (s : Process). reaches lib s k) (leaving_process lib e pid p) ∙ reaches_keeping lib e p k

-- a residence that is not left is of a module that is still reached
pub still_reached : (lib : Library) (e : Eager) (pid : ℕ) (p : Process) (k : ℕ) (r : Residence) → Kept lib e → GivesUp lib (e.processes pid) p → attached_residence lib e pid k ≡ Some r →
    not (is_among (left_serials lib e p) r.serial) ≡ true → reaches lib p k ≡ true
still_reached lib e pid p k r kept gives is residences = step (reaches lib p k) refl
  where
    wrong : (b : Bool) → b ≡ true → not b ≡ true → ⊥
    wrong true a b = cc
    wrong false a b = cc

    step : (b : Bool) → reaches lib p k ≡ b → reaches lib p k ≡ true
    step true is = is
    step false unreached =
        let there : is_among (left lib p) k ≡ true =
        left_among lib e pid p k kept gives ∙ ap (λ b. b && not (reaches lib p k)) (attached_is lib e pid k r is).0 ∙ ap not unreached
        in
        let at : is_among (left_serials lib e p) r.serial ≡ true =
        ap (λ o. is_among (left_serials lib e p) (serial_of o)) (sym (residence_is lib e pid k r is)) ∙ among_map (λ m. serial_of (residence_of e m)) (left lib p) k there
        in
        absurd (wrong _ at residences)

reached_after : (lib : Library) (e : Eager) (pid : ℕ) (p : Process) (k : ℕ) → is_among pids pid ≡ true → reaches lib p k ≡ true → is_reached lib (after_leaving lib e pid p) k ≡ true
reached_after lib e pid p k there reached = left_reached lib e pid p k there ∙ ap (λ b. b || others lib e pid k) reached

pub residence_after : (lib : Library) (e : Eager) (pid : ℕ) (p : Process) (k : ℕ) (r : Residence) → is_among pids pid ≡ true → Kept lib e → GivesUp lib (e.processes pid) p →
    attached_residence lib e pid k ≡ Some r → reaches lib p k ≡ true → attached_residence lib (after_leaving lib e pid p) pid k ≡ Some r
residence_after lib e pid p k r there kept gives is reached =
    attached_is_resident lib (after_leaving lib e pid p) pid k (reaches_after lib e pid p k ∙ reached)
    ∙ left_stays lib e pid p k there kept gives (reached_after lib e pid p k there reached) ∙ residence_is lib e pid k r is

residence_before : (lib : Library) (e : Eager) (pid : ℕ) (p : Process) (k : ℕ) (r : Residence) → is_among pids pid ≡ true → Kept lib e → GivesUp lib (e.processes pid) p →
    attached_residence lib (after_leaving lib e pid p) pid k ≡ Some r → attached_residence lib e pid k ≡ Some r
residence_before lib e pid p k r there kept gives is =
    let reached : reaches lib p k ≡ true = sym (reaches_after lib e pid p k) ∙ (attached_is lib (after_leaving lib e pid p) pid k r is).0 in
    attached_is_resident lib e pid k (gives.reaches k reached)
    ∙ sym (left_stays lib e pid p k there kept gives (reached_after lib e pid p k there reached)) ∙ residence_is lib (after_leaving lib e pid p) pid k r is

-- ---- what it wrote, and its pages

abbrev is_kept : Library → Eager → Process → ℕ → Bool
is_kept lib e p serial = not (is_among (left_serials lib e p) serial)

keeping_writes : (lib : Library) (e : Eager) (p : Process) → (keeping lib e p).writes ≡ filter (λ (w : OwnWrite). is_kept lib e p w.serial) p.writes
unfolding keeping
keeping_writes lib e p = refl

pub writes_after : (lib : Library) (e : Eager) (pid : ℕ) (p : Process) → p.writes ≡ (e.processes pid).writes →
    ((after_leaving lib e pid p).processes pid).writes ≡ filter (λ (w : OwnWrite). is_kept lib e p w.serial) (e.processes pid).writes
writes_after lib e pid p same =
    ap (λ (s : Process). s.writes) (leaving_process lib e pid p) ∙ keeping_writes lib e p ∙ ap (filter (λ (w : OwnWrite). is_kept lib e p w.serial)) same

class_kept : (g : ℕ → Bool) (c : Class) (p q : Process) (r : Residence) → p.writes ≡ filter (λ (w : OwnWrite). g w.serial) q.writes → g r.serial ≡ true → writes_of_class c p r ≡ writes_of_class c q r
class_kept g classes.Code p q r same h =
    ap (λ (ws : List OwnWrite). map (λ (w : OwnWrite). w.write) (filter (λ (w : OwnWrite). w.serial == r.serial) ws)) same
    ∙ ap (map (λ (w : OwnWrite). w.write)) (filter_twice (λ (w : OwnWrite). w.serial) g r.serial h q.writes)
class_kept g classes.Private p q r same h =
    ap (λ (ws : List OwnWrite). map (λ (w : OwnWrite). w.write) (filter (λ (w : OwnWrite). w.serial == r.serial) ws)) same
    ∙ ap (map (λ (w : OwnWrite). w.write)) (filter_twice (λ (w : OwnWrite). w.serial) g r.serial h q.writes)
class_kept g classes.Shared p q r same h = refl

covered_kept : (g : ℕ → Bool) (ps : List Mapped) (w : OwnWrite) → g w.serial ≡ true → is_covered (map (λ (p : Mapped). p.of) ps) w ≡ true →
    is_covered (map (λ (p : Mapped). p.of) (filter (λ (p : Mapped). g p.of.serial) ps)) w ≡ true
covered_kept g ps w h covered =
    ap (λ ts. is_covered ts w) (map_filter g ps)
    ∙ all_same (λ n. has_page (filter (λ (t : PageOf). g t.serial) (map (λ (p : Mapped). p.of) ps)) w.serial (page w.write.object n))
    (λ n. has_page (map (λ (p : Mapped). p.of) ps) w.serial (page w.write.object n))
    (λ n. page_filter g w.serial (page w.write.object n) (map (λ (p : Mapped). p.of) ps) h) (pages_over w.write.offset (length w.write.bytes))
    ∙ covered

-- ---- the entry

beyond : OrdersNest → (lib : Library) (failing : Failing) (contents : Held) (v : Holding) (h : List Entry) (x : Entry) (p : Process) (counts : ProcessCounts) (residences : List Fresh) →
    Legal lib failing contents h → Follows lib failing contents h x → is_among pids v.pid ≡ true → GivesUp lib ((state_after lib failing h).processes v.pid) p →
    p.writes ≡ ((state_after lib failing h).processes v.pid).writes → (keeping lib (state_after lib failing h) p).ended ≡ p.ended →
    state_after lib failing (h ++ x ∷ []) ≡ after_leaving lib (state_after lib failing h) v.pid p →
    AreCountsOf lib ((state_after lib failing (h ++ x ∷ [])).processes v.pid) counts →
    ((k : ℕ) → find (λ s. s.«module» == k) residences ≡ option_map fresh_of (attached_residence lib (state_after lib failing (h ++ x ∷ [])) v.pid k)) →
    StandsFor lib failing contents v h →
    StandsFor lib failing contents
    (record v { ended = p.ended; counts = counts; residences = residences; mapped = mapped_kept lib (state_after lib failing h) p v.mapped; front = length (h ++ x ∷ []) })
    (h ++ x ∷ [])
beyond nest lib failing contents v h x p counts residences legal follows there gives wrote ended_is after_is rows now stands =
    let e : Eager = state_after lib failing h in
    let k : List Entry = h ++ x ∷ [] in
    let kept : Kept lib e = legal_kept lib failing contents h legal in
    let on : (n : ℕ) (r : Residence) → attached_residence lib e v.pid n ≡ Some r → is_kept lib e p r.serial ≡ true → attached_residence lib (state_after lib failing k) v.pid n ≡ Some r =
    λ n r at residences.
    ap (λ f. attached_residence lib f v.pid n) after_is
    ∙ residence_after lib e v.pid p n r there kept gives at (still_reached lib e v.pid p n r kept gives at residences)
    in
    let writes : ((state_after lib failing k).processes v.pid).writes ≡ filter (λ (w : OwnWrite). is_kept lib e p w.serial) (e.processes v.pid).writes =
    ap (λ (f : Eager). (f.processes v.pid).writes) after_is ∙ writes_after lib e v.pid p wrote
    in
    let bases : (n : ℕ) (r : Residence) → attached_residence lib e v.pid n ≡ Some r → is_kept lib e p r.serial ≡ true → bases_seen lib (state_after lib failing k) n ≡ bases_seen lib e n =
    λ n r at residences.
    ap (λ f. bases_seen lib f n) (one_more_is_after lib failing h x)
    ∙ bases_seen_stay nest lib failing contents h x n legal follows (ap is_some (residence_is lib e v.pid n r at))
    (ap (λ (f : Eager). is_some (residence_of f n)) (sym (one_more_is_after lib failing h x)) ∙ ap is_some (residence_is lib (state_after lib failing k) v.pid n r (on n r at residences)))
    in
    record {
      front = refl;
      view = record {
        ended = sym (ap (λ (f : Eager). (f.processes v.pid).ended) after_is ∙ ap (λ (s : Process). s.ended) (leaving_process lib e v.pid p) ∙ ended_is);
        counts = rows;
        residences = now;
        mapped = all_filter (IsMapped lib contents e v.pid) (IsMapped lib contents (state_after lib failing k) v.pid) (λ (q : Mapped). is_kept lib e p q.of.serial)
            (λ q residences it.
            (let same : is_kept lib e p it.residence.serial ≡ true = ap (is_kept lib e p) (sym it.serial) ∙ residences in
            page_same lib contents e (state_after lib failing k) v.pid q it
            (λ c. class_kept (is_kept lib e p) c ((state_after lib failing k).processes v.pid) (e.processes v.pid) it.residence writes same)
            (on it.residence.«module» it.residence it.there same) (bases it.residence.«module» it.residence it.there same)))
            v.mapped stands.view.mapped;
        writes = subst (AllByRecursion (λ w. is_covered (map (λ (q : Mapped). q.of) (mapped_kept lib e p v.mapped)) w ≡ true)) (sym writes)
            (all_filter (λ w. is_covered (mapped_pages v) w ≡ true) (λ w. is_covered (map (λ (q : Mapped). q.of) (mapped_kept lib e p v.mapped)) w ≡ true)
            (λ (w : OwnWrite). is_kept lib e p w.serial) (λ w residences covered. covered_kept (is_kept lib e p) v.mapped w residences covered)
            (e.processes v.pid).writes stands.view.writes);
      };
      faults = all_filter (WasFixed lib v k) (WasFixed lib (record v { ended = p.ended; counts = counts; residences = residences; mapped = mapped_kept lib e p v.mapped; front = length k }) k)
          (λ (q : Mapped). is_kept lib e p q.of.serial)
          (λ q keeps fixed m s at same own.
          (let found : (r : Residence) × (attached_residence lib (state_after lib failing k) v.pid m ≡ Some r) × (fresh_of r ≡ s) = stay_is _ s (sym (now m) ∙ at) in
          fixed m s
          (stands.view.residences m
          ∙ ap (option_map fresh_of) (residence_before lib e v.pid p m found.0 there kept gives (sym (ap (λ f. attached_residence lib f v.pid m) after_is) ∙ found.1)) ∙ ap Some found.2)
          same own))
          v.mapped (fixed_more lib v h x v.mapped stands.faults);
    }

keeping_ended : (lib : Library) (e : Eager) (p : Process) → (keeping lib e p).ended ≡ p.ended
unfolding keeping
keeping_ended lib e p = refl

pub given_up : (lib : Library) (e : Eager) (pid : ℕ) (d : Deed) (p : Process) → GivesUpTo d (e.processes pid) p →
    GivesUp lib (e.processes pid) p × (p.writes ≡ (e.processes pid).writes) × (after_deed lib e pid d ≡ after_leaving lib e pid p)
unfolding after_deed
given_up lib e pid (deeds.Free m calls gone) p is = (
  subst (GivesUp lib (e.processes pid)) (sym is) (freeing_gives_up lib m (e.processes pid)),
  ap (λ (s : Process). s.writes) is,
  ap (after_leaving lib e pid) (sym is),
)
given_up lib e pid (deeds.Exit calls gone) p is = (
  subst (GivesUp lib (e.processes pid)) (sym is) (exiting_gives_up lib (e.processes pid)),
  ap (λ (s : Process). s.writes) is,
  ap (after_leaving lib e pid) (sym is),
)
given_up lib e pid d p is = absurd is

pub stands_left : OrdersNest → StandsLeft
stands_left nest lib failing contents v h x p counts residences legal follows own is rows now stands =
    let e : Eager = state_after lib failing h in
    let gives : GivesUp lib (e.processes v.pid) p × (p.writes ≡ (e.processes v.pid).writes) × (after_deed lib e v.pid x.deed ≡ after_leaving lib e v.pid p) =
    given_up lib e v.pid x.deed p is
    in
    beyond nest lib failing contents v h x p counts residences legal follows (ap (is_among pids) (sym own) ∙ follows.process) gives.0 gives.1 (keeping_ended lib e p)
    (one_more_is_after lib failing h x ∙ ap (λ q. after_deed lib e q x.deed) own ∙ gives.2) rows now stands

-- ---- which pages are kept

among_mapped : (f : ℕ → ℕ) (xs : List ℕ) (n : ℕ) → is_among (map f xs) n ≡ true → (k : ℕ) × (is_among xs k ≡ true) × (f k ≡ n)
among_mapped f [] n h = cc
among_mapped f (x ∷ xs) n h = step (f x == n) refl h (among_mapped f xs n)
  where
    step : (b : Bool) → (f x == n) ≡ b → b || is_among (map f xs) n ≡ true → (is_among (map f xs) n ≡ true → (k : ℕ) × (is_among xs k ≡ true) × (f k ≡ n)) →
        (k : ℕ) × (is_among (x ∷ xs) k ≡ true) × (f k ≡ n)
    step true is h later = (x, ap (λ b. b || is_among xs x) (eq-eqb x x refl), eqb-true (f x) n is)
    step false is h later = (let found : (k : ℕ) × (is_among xs k ≡ true) × (f k ≡ n) = later h in (found.0, ap (λ b. (x == found.0) || b) found.1 ∙ or_true (x == found.0), found.2))

some_of : (o : Option Residence) → is_some o ≡ true → (r : Residence) × (o ≡ Some r)
some_of None h = cc
some_of (Some r) h = (r, refl)

-- what has the serial number of a residence that is left is that residence
left_unreached : (lib : Library) (failing : Failing) (contents : Held) (h : List Entry) (pid : ℕ) (p : Process) (k : ℕ) (r : Residence) → Legal lib failing contents h →
    is_among pids pid ≡ true → GivesUp lib ((state_after lib failing h).processes pid) p → attached_residence lib (state_after lib failing h) pid k ≡ Some r →
    is_among (left_serials lib (state_after lib failing h) p) r.serial ≡ true → reaches lib p k ≡ false
left_unreached lib failing contents h pid p k r legal there gives at among =
    let e : Eager = state_after lib failing h in
    let kept : Kept lib e = legal_kept lib failing contents h legal in
    let found : (j : ℕ) × (is_among (left lib p) j ≡ true) × (serial_of (residence_of e j) ≡ r.serial) = among_mapped (λ m. serial_of (residence_of e m)) (left lib p) r.serial among in
    let both : reaches lib (e.processes pid) found.0 && not (reaches lib p found.0) ≡ true = sym (left_among lib e pid p found.0 kept gives) ∙ found.1 in
    let other : (s : Residence) × (residence_of e found.0 ≡ Some s) =
    some_of (residence_of e found.0) (resident_reached lib e found.0 kept ∙ one_reaches lib e pid found.0 there (and_left _ _ both))
    in
    let one : r ≡ other.0 =
    serials_are_own lib failing contents h k found.0 r other.0 legal (residence_is lib e pid k r at) other.1 (sym found.2 ∙ ap serial_of other.1)
    in
    let is_other : other.0.«module» ≡ found.0 = (attached_is lib e pid found.0 other.0 (attached_is_resident lib e pid found.0 (and_left _ _ both) ∙ other.1)).1 in
    let same : k ≡ found.0 = sym (attached_is lib e pid k r at).1 ∙ ap (λ (s : Residence). s.«module») one ∙ is_other in
    ap (reaches lib p) same ∙ not-true (reaches lib p found.0) (and_right _ _ both)

pub kept_are_reached : KeptAreReached
kept_are_reached lib failing contents h x p q legal follows gives it = step (is_among (left_serials lib e p) q.of.serial) refl
  where
    e : Eager
    e = state_after lib failing h

    gives_up : GivesUp lib (e.processes x.pid) p
    gives_up = (given_up lib e x.pid x.deed p gives).0

    step : (b : Bool) → is_among (left_serials lib e p) q.of.serial ≡ b → not b ≡ reaches lib p it.residence.«module»
    step true is = sym (left_unreached lib failing contents h x.pid p it.residence.«module» it.residence legal follows.process gives_up it.there (ap (is_among (left_serials lib e p)) (sym it.serial) ∙ is))
    step false is =
        sym
        (still_reached lib e x.pid p it.residence.«module» it.residence (legal_kept lib failing contents h legal) gives_up it.there
        (ap (λ n. not (is_among (left_serials lib e p) n)) (sym it.serial) ∙ ap not is))

-- ---- and what is touched

pages_kept_are : (lib : Library) (e : Eager) (q : ℕ) (p after : Process) (ps : List Mapped) → after ≡ p →
    pages_of (mapped_kept lib e after ps) ≡ (if q == q then pages_kept lib e p (pages_of ps) else pages_of ps)
pages_kept_are lib e q p after ps is =
    ap (λ s. pages_of (mapped_kept lib e s ps)) is ∙ map_filter (is_kept lib e p) ps ∙ sym (ap (λ b. if b then pages_kept lib e p (pages_of ps) else pages_of ps) (eq-eqb q q refl))

pub kept_are_touched : KeptAreTouched
kept_are_touched lib v e (deeds.Free m calls gone) after is = pages_kept_are lib e v.pid (freeing m (e.processes v.pid)) after v.mapped is
kept_are_touched lib v e (deeds.Exit calls gone) after is = pages_kept_are lib e v.pid (exiting (e.processes v.pid)) after v.mapped is
kept_are_touched lib v e d after is = absurd is
