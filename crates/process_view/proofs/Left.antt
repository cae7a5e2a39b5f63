-- A view after a free or an exit.
use Rattle.std.proofs.Common.{◌≡◌, ℕ, zero, suc, ◌<◌, ◌==◌, ◌&&◌, ◌||◌, Bool, true, false, cond, not, List, [], ◌∷◌, map, filter, length, Option, Some, None, option_map, get_or, refl, sym, ap, subst, ◌∙◌, arith, slice_index}
use Rattle.process_view.proofs.Words.{after_leaving, All, All-contains_itself, All-from_get_or, all_kept, AllByRecursion, AreCountsOf, ArePagesOf, AreShown}
use Rattle.process_view.proofs.Words.{asked_by, at_front, attached_is_resident, attached_residence, BasesSeenStay, BoardState, bytes_read, Command, deed_of}
use Rattle.process_view.proofs.Words.{Did, done, Eager, entry_of, Everything, filter_whole, find, fixed_bytes, Fresh, fresh_of, fresh_shown, get_or_default}
use Rattle.process_view.proofs.Words.{HeldIsCounted, Holding, is_among, is_done, is_some, IsMapped, IsPlaced, IsPlan, IsTold, keeping, kept_residences}
use Rattle.process_view.proofs.Words.{Leaving, left_serials, legal_kept, Library, list_any, Mapped, nat_lt, nowhere, number_of, One, one_more_is_after}
use Rattle.process_view.proofs.Words.{or_true, order_of, OrderHasEachOnce, OrderIsInLibrary, pages_with, Parts, Process, ProcessCounts, ProcessView}
use Rattle.process_view.proofs.Words.{reached_is_resident, ReachedResidence, reaches, recursion_from_All, Residence, residence_in, residence_is, residence_of}
use Rattle.process_view.proofs.Words.{residence_shown, ResidenceFor, residences_in, ResidenceStays, same_number, serials_are_own, StandsAt, state_of}
use Rattle.process_view.proofs.Words.{view_free_refusal, view_refusal, with_process}
use Rattle.mod_refs.specs.Changes.{given_up}
use Rattle.load_model.specs.ViewLeaving.{GivesUpTo, mapped_kept, KeptAreReached, KeptAreTouched, StandsLeft}
use Rattle.load_model.proofs.KeptLeaving.{GivesUp, freeing_gives_up, exiting_gives_up, reaches_keeping}
use Rattle.load_model.proofs.ViewLeaving.{given_up as state_given_up, residence_after, all_filter}
use Rattle.process_view.specs.Leaves.{CanLeave, view_left}
use Rattle.process_view.proofs.Did.{IsAsked, with_asked}
use Rattle.process_view.proofs.Entered.{resident_by, found, unreached_is}
use Rattle.process_view.proofs.Shown.{self, attached, shown_on}
use Rattle.std.proofs.Math.Bool.{and-true}
use Rattle.process_view.specs.declared.plans.Plan.TheVariants as plans

-- ---- the entry

-- the process that gave this up
abbrev given : BoardState → ProcessView → Leaving → Process
given b v what = given_up what ((state_of b).processes v.holding.pid)

gives : (b : BoardState) (pid : ℕ) (what : Leaving) → GivesUpTo (entry_of b pid (asked_by what)).deed ((state_of b).processes pid) (given_up what ((state_of b).processes pid))
unfolding deed_of
gives b pid (One m) = refl
gives b pid Everything = refl

gives_up : (lib : Library) (what : Leaving) (p : Process) → GivesUp lib p (given_up what p)
gives_up lib (One m) p = freeing_gives_up lib m p
gives_up lib Everything p = exiting_gives_up lib p

told_left : (b : BoardState) (pid n : ℕ) (what : Leaving) → IsTold n (entry_of b pid (asked_by what)).deed (done n)
unfolding deed_of
told_left b pid n (One m) = is_done tt
told_left b pid n Everything = is_done tt

pub read_left : (b : BoardState) (pid : ℕ) (what : Leaving) → [] ≡ bytes_read (entry_of b pid (asked_by what)).deed
unfolding deed_of
read_left b pid (One m) = refl
read_left b pid Everything = refl

leaving_process : (lib : Library) (e : Eager) (pid : ℕ) (p : Process) → (after_leaving lib e pid p).processes pid ≡ keeping lib e p
unfolding after_leaving with_process
leaving_process lib e pid p = ap (λ c. cond c (keeping lib e p) (e.processes pid)) (self pid)

state_left : (b : BoardState) (v : ProcessView) (what : Leaving) → state_of (with_asked b v (asked_by what)) ≡ after_leaving b.library (state_of b) v.holding.pid (given b v what)
state_left b v what =
    let x = entry_of b v.holding.pid (asked_by what) in
    one_more_is_after b.library b.failing b.history x ∙ (state_given_up b.library (state_of b) v.holding.pid x.deed (given b v what) (gives b v.holding.pid what)).2

process_left : (b : BoardState) (v : ProcessView) (what : Leaving) → (state_of (with_asked b v (asked_by what))).processes v.holding.pid ≡ keeping b.library (state_of b) (given b v what)
process_left b v what = ap (λ (e : Eager). e.processes v.holding.pid) (state_left b v what) ∙ leaving_process b.library (state_of b) v.holding.pid (given b v what)

-- ---- the residences that are kept

-- those of modules that the process still reaches
abbrev pub stays_kept : Library → Process → List ResidenceFor → List ResidenceFor
stays_kept lib after rs = filter (λ (r : ResidenceFor). reaches lib after r.«module») rs

found_kept : (g : ℕ → Bool) (k : ℕ) (rs : List ResidenceFor) →
    find (λ (s : Fresh). s.«module» == k) (map fresh_shown (filter (λ (r : ResidenceFor). g r.«module») rs)) ≡ cond (g k) (find (λ (s : Fresh). s.«module» == k) (map fresh_shown rs)) None
found_kept g k [] = none (g k)
  where
    none : (b : Bool) → ◌≡◌ {A = Option Fresh} None (cond b None None)
    none true = refl
    none false = refl
found_kept g k (r ∷ rs) = by_tests (g r.«module») (r.«module» == k) refl refl (found_kept g k rs)
  where
    at : Fresh → Bool
    at s = s.«module» == k

    kept : List ResidenceFor
    kept = filter (λ (q : ResidenceFor). g q.«module») rs

    by_tests : (b c : Bool) → g r.«module» ≡ b → (r.«module» == k) ≡ c → find at (map fresh_shown kept) ≡ cond (g k) (find at (map fresh_shown rs)) None →
        find at (map fresh_shown (cond (g r.«module») (r ∷ kept) kept)) ≡ cond (g k) (cond (r.«module» == k) (Some (fresh_shown r)) (find at (map fresh_shown rs))) None
    by_tests true true is same later = let passes : g k ≡ true = ap g (sym (same_number r.«module» k same)) ∙ is in rw (is, same, passes) refl
    by_tests true false is same later = rw (is, same) later
    by_tests false true is same later = let fails : g k ≡ false = ap g (sym (same_number r.«module» k same)) ∙ is in rw (is, same, fails) (rw fails at later)
    by_tests false false is same later = rw (is, same) later

-- where all residences stay so do the pages
pub all_stay : (lib : Library) (pages : List Mapped) (passes : ℕ → Bool) (n : ℕ) (residences after : List ReachedResidence) → All (IsPlaced lib pages) residences → ArePagesOf (residences_in residences) pages → n ≡ length lib →
    after ≡ filter (λ (s : ReachedResidence). nat_lt (residence_in s).«module» n && passes (residence_in s).«module») residences → length after ≡ length residences →
    (after ≡ residences) × (residences_in residences ≡ filter (λ (r : ResidenceFor). passes r.«module») (residences_in residences))
    × (pages ≡ pages_with (filter (λ (r : ResidenceFor). passes r.«module») (residences_in residences)) pages)
all_stay lib pages passes n residences after placed are number kept long =
    let test : ℕ → ReachedResidence → Bool = λ l s. nat_lt (residence_in s).«module» l && passes (residence_in s).«module» in
    let same : filter (test n) residences ≡ residences = filter_whole (test n) residences (omega (arith, long, ap (λ (ss : List ReachedResidence). length ss) kept)) in
    let stay : residences_in residences ≡ filter (λ (r : ResidenceFor). passes r.«module») (residences_in residences) =
    ap residences_in (sym same) ∙ ap (λ (l : ℕ). residences_in (filter (test l) residences)) number
    ∙ kept_residences lib pages passes residences (recursion_from_All (IsPlaced lib pages) residences placed)
    in
    (kept ∙ same, stay, sym (all_kept (residences_in residences) pages are) ∙ ap (λ (rs : List ResidenceFor). pages_with rs pages) stay)

-- ---- after it

attached_after : (b : BoardState) (v : ProcessView) (command : Command) (what : Leaving) (k : ℕ) (r : Residence) → IsAsked b v command (asked_by what) → attached_residence b.library (state_of b) v.holding.pid k ≡ Some r →
    reaches b.library (given b v what) k ≡ true → attached_residence b.library (state_of (with_asked b v (asked_by what))) v.holding.pid k ≡ Some r
attached_after b v command what k r asked is reached =
    ap (λ (e : Eager). attached_residence b.library e v.holding.pid k) (state_left b v what)
    ∙ residence_after b.library (state_of b) v.holding.pid (given b v what) k r asked.process (legal_kept b.library b.failing (fixed_bytes b.library) b.history asked.legal)
    (gives_up b.library what ((state_of b).processes v.holding.pid)) is reached

stays_after : (b : BoardState) (v : ProcessView) (command : Command) (what : Leaving) (k : ℕ) → IsAsked b v command (asked_by what) →
    find (λ (s : Fresh). s.«module» == k) (map fresh_shown (stays_kept b.library (given b v what) v.residences))
    ≡ option_map fresh_of (attached_residence b.library (state_of (with_asked b v (asked_by what))) v.holding.pid k)
stays_after b v command what k asked = by_reach (g k) refl
  where
    lib : Library
    lib = b.library

    pid : ℕ
    pid = v.holding.pid

    after : Eager
    after = state_of (with_asked b v (asked_by what))

    at : Fresh → Bool
    at s = s.«module» == k

    g : ℕ → Bool
    g n = reaches lib (given b v what) n

    old : find at (map fresh_shown v.residences) ≡ option_map fresh_of (attached_residence lib (state_of b) pid k)
    old = ap (find at) (sym asked.stands.residences) ∙ asked.stands.stands.view.residences k

    by_reach : (c : Bool) → g k ≡ c → find at (map fresh_shown (filter (λ (r : ResidenceFor). g r.«module») v.residences)) ≡ option_map fresh_of (attached_residence lib after pid k)
    by_reach true h =
        let before : reaches lib ((state_of b).processes pid) k ≡ true = (gives_up lib what ((state_of b).processes pid)).reaches k h in
        let resident = found (residence_of (state_of b) k) (resident_by lib (state_of b) pid k (reached_is_resident lib b.failing (fixed_bytes lib) b.history asked.legal k) asked.process before) in
        let there : attached_residence lib (state_of b) pid k ≡ Some resident.0 = attached_is_resident lib (state_of b) pid k before ∙ resident.1 in
        found_kept g k v.residences ∙ ap (λ c. cond c (find at (map fresh_shown v.residences)) None) h ∙ old ∙ ap (option_map fresh_of) there ∙ sym (ap (option_map fresh_of) (attached_after b v command what k resident.0 asked there h))
    by_reach false h =
        found_kept g k v.residences ∙ ap (λ c. cond c (find at (map fresh_shown v.residences)) None) h
        ∙ sym
        (ap (option_map fresh_of)
        (unreached_is lib after pid k (ap (λ (p : Process). reaches lib p k) (process_left b v what) ∙ reaches_keeping lib (state_of b) (given b v what) k ∙ h)))

shown_kept : ResidenceStays → BasesSeenStay → (b : BoardState) (v : ProcessView) (command : Command) (what : Leaving) → IsAsked b v command (asked_by what) →
    AreShown b.library (state_of (with_asked b v (asked_by what))) (stays_kept b.library (given b v what) v.residences)
shown_kept still bases b v command what asked =
    let lib = b.library in
    let at = asked.stands in
    let x = entry_of b v.holding.pid (asked_by what) in
    let after = state_of (with_asked b v (asked_by what)) in
    let Q : ResidenceFor → Type 0 = λ r. r ≡ residence_shown lib after r.keeper r.«module» in
    let P : ResidenceFor → Type 0 = λ r. reaches lib (given b v what) r.«module» ≡ true → r ≡ residence_shown lib after r.keeper r.«module» in
    all_filter P Q (λ (r : ResidenceFor). reaches lib (given b v what) r.«module») (λ r reached is. is reached) v.residences
    (recursion_from_All P v.residences
    (All-from_get_or P v.residences nowhere
    (λ i u reached.
    let r = get_or v.residences i nowhere in
    let here : r ≡ get_or v.residences i r = get_or_default v.residences i nowhere r u in
    let own = attached b v i r at u here in
    shown_on still bases b v x i r asked.legal asked.follows at u here (ap (λ (o : Option Residence). is_some o) (residence_is lib after v.holding.pid r.«module» own.0 (attached_after b v command what r.«module» own.0 asked own.1.there reached))))))

-- ---- the pages that are kept

-- those of residences that are kept
abbrev pub pages_of_kept : List ResidenceFor → List Mapped → List Mapped
pages_of_kept rs ps = filter (λ (p : Mapped). list_any (λ (r : ResidenceFor). r.serial == p.of.serial) rs) ps

any_filter : {X : Type 0} (test p : X → Bool) (b : Bool) (xs : List X) → AllByRecursion (λ x. test x ≡ true → p x ≡ b) xs → list_any test (filter p xs) ≡ b && list_any test xs
any_filter test p true [] all = refl
any_filter test p false [] all = refl
any_filter test p b (x ∷ xs) all = by_tests (p x) (test x) refl refl (any_filter test p b xs all.1)
  where
    by_tests : (c d : Bool) → p x ≡ c → test x ≡ d → list_any test (filter p xs) ≡ b && list_any test xs → list_any test (cond (p x) (x ∷ filter p xs) (filter p xs)) ≡ b && (test x || list_any test xs)
    by_tests true true e f later = let is : b ≡ true = sym (all.0 f) ∙ e in rw (e, f, is) refl
    by_tests true false e f later = rw (e, f) later
    by_tests false true e f later = let is : b ≡ false = sym (all.0 f) ∙ e in rw (e, f, is) (rw is at later)
    by_tests false false e f later = rw (e, f) later

any_found : (k : ℕ) (s : Fresh) (rs : List ResidenceFor) → find (λ (t : Fresh). t.«module» == k) (map fresh_shown rs) ≡ Some s → list_any (λ (r : ResidenceFor). r.serial == s.serial) rs ≡ true
any_found k s [] e = absurd cc
any_found k s (r ∷ rs) e = by_test (r.«module» == k) refl (any_found k s rs)
  where
    by_test : (b : Bool) → (r.«module» == k) ≡ b → (find (λ (t : Fresh). t.«module» == k) (map fresh_shown rs) ≡ Some s → list_any (λ (q : ResidenceFor). q.serial == s.serial) rs ≡ true) →
        ((r.serial == s.serial) || list_any (λ (q : ResidenceFor). q.serial == s.serial) rs) ≡ true
    by_test true is later =
        let some : Some (fresh_shown r) ≡ Some s = rw is at e in
        let same : fresh_shown r ≡ s = cc in
        ap (λ (t : Fresh). (r.serial == t.serial) || list_any (λ (q : ResidenceFor). q.serial == t.serial) rs) (sym same) ∙ ap (λ c. c || list_any (λ (q : ResidenceFor). q.serial == r.serial) rs) (self r.serial)
    by_test false is later = ap (λ c. (r.serial == s.serial) || c) (later (rw is at e)) ∙ or_true (r.serial == s.serial)

-- a page lies in one of them exactly where the process still reaches its residence's module
page_kept : (b : BoardState) (v : ProcessView) (command : Command) (what : Leaving) (p : Mapped) → IsAsked b v command (asked_by what) → (it : IsMapped b.library (fixed_bytes b.library) (state_of b) v.holding.pid p) →
    list_any (λ (r : ResidenceFor). r.serial == p.of.serial) (stays_kept b.library (given b v what) v.residences) ≡ reaches b.library (given b v what) it.residence.«module»
page_kept b v command what p asked it =
    let lib = b.library in
    let pid = v.holding.pid in
    let at = asked.stands in
    let k = it.residence.«module» in
    let g : ℕ → Bool = λ n. reaches lib (given b v what) n in
    let test : ResidenceFor → Bool = λ r. r.serial == p.of.serial in
    let P : ResidenceFor → Type 0 = λ r. test r ≡ true → g r.«module» ≡ g k in
    let there : find (λ (t : Fresh). t.«module» == k) (map fresh_shown v.residences) ≡ Some (fresh_of it.residence) =
    ap (find (λ (t : Fresh). t.«module» == k)) (sym at.residences) ∙ at.stands.view.residences k ∙ ap (option_map fresh_of) it.there
    in
    any_filter test (λ r. g r.«module») (g k) v.residences
    (recursion_from_All P v.residences
    (All-from_get_or P v.residences nowhere
    (λ i u is.
    let r = get_or v.residences i nowhere in
    let own = attached b v i r at u (get_or_default v.residences i nowhere r u) in
    let same : own.0 ≡ it.residence =
    serials_are_own lib b.failing (fixed_bytes lib) b.history r.«module» k own.0 it.residence asked.legal (residence_is lib (state_of b) pid r.«module» own.0 own.1.there) (residence_is lib (state_of b) pid k it.residence it.there)
    (own.1.serial ∙ same_number r.serial p.of.serial is ∙ it.serial)
    in
    ap g (sym own.1.«module» ∙ ap (λ (z : Residence). z.«module») same))))
    ∙ ap (λ c. g k && c) (ap (λ (n : ℕ). list_any (λ (r : ResidenceFor). r.serial == n) v.residences) it.serial ∙ any_found k (fresh_of it.residence) v.residences there) ∙ and-true (g k)

pages_are : (b : BoardState) (v : ProcessView) (command : Command) (what : Leaving) → KeptAreReached → IsAsked b v command (asked_by what) → (ps : List Mapped) →
    AllByRecursion (IsMapped b.library (fixed_bytes b.library) (state_of b) v.holding.pid) ps →
    pages_of_kept (stays_kept b.library (given b v what) v.residences) ps ≡ mapped_kept b.library (state_of b) (given b v what) ps
pages_are b v command what kept asked [] all = refl
pages_are b v command what kept asked (p ∷ ps) all =
    let rs = stays_kept b.library (given b v what) v.residences in
    let one : list_any (λ (r : ResidenceFor). r.serial == p.of.serial) rs ≡ not (is_among (left_serials b.library (state_of b) (given b v what)) p.of.serial) =
    page_kept b v command what p asked all.0
    ∙ sym (kept b.library b.failing (fixed_bytes b.library) b.history (entry_of b v.holding.pid (asked_by what)) (given b v what) p asked.legal asked.follows (gives b v.holding.pid what) all.0)
    in
    ap (λ c. cond c (p ∷ pages_of_kept rs ps) (pages_of_kept rs ps)) one
    ∙ ap (λ xs. cond (not (is_among (left_serials b.library (state_of b) (given b v what)) p.of.serial)) (p ∷ xs) xs) (pages_are b v command what kept asked ps all.1)

-- the pages that a view keeps are those of the residences that it keeps
pages_left : (b : BoardState) (v : ProcessView) (command : Command) (what : Leaving) → KeptAreReached → IsAsked b v command (asked_by what) →
    pages_of_kept (stays_kept b.library (given b v what) v.residences) v.holding.mapped ≡ mapped_kept b.library (state_of b) (given b v what) v.holding.mapped
pages_left b v command what kept asked = pages_are b v command what kept asked v.holding.mapped asked.stands.stands.view.mapped

-- ---- the view

-- the view with these residences and these pages
abbrev kept_view : BoardState → ProcessView → Leaving → ProcessCounts → List ResidenceFor → List Mapped → ℕ → ℕ → ℕ → ProcessView
kept_view b v what counts rs pages n room more = record {
  library = v.library;
  holding = record v.holding { ended = (given b v what).ended; counts = counts; residences = map fresh_shown rs; mapped = pages; front = n };
  residences = rs;
  page_room = room;
  residence_room = more;
}

none_stays : (lib : Library) (p : Process) (rs : List ResidenceFor) → stays_kept lib (given_up Everything p) rs ≡ []
unfolding reaches
none_stays lib p [] = refl
none_stays lib p (r ∷ rs) = none_stays lib p rs

no_pages : (ps : List Mapped) → pages_of_kept [] ps ≡ []
no_pages [] = refl
no_pages (p ∷ ps) = no_pages ps

left_is : (b : BoardState) (v : ProcessView) (what : Leaving) (counts : ProcessCounts) (n room more : ℕ) → StandsAt b v →
    at_front n (view_left v what ((state_of b).processes v.holding.pid) counts room more)
    ≡ kept_view b v what counts (stays_kept b.library (given b v what) v.residences) (pages_of_kept (stays_kept b.library (given b v what) v.residences) v.holding.mapped) n room more
left_is b v (One m) counts n room more at = rw (at.library, at.stands.view.ended) refl
left_is b v Everything counts n room more at = rw (none_stays b.library ((state_of b).processes v.holding.pid) v.residences, no_pages v.holding.mapped) refl

pub did_left : StandsLeft → KeptAreReached → KeptAreTouched → ResidenceStays → BasesSeenStay → (b : BoardState) (v : ProcessView) (command : Command) (what : Leaving) (counts : ProcessCounts) (room more : ℕ) → IsAsked b v command (asked_by what) →
    AreCountsOf b.library (keeping b.library (state_of b) (given b v what)) counts →
    Did b (with_asked b v (asked_by what)) v (at_front (length (with_asked b v (asked_by what)).history) (view_left v what ((state_of b).processes v.holding.pid) counts room more)) command
    (done (length (with_asked b v (asked_by what)).history))
did_left left kept touched still bases b v command what counts room more is rows =
    let x = entry_of b v.holding.pid (asked_by what) in
    let after = given b v what in
    let n = length (with_asked b v (asked_by what)).history in
    let rs = stays_kept b.library after v.residences in
    let D : ProcessView → Type 0 = λ w. Did b (with_asked b v (asked_by what)) v w command (done n) in
    subst D (sym (left_is b v what counts n room more is.stands ∙ ap (λ (ms : List Mapped). kept_view b v what counts rs ms n room more) (pages_left b v command what kept is)))
    (record {
      ask = asked_by what;
      asked = is.asked;
      adds = refl;
      follows = is.follows;
      told = told_left b v.holding.pid n what;
      stands = record {
        library = is.stands.library;
        residences = refl;
        stands =
            left b.library b.failing (fixed_bytes b.library) v.holding b.history x after counts (map fresh_shown rs) is.legal is.follows refl (gives b v.holding.pid what) (rw (process_left b v what) rows)
            (λ k. stays_after b v command what k is) is.stands.stands;
        shown = shown_kept still bases b v command what is;
      };
      library = refl;
      pid = refl;
      mapped = touched b.library v.holding (state_of b) x.deed after (gives b v.holding.pid what);
    })

-- ---- what is held

pub held_by : (v : Holding) (a : Bool) (n : ℕ) → view_free_refusal (record v { ended = a; counts = record v.counts { loads = n ∷ [] } }) (Some 0) ≡ None → 0 < n
held_by v true zero e = absurd cc
held_by v false zero e = absurd cc
held_by v a (suc n) e = omega arith

pub held_free : (v : Holding) (o : Option ℕ) (m : ℕ) → view_free_refusal v o ≡ None → o ≡ Some m → 0 < slice_index v.counts.loads m
held_free v o m e is = held_by v v.ended (slice_index v.counts.loads m) (ap (view_free_refusal v) (sym is) ∙ e)

-- what a plan gives up is held
pub can_leave : OrderIsInLibrary → OrderHasEachOnce → HeldIsCounted → (b : BoardState) (v : ProcessView) (command : Command) (what : Leaving) → StandsAt b v → IsPlan v command (plans.Leave what) → CanLeave v what
unfolding view_refusal order_of
can_leave within once counted b v command (One m) at plan =
    let lib = v.library in
    let p = (state_of b).processes v.holding.pid in
    let none = rw plan.means.1 at plan.accepted in
    let held = held_free v.holding (number_of lib plan.means.0) m none plan.means.2.0 in
    let R : List Parts → Type 0 = λ l. AreCountsOf l p v.holding.counts in (
      plan.means.2.1,
      held,
      counted lib p v.holding.counts m (rw (at.library) at.stands.view.counts) held
          (λ k d u. within lib m (get_or (order_of lib m) k d) plan.means.2.1 (All-contains_itself (order_of lib m) k d u)),
      once lib m,
    )
can_leave within once counted b v command Everything at plan = tt
