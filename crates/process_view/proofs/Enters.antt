-- What a start or a load comes to.
use Rattle.std.proofs.Common.{◌≡◌, ℕ, List, Option, Some, None, Result, Ok, Err, refl, sym, ap, ◌∙◌, ◌<◌, ◌≤◌, ◌||◌, Bool, true, false, not, ◌++◌, length, option_to_list, get_or, subst, arith, ◌==◌, [], ◌∷◌, map, Vec, Global, ◌-◌, slice_index}
use Rattle.process_view.proofs.Words.{Adds, All, All-map, AllPairs, AllPairs-filter, among_contains, and_left, AreApart, AreCountsOf, ArenaFull, Ask}
use Rattle.process_view.proofs.Words.{at_front, attaching, BasesSeenStay, BoardState, bytes_read, Call, CanCount, CanJoin, Command, Contains, Contains-get_or}
use Rattle.process_view.proofs.Words.{CountFull, CountsHaveRoom, Deed, Did, done, Eager, Ended, enter, enter_by, enter_command, enter_deed, entered, entry_of}
use Rattle.process_view.proofs.Words.{failing_module, fixed_bytes, Fresh, get_or-map, get_or_default, Gone, holding, How, InitFailed, is_among, is_library}
use Rattle.process_view.proofs.Words.{is_some, IsFree, IsLegal, IsLoaded, IsNewTo, IsPlan, IsToldOf, joined, length-map, Library, list_any, list_any_at}
use Rattle.process_view.proofs.Words.{modules_of, nat_le, nat_tests, NoRoom, NotLibrary, number_of, or_true, Order, order_of, OrderEndsWithItself}
use Rattle.process_view.proofs.Words.{OrderHasEachOnce, OrderIsInLibrary, Outcome, Parts, placing, Process, ProcessCounts, ProcessView, reaches, Refused}
use Rattle.process_view.proofs.Words.{Residence, residence_of, residence_shown, ResidenceFor, ResidenceStays, seen_process, serial_of, serials_are_own}
use Rattle.process_view.proofs.Words.{StandsAt, StandsEntered, StandsQuiet, Started, started_refusal, state_of, told, unfit, unreached, vec_len}
use Rattle.process_view.proofs.Words.{view_module_or_none, view_refusal, when, with_counts, with_residences}
use Rattle.load_core.specs.declared.answers.Loaded.{Loaded}
use Rattle.load_model.specs.Bounds.{CountsAreSmall}
use Rattle.load_model.specs.Fitness.{ReachedIsFit}
use Rattle.lx_types.specs.declared.limits.TheConstants.{MAX_LOADS}
use Rattle.mod_refs.proofs.LegalCounts.{own_order}
use Rattle.process_view.proofs.Lookups.{nothing}
use Rattle.process_view.proofs.Entered.{IsEntered, board_entered, modules_joined, news_of, legal_entered, new_resident, joined_is, new_stay_apart, new_page_unmapped, did_entered, entry_is, did_full, did_failed}
use Rattle.process_view.proofs.Shown.{self}
use Rattle.page_frames.specs.declared.residence.Residence.{Residence as FrameResidence}
use Rattle.process_view.proofs.Did.{IsAsked, with_asked, adds_by, IsAt, enter_asked, did_same}
use Rattle.load_model.specs.declared.deeds.Deed.TheVariants as deeds
use Rattle.load_core.specs.declared.answers.Loaded.TheVariants as loaded
use Rattle.load_model.specs.declared.deeds.How.TheVariants as ways
use Rattle.process_view.specs.declared.plans.Plan.TheVariants as plans

-- ---- what an answer of the board tells of the entry of a start or a load

-- an answer for each kind of entry
abbrev pub IsEntry : BoardState → BoardState → ℕ → How → ℕ → Loaded → Deed → Type 0
IsEntry b c pid how m (loaded.Done rs) d = (fresh : List Fresh) × (calls : List Call) × (d ≡ deeds.Enter how m fresh calls)
IsEntry b c pid how m (loaded.Full of object size) d = d ≡ deeds.Full how m of object size
IsEntry b c pid how m (loaded.Failed by) d = (fresh : List Fresh) × (calls : List Call) × (gone : List Gone) × (d ≡ deeds.Failed how m by fresh calls gone)

full_is : (b c : BoardState) (pid : ℕ) (how : How) (m : ℕ) (none : NoRoom) (l : Loaded) → IsToldOf (deeds.Full how m none.of none.object.object none.object.size) b c pid l → IsEntry b c pid how m l (deeds.Full how m none.of none.object.object none.object.size)
full_is b c pid how m none (loaded.Full of object size) t =
    ap (λ (n : ℕ). deeds.Full how m n none.object.object none.object.size) (sym t.0) ∙ ap (λ (n : ℕ). deeds.Full how m of n none.object.size) (sym t.1) ∙ ap (λ (n : ℕ). deeds.Full how m of object n) (sym t.2)
full_is b c pid how m none other t = absurd t

done_is : (b c : BoardState) (pid : ℕ) (how : How) (m : ℕ) (fresh : List Fresh) (calls : List Call) (l : Loaded) → IsToldOf (deeds.Enter how m fresh calls) b c pid l → IsEntry b c pid how m l (deeds.Enter how m fresh calls)
done_is b c pid how m fresh calls (loaded.Done rs) t = (fresh, calls, refl)
done_is b c pid how m fresh calls other t = absurd t

failed_is : (b c : BoardState) (pid : ℕ) (how : How) (m by : ℕ) (fresh : List Fresh) (calls : List Call) (gone : List Gone) (l : Loaded) → IsToldOf (deeds.Failed how m by fresh calls gone) b c pid l →
    IsEntry b c pid how m l (deeds.Failed how m by fresh calls gone)
failed_is b c pid how m by fresh calls gone (loaded.Failed other) t = (fresh, calls, gone, ap (λ (n : ℕ). deeds.Failed how m n fresh calls gone) (sym t))
failed_is b c pid how m by fresh calls gone other t = absurd t

entered_is : (b c : BoardState) (pid : ℕ) (how : How) (m : ℕ) (fresh : List Fresh) (l : Loaded) (o : Option ℕ) → IsToldOf (entered b.library (state_of b) pid how m fresh o) b c pid l →
    IsEntry b c pid how m l (entered b.library (state_of b) pid how m fresh o)
entered_is b c pid how m fresh l None t = done_is b c pid how m fresh _ l t
entered_is b c pid how m fresh l (Some by) t = failed_is b c pid how m by fresh _ _ l t

placed_is : (b c : BoardState) (pid : ℕ) (how : How) (m : ℕ) (l : Loaded) (r : Result (List Fresh) NoRoom) → IsToldOf (enter_by b.library (state_of b) pid how m r) b c pid l → IsEntry b c pid how m l (enter_by b.library (state_of b) pid how m r)
placed_is b c pid how m l (Err none) t = full_is b c pid how m none l t
placed_is b c pid how m l (Ok fresh) t = entered_is b c pid how m fresh l (failing_module b.library (state_of b) pid how m fresh) t

pub told_is : (b c : BoardState) (pid : ℕ) (how : How) (m : ℕ) (l : Loaded) → IsLoaded b c pid how m l → IsEntry b c pid how m l (enter_deed b.library (state_of b) pid how m)
unfolding enter_deed
told_is b c pid how m l t = placed_is b c pid how m l (placing b.library (state_of b) pid m) t

-- ---- a start or a load that a view counts

pub order_named : (lib : List Parts) (m : ℕ) (order : List ℕ) → order ≡ Order lib m → order ≡ order_of lib m
unfolding order_of
order_named lib m order e = e

pub order_within : OrderIsInLibrary → (lib : List Parts) (m n : ℕ) (order : List ℕ) → m < length lib → n ≡ length lib → order ≡ Order lib m → All (λ k. k < n) order
order_within law lib m n order within e is = λ k d inside.
    let C : List ℕ → Type 0 = λ xs. Contains xs (get_or order k d) in
    rw e (law lib m (get_or order k d) within (subst C is (Contains-get_or order k d inside)))

-- the counts after it, of the same process
pub row_counted : (v w : ProcessView) (m : ℕ) (p : Process) (counts : ProcessCounts) (how other : How) (order : List ℕ) → w ≡ v → other ≡ how → order ≡ order_of w.library m →
    AreCountsOf w.library (holding other m (attaching (unreached w.library p order) p)) counts → AreCountsOf v.library (holding how m (attaching (unreached v.library p (order_of v.library m)) p)) counts
row_counted v w m p counts how other order e f g is = rw (← e, ← f, ← g) is

-- ---- it can be counted

any_more : (f : ℕ → Bool) (o : Option ℕ) (xs : List ℕ) → list_any f xs ≡ true → list_any f (option_to_list o ++ xs) ≡ true
any_more f None xs e = e
any_more f (Some x) xs e = ap (λ c. f x || c) e ∙ or_true (f x)

load_reached : OrderEndsWithItself → (lib : List Parts) (p : Process) (i d : ℕ) → i < length p.loads → reaches lib p (get_or p.loads i d) ≡ true
unfolding reaches
load_reached ends lib p i d inside =
    let k = get_or p.loads i d in
    any_more (λ root. is_among (order_of lib root) k) p.started p.loads (list_any_at (λ root. is_among (order_of lib root) k) p.loads i d inside (own_order ends lib k))

none_started : (o : Option ℕ) → when (is_some o) Started ≡ None → o ≡ None
none_started None e = refl
none_started (Some x) e = absurd cc

fewer : (n : ℕ) → when (nat_le MAX_LOADS n) CountFull ≡ None → n < 65535
fewer n e = by_test (nat_le MAX_LOADS n) refl e
  where
    by_test : (b : Bool) → nat_le MAX_LOADS n ≡ b → when b CountFull ≡ None → n < 65535
    by_test true is none = absurd cc
    by_test false is none = grind (arith, nat_tests)

free_is : (v : ProcessView) (how : How) (name : List ℕ) (m : ℕ) → view_refusal v.library v.holding (enter_command how name) ≡ None → number_of v.library name ≡ Some m → IsFree how v.holding.counts m
unfolding view_refusal
free_is v ways.Start name m none number = none_started v.holding.counts.started (nothing _ _ (nothing _ _ none).1).0
free_is v ways.Load name m none number =
    let rest = nothing (started_refusal (seen_process v.holding) ways.Load) (view_module_or_none v.library v.holding ways.Load (number_of v.library name)) (nothing (when v.holding.ended Ended) _ none).1 in
    let all : view_module_or_none v.library v.holding ways.Load (Some m) ≡ None = ap (view_module_or_none v.library v.holding ways.Load) (sym number) ∙ rest.1 in
    let fit = nothing (unfit v.library m) (when (nat_le MAX_LOADS (slice_index v.holding.counts.loads m)) CountFull) (nothing (when (not (is_library v.library m)) NotLibrary) _ all).1 in
    fewer (slice_index v.holding.counts.loads m) fit.1

pub can_count : OrderEndsWithItself → CountsHaveRoom → CountsAreSmall → ReachedIsFit → (b : BoardState) (v : ProcessView) (command : Command) (how : How) (m : ℕ) → IsLegal b → StandsAt b v →
    IsPlan v command (plans.Enter how m) → length v.library ≤ 64 → CanCount how m v
can_count ends room small fit b v command how m legal at plan few =
    let pid = v.holding.pid in
    let p = (state_of b).processes pid in
    let counts = at.stands.view.counts in
    record {
      process = p;
      counts = rw (at.library) counts;
      within = plan.means.2.1;
      free = free_is v how plan.means.0 m (rw plan.means.1 at plan.accepted) plan.means.2.0;
      small =
          room b.library p v.holding.counts counts (rw (at.library) at few)
          (λ i d inside. (fit b.library b.failing (fixed_bytes b.library) b.history legal pid (get_or p.loads i d) (load_reached ends b.library p i d inside)).0)
          (λ i d inside.
          let below : i < length b.library = omega (arith, inside, counts.loads_are) in
          let is = get_or_default v.holding.counts.loads i d 0 inside in
          let held = counts.loads i below in
          let most = small b.library b.failing (fixed_bytes b.library) b.history pid i legal in
          omega (arith, is, held, most));
    }

-- ---- what the board answers to a start or a load that was done can join the view

pub joined_by : (lib : Library) (e : Eager) (pid m : ℕ) (xs : List ℕ) → xs ≡ unreached lib (e.processes pid) (order_of lib m) → xs ≡ joined lib e pid m
unfolding joined
joined_by lib e pid m xs e' = e'

among_at : (xs : List ℕ) (i d : ℕ) → i < length xs → is_among xs (get_or xs i d) ≡ true
among_at xs i d u = list_any_at (λ j. j == get_or xs i d) xs i d u (self (get_or xs i d))

-- residences of different modules have serial numbers of their own
serials_differ : (b : BoardState) (v : ProcessView) (is : IsEntered b v) (j k : ℕ) → is_among (modules_joined b v is) j ≡ true → is_among (modules_joined b v is) k ≡ true →
    serial_of (residence_of (state_of (board_entered b v is)) j) ≡ serial_of (residence_of (state_of (board_entered b v is)) k) → j ≡ k
serials_differ b v is j k at_j at_k same =
    let p = new_resident b v is j at_j in
    let q = new_resident b v is k at_k in
    let c = board_entered b v is in
    let one : p.residence ≡ q.residence =
    serials_are_own c.library c.failing (fixed_bytes c.library) c.history j k p.residence q.residence (legal_entered b v is) p.there q.there (sym (ap serial_of p.there) ∙ same ∙ ap serial_of q.there)
    in
    sym p.«module» ∙ ap (λ (z : Residence). z.«module») one ∙ q.«module»

joined_apart : OrderHasEachOnce → (lib : Library) (e : Eager) (pid m : ℕ) → AllPairs (λ a b. a ≡ b → ⊥) (joined lib e pid m)
unfolding joined order_of
joined_apart once lib e pid m = AllPairs-filter (λ a b. a ≡ b → ⊥) (λ k. not (reaches lib (e.processes pid) k)) (order_of lib m) (once lib m)

among_order : (lib : Library) (m k : ℕ) → is_among (order_of lib m) k ≡ true → Contains (Order lib m) k
unfolding order_of
among_order lib m k h = among_contains (Order lib m) k h

pub joining_is : (b : BoardState) (v w : ProcessView) (m : ℕ) (order joining : List ℕ) → w ≡ v → StandsAt b v → order ≡ order_of w.library m →
    ((lib : Library) (p : Process) → AreCountsOf lib p w.holding.counts → joining ≡ unreached lib p order) → joining ≡ joined b.library (state_of b) v.holding.pid m
joining_is b v w m order joining same at order_is law =
    let p = (state_of b).processes v.holding.pid in
    joined_by b.library (state_of b) v.holding.pid m joining
    (law b.library p (rw same at.stands.view.counts) ∙ ap (unreached b.library p) (order_is ∙ ap (λ (x : ProcessView). order_of x.library m) same ∙ ap (λ (l : Library). order_of l m) at.library))

pub joined_inside : OrderIsInLibrary → (b : BoardState) (v : ProcessView) (m : ℕ) (joining : List ℕ) → v.library ≡ b.library → m < length v.library → joining ≡ joined b.library (state_of b) v.holding.pid m → All (λ k. k < length v.library) joining
joined_inside inside b v m joining same within is = λ i d u.
    let lib = b.library in
    let J : List ℕ → Type 0 = λ xs. is_among xs (get_or joining i d) ≡ true in
    let there = subst J is (among_at joining i d u) in
    let both = sym (joined_is lib (state_of b) v.holding.pid m (get_or joining i d)) ∙ there in
    rw same
    (inside lib m (get_or joining i d) (rw same at within) (among_order lib m (get_or joining i d) (and_left (is_among (order_of lib m) (get_or joining i d)) (not (reaches lib ((state_of b).processes v.holding.pid) (get_or joining i d))) both)))

shown_apart : (b : BoardState) (v : ProcessView) (is : IsEntered b v) (js : List ℕ) → All (λ k. is_among (modules_joined b v is) k ≡ true) js → AllPairs (λ a c. a ≡ c → ⊥) js →
    AreApart (map (residence_shown b.library (state_of (board_entered b v is)) b.keeper) js)
shown_apart b v is js all apart i j d low high same =
    let shown = residence_shown b.library (state_of (board_entered b v is)) b.keeper in
    let long = length-map js shown in
    let high' : j < length js = omega (arith, high, long) in
    let low' : i < length js = omega (arith, low, high') in
    let one : (get_or (map shown js) i d).serial ≡ (shown (get_or js i 0)).serial = ap (λ (r : ResidenceFor). r.serial) (get_or-map shown js i 0 d low') in
    let two : (get_or (map shown js) j d).serial ≡ (shown (get_or js j 0)).serial = ap (λ (r : ResidenceFor). r.serial) (get_or-map shown js j 0 d high') in
    apart i j 0 low high' (serials_differ b v is (get_or js i 0) (get_or js j 0) (all i 0 low') (all j 0 high') (sym one ∙ same ∙ two))

-- the new residences can join the view, in room that is for as many
pub can_join : OrderIsInLibrary → OrderHasEachOnce → (b : BoardState) (v : ProcessView) (is : IsEntered b v) (room : ℕ) → is.m < length b.library → length (modules_joined b v is) ≤ room → CanJoin (record v { residence_room = room }) (news_of b v is)
can_join inside once b v is room within enough =
    let lib = b.library in
    let js = modules_joined b v is in
    let shown = residence_shown lib (state_of (board_entered b v is)) b.keeper in
    let below : (k : ℕ) → is_among js k ≡ true → k < length v.library =
    λ k new. rw is.asked.stands.library (inside lib is.m k within (among_order lib is.m k (and_left (is_among (order_of lib is.m) k) (not (reaches lib ((state_of b).processes v.holding.pid) k)) (sym (joined_is lib (state_of b) v.holding.pid is.m k) ∙ new))))
    in
    record {
      room = omega (arith, length-map js shown, enough);
      new =
          All-map (IsNewTo (record v { residence_room = room })) shown js
          (λ i d u.
          let new = among_at js i d u in
          record { within = below (get_or js i d) new; unmapped = λ p. new_page_unmapped b v is (get_or js i d) new p; apart = new_stay_apart b v is (get_or js i d) new });
      apart = shown_apart b v is js (λ i d u. among_at js i d u) (joined_apart once lib (state_of b) v.holding.pid is.m);
    }

pub modules_shown : (lib : Library) (e : Eager) (keeper : ℕ) (js : List ℕ) → modules_of (map (residence_shown lib e keeper) js) ≡ js
modules_shown lib e keeper [] = refl
modules_shown lib e keeper (j ∷ js) = ap (λ ks. j ∷ ks) (modules_shown lib e keeper js)

-- ---- what a start or a load comes to

-- room is no part of a deed
pub did_room : (b c : BoardState) (v w : ProcessView) (command : Command) (outcome : Outcome) (k : ℕ) → Did b c v w command outcome → Did b c v (record w { residence_room = k }) command outcome
did_room b c v w command outcome k it = record {
  ask = it.ask;
  asked = it.asked;
  adds = it.adds;
  follows = it.follows;
  told = it.told;
  stands = record { library = it.stands.library; residences = it.stands.residences; stands = it.stands.stands; shown = it.stands.shown };
  library = it.library;
  pid = it.pid;
  mapped = it.mapped;
}

-- What the board answered, where the view was given room before.
pub record IsAnswer (b c : BoardState) (v w : ProcessView) (command : Command) (how : How) (m pid : ℕ) (l : Loaded) : Type 0 where
  pub asked : IsAsked b v command (enter how m)
  pub pid_is : pid ≡ v.holding.pid
  pub adds : Adds b c pid (enter how m)
  pub answer : IsLoaded b c pid how m l
  pub room : w ≡ record v { residence_room = w.residence_room }

abbrev pub answered : (b c : BoardState) (v w : ProcessView) (command : Command) (how : How) (m pid : ℕ) (l : Loaded) → IsAt b v → IsPlan v command (plans.Enter how m) → pid ≡ v.holding.pid → Adds b c pid (enter how m) → IsLoaded b c pid how m l →
    w ≡ record v { residence_room = w.residence_room } → IsAnswer b c v w command how m pid l
answered b c v w command how m pid l here plan number adds answer room = record { asked = enter_asked b v command how m here plan; pid_is = number; adds = adds; answer = answer; room = room }

told_by : (b c : BoardState) (v w : ProcessView) (command : Command) (how : How) (m pid : ℕ) (l k : Loaded) → IsAnswer b c v w command how m pid l → l ≡ k → IsLoaded b c v.holding.pid how m k
told_by b c v w command how m pid l k is e = rw (← e, ← is.pid_is) is.answer

pub deed_by : (b c : BoardState) (v w : ProcessView) (command : Command) (how : How) (m pid : ℕ) (l k : Loaded) → IsAnswer b c v w command how m pid l → l ≡ k → IsEntry b c v.holding.pid how m k (entry_of b v.holding.pid (enter how m)).deed
deed_by b c v w command how m pid l k is e =
    rw (entry_is b v.holding.pid how m) (told_is b c v.holding.pid how m k (told_by b c v w command how m pid l k is e))

-- the answer is a refusal, with the number of its entry
refused_told : (b c : BoardState) (v w next : ProcessView) (command : Command) (ask : Ask) (outcome : ℕ → Outcome) (n : ℕ) → Did b (with_asked b v ask) v (at_front (length (with_asked b v ask).history) v) command (outcome (length (with_asked b v ask).history)) →
    c ≡ with_asked b v ask → w ≡ record v { residence_room = w.residence_room } → next ≡ at_front (length c.history) w → n ≡ next.holding.front → Did b c v next command (outcome n)
refused_told b c v w next command ask outcome n it adds room next_is front =
    let is : next ≡ record (at_front (length (with_asked b v ask).history) v) { residence_room = w.residence_room } =
    next_is ∙ ap (λ (x : BoardState). at_front (length x.history) w) adds ∙ ap (at_front (length (with_asked b v ask).history)) room
    in
    did_same b _ c v _ next command _ _ (did_room b _ v _ command _ w.residence_room it) adds is (ap outcome (front ∙ ap (λ (x : ProcessView). x.holding.front) is))

pub full_told : ResidenceStays → BasesSeenStay → StandsQuiet → (b c : BoardState) (v w next : ProcessView) (command : Command) (how : How) (m pid n : ℕ) (l : Loaded) (of object size : ℕ) → IsAnswer b c v w command how m pid l →
    l ≡ loaded.Full of object size → next ≡ at_front (length c.history) w → n ≡ next.holding.front → Did b c v next command (told (Refused (ArenaFull n of object size)))
full_told still bases quiet b c v w next command how m pid n l of object size is e next_is front =
    refused_told b c v w next command (enter how m) (λ k. told (Refused (ArenaFull k of object size))) n
    (did_full still bases quiet b v command how m of object size is.asked (deed_by b c v w command how m pid l (loaded.Full of object size) is e))
    (adds_by b c v (enter how m) (enter how m) pid is.adds is.pid_is refl) is.room next_is front

pub failed_told : ResidenceStays → BasesSeenStay → StandsQuiet → (b c : BoardState) (v w next : ProcessView) (command : Command) (how : How) (m pid n : ℕ) (l : Loaded) (by : ℕ) → IsAnswer b c v w command how m pid l →
    l ≡ loaded.Failed by → next ≡ at_front (length c.history) w → n ≡ next.holding.front → Did b c v next command (told (Refused (InitFailed n by)))
failed_told still bases quiet b c v w next command how m pid n l by is e next_is front =
    let it = deed_by b c v w command how m pid l (loaded.Failed by) is e in
    refused_told b c v w next command (enter how m) (λ k. told (Refused (InitFailed k by))) n (did_failed still bases quiet b v command how m by it.0 it.1 it.2 is.asked it.3)
    (adds_by b c v (enter how m) (enter how m) pid is.adds is.pid_is refl) is.room next_is front

-- ---- where it is done

abbrev pub entered_at : (b c : BoardState) (v w : ProcessView) (command : Command) (how : How) (m pid : ℕ) (l : Loaded) (rs : Vec FrameResidence Global) → IsAnswer b c v w command how m pid l → l ≡ loaded.Done rs → IsEntered b v
entered_at b c v w command how m pid l rs is e =
    let it = deed_by b c v w command how m pid l (loaded.Done rs) is e in
    record { command = command; how = how; m = m; asked = is.asked; fresh = it.0; calls = it.1; deed = it.2 }

-- the residences are those that the board has then
pub news_told : (b c : BoardState) (v w : ProcessView) (command : Command) (how : How) (m pid : ℕ) (l : Loaded) (rs : Vec FrameResidence Global) (is : IsAnswer b c v w command how m pid l) (e : l ≡ loaded.Done rs) →
    rs.items ≡ news_of b v (entered_at b c v w command how m pid l rs is e)
news_told b c v w command how m pid l rs is e =
    let it = deed_by b c v w command how m pid l (loaded.Done rs) is e in
    let D : Deed → Type 0 = λ d. IsToldOf d b c v.holding.pid (loaded.Done rs) in
    subst D (sym (entry_is b v.holding.pid how m) ∙ it.2) (told_by b c v w command how m pid l (loaded.Done rs) is e)
    ∙ ap (λ (x : BoardState). map (residence_shown x.library (state_of x) x.keeper) (joined b.library (state_of b) v.holding.pid m)) (adds_by b c v (enter how m) (enter how m) pid is.adds is.pid_is refl)

pub fits : (xs : Vec ℕ Global) (n count : ℕ) → count ≡ vec_len xs → count ≤ n → length xs.items ≤ n
fits xs n count e h = omega (arith, xs.ok, e, h)

pub read_entered : (b : BoardState) (v : ProcessView) (is : IsEntered b v) → [] ≡ bytes_read (entry_of b v.holding.pid (enter is.how is.m)).deed
read_entered b v is = sym (ap bytes_read is.deed)

-- the view that kept the new residences, and counted the start or the load
pub did_done : OrderEndsWithItself → ResidenceStays → BasesSeenStay → StandsEntered → (b : BoardState) (v : ProcessView) (is : IsEntered b v) (counted : ProcessView) (room : ℕ) →
    ((p : Process) → AreCountsOf v.library p v.holding.counts → AreCountsOf v.library (holding is.how is.m (attaching (unreached v.library p (order_of v.library is.m)) p)) counted.holding.counts) →
    counted ≡ with_counts counted.holding.counts (with_residences (news_of b v is) (record v { residence_room = room })) →
    Did b (board_entered b v is) v (at_front (length (board_entered b v is).history) counted) is.command (done (length (board_entered b v is).history))
did_done ends still bases entered b v is counted room rows counted_is =
    let n = length (board_entered b v is).history in
    let p = (state_of b).processes v.holding.pid in
    let counts = counted.holding.counts in
    let J : List ℕ → Type 0 = λ xs. AreCountsOf b.library (holding is.how is.m (attaching xs p)) counts in
    let D : ProcessView → Type 0 = λ w. Did b (board_entered b v is) v w is.command (done n) in
    subst D (sym (ap (at_front n) counted_is))
    (did_entered ends still bases entered b v is counts v.page_room (room - length (news_of b v is))
    (subst J (joined_by b.library (state_of b) v.holding.pid is.m _ refl) ((rw is.asked.stands.library at (rows p)) is.asked.stands.stands.view.counts)))
