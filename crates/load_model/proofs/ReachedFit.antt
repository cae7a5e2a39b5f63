-- What processes reach is fit.
use Rattle.std.proofs.Common.{◌≡◌, ℕ, ◌<◌, ◌==◌, Bool, true, false, if◌then◌else◌, not, ◌||◌, List, [], ◌∷◌, ◌++◌, map, length, Option, Some, None, option_to_list, refl, sym, ◌∙◌, ap, subst, append_assoc}
use Rattle.std.specs.Prelude.{is_none, is_some}
use Rattle.std.specs.List.{list_any}
use Rattle.std.proofs.lemmas.Bool.{eqb-true, eq-eqb, ltb-true}
use Rattle.std.proofs.lemmas.List.{append-nil}
use Rattle.lx_types.specs.Object.{class_of}
use Rattle.lx_types.specs.declared.object.Class.{Class}
use Rattle.lx_types.specs.declared.object.Class.TheVariants as classes
use Rattle.lx_types.specs.declared.parts.Parts.{Parts}
use Rattle.lx_model.specs.declared.library.EntryFault.TheVariants as faults
use Rattle.lx_model.specs.declared.library.Health.{Health}
use Rattle.lx_model.specs.declared.library.Health.TheVariants.{Fit, NoModule, NoEntry, ForwardLoop, Gate286}
use Rattle.lx_model.specs.Reading.{first, ◌then◌}
use Rattle.lx_model.specs.Laws.{OrderIsInLibrary}
use Rattle.lx_model.specs.Reach.{Order, lost_import, target_of_fault, HealthOf}
use Rattle.lx_model.proofs.FitModules.{unfit_first, unfit_lost, unfit_if, not_first, not_last}
use Rattle.load_model.specs.declared.commands.Refusal.{Refusal}
use Rattle.load_model.specs.declared.commands.Refusal.TheVariants.{Ended, Started, NotProgram, NotLibrary, CountFull}
use Rattle.load_model.specs.declared.deeds.How.{How}
use Rattle.load_model.specs.declared.deeds.How.TheVariants.{Start, Load}
use Rattle.load_model.specs.declared.deeds.Deed.{Deed}
use Rattle.load_model.specs.declared.deeds.Deed.TheVariants as deeds
use Rattle.load_model.specs.declared.deeds.Entry.{Entry}
use Rattle.load_model.specs.Modules.{Library, Held, is_library, order_of, unfit, refusal_of_health, object_at}
use Rattle.load_model.specs.State.{Failing, Written, Process, Eager, nothing_yet, with_process, is_among, roots, reaches}
use Rattle.load_model.specs.Entering.{holding, attaching, joined, with_fresh_residences, after_entering}
use Rattle.load_model.specs.Leaving.{freeing, exiting, keeping, after_leaving}
use Rattle.load_model.specs.Refusals.{when, ◌orelse◌, module_refusal, enter_refusal}
use Rattle.load_model.specs.Asks.{ask_in, may_ask, after_write, after_deed}
use Rattle.load_model.specs.Histories.{state_after, AllFollow, Legal}
use Rattle.load_model.specs.Fitness.{ReachedIsFit}
use Rattle.load_model.proofs.Bools.{and_left, and_right, or_true}
use Rattle.load_model.proofs.Orders.{OrdersNest, among_contains}
use Rattle.load_model.proofs.KeptLeaving.{roots_less}
use Rattle.load_model.proofs.Growing.{one_more_is_after}

-- ---- a member of a fit module's order is fit

none_of : (f : ℕ → Option Health) (ms : List ℕ) (x : ℕ) → first (map f ms) ≡ None → is_among ms x ≡ true → f x ≡ None
none_of f [] x e h = cc
none_of f (m ∷ ms) x e h = by_head (f m) refl e (m == x) refl h (none_of f ms x)
  where
    by_head : (o : Option Health) → f m ≡ o → first (o ∷ map f ms) ≡ None → (b : Bool) → (m == x) ≡ b → b || is_among ms x ≡ true →
        (first (map f ms) ≡ None → is_among ms x ≡ true → f x ≡ None) → f x ≡ None
    by_head (Some y) is e b at h later = cc
    by_head None is e true at h later = ap f (sym (eqb-true m x at)) ∙ is
    by_head None is e false at h later = later e h

all_none : (f : ℕ → Option Health) (ms : List ℕ) → ((x : ℕ) → is_among ms x ≡ true → f x ≡ None) → first (map f ms) ≡ None
all_none f [] each = refl
all_none f (m ∷ ms) each =
    ap (λ o. first (o ∷ map f ms)) (each m (ap (λ b. b || is_among ms m) (eq-eqb m m refl)))
    ∙ all_none f ms (λ x h. each x (ap (λ b. (m == x) || b) h ∙ or_true (m == x)))

pub record Faultless (lib : List Parts) (ms : List ℕ) : Type 0 where
  pub lost : first (map (lost_import lib) ms) ≡ None
  pub entry : first (map (λ by. target_of_fault faults.NoEntry (NoEntry by) lib by) ms) ≡ None
  pub loop : first (map (λ by. target_of_fault faults.ForwardLoop (ForwardLoop by) lib by) ms) ≡ None
  pub gate : first (map (λ by. target_of_fault faults.Gate286 (Gate286 by) lib by) ms) ≡ None

faultless : (lib : List Parts) (m : ℕ) → HealthOf lib m ≡ Fit → Faultless lib (Order lib m)
unfolding HealthOf
faultless lib m e =
    let one = not_first _ _ (unfit_first (lost_import lib) (unfit_lost lib) (Order lib m)) e in
    let two = not_first _ _ (unfit_first (λ by. target_of_fault faults.NoEntry (NoEntry by) lib by) (λ by. unfit_if _ (NoEntry by) (λ w. cc)) (Order lib m)) one.1 in
    let three = not_first _ _ (unfit_first (λ by. target_of_fault faults.ForwardLoop (ForwardLoop by) lib by) (λ by. unfit_if _ (ForwardLoop by) (λ w. cc)) (Order lib m)) two.1 in
    record {
      lost = one.0;
      entry = two.0;
      loop = three.0;
      gate = not_last _ (unfit_first (λ by. target_of_fault faults.Gate286 (Gate286 by) lib by) (λ by. unfit_if _ (Gate286 by) (λ w. cc)) (Order lib m)) three.1;
    }

fit_from : (lib : List Parts) (m : ℕ) → Faultless lib (Order lib m) → HealthOf lib m ≡ Fit
unfolding HealthOf
fit_from lib m f = rw (f.lost, f.entry, f.loop, f.gate) refl

pub fit_is_closed : OrdersNest → (lib : Library) (m k : ℕ) → is_among (order_of lib m) k ≡ true → HealthOf lib m ≡ Fit → HealthOf lib k ≡ Fit
unfolding order_of
fit_is_closed nest lib m k member fit =
    let all = faultless lib m fit in
    let inside : (x : ℕ) → is_among (Order lib k) x ≡ true → is_among (Order lib m) x ≡ true = λ x h. nest lib m k x member h in
    fit_from lib k (record {
      lost = all_none _ (Order lib k) (λ x h. none_of _ (Order lib m) x all.lost (inside x h));
      entry = all_none _ (Order lib k) (λ x h. none_of _ (Order lib m) x all.entry (inside x h));
      loop = all_none _ (Order lib k) (λ x h. none_of _ (Order lib m) x all.loop (inside x h));
      gate = all_none _ (Order lib k) (λ x h. none_of _ (Order lib m) x all.gate (inside x h));
    })

-- ---- roots

abbrev Good : Library → ℕ → Type 0
Good lib k = (k < length lib) × (HealthOf lib k ≡ Fit)

abbrev RootsGood : Library → Process → Type 0
RootsGood lib p = (root : ℕ) → is_among (roots p) root ≡ true → Good lib root

abbrev AllGood : Library → Eager → Type 0
AllGood lib e = (pid : ℕ) → RootsGood lib (e.processes pid)

healthy : (h : Health) → refusal_of_health h ≡ None → h ≡ Fit
healthy Fit e = refl
healthy (NoModule by name_no) e = cc
healthy (NoEntry by) e = cc
healthy (ForwardLoop by) e = cc
healthy (Gate286 by) e = cc

started_fit : (a b c : Bool) (r : Option Refusal) → is_none (when a Ended orelse when b Started orelse when c NotProgram orelse r) ≡ true → r ≡ None
started_fit true b c r e = cc
started_fit false true c r e = cc
started_fit false false true r e = cc
started_fit false false false None e = refl
started_fit false false false (Some x) e = cc

loaded_fit : (a b d : Bool) (r : Option Refusal) → is_none (when a Ended orelse when b NotLibrary orelse r orelse when d CountFull) ≡ true → r ≡ None
loaded_fit true b d r e = cc
loaded_fit false true d r e = cc
loaded_fit false false d None e = refl
loaded_fit false false d (Some x) e = cc

entered_good : (lib : Library) (p : Process) (how : How) (m : ℕ) → is_none (enter_refusal lib p how (Some m)) ≡ true → HealthOf lib m ≡ Fit
unfolding enter_refusal module_refusal unfit
entered_good lib p Start m e = healthy (HealthOf lib m) (started_fit p.ended (is_some p.started) (is_library lib m) (refusal_of_health (HealthOf lib m)) e)
entered_good lib p Load m e = healthy (HealthOf lib m) (loaded_fit p.ended (not (is_library lib m)) _ (refusal_of_health (HealthOf lib m)) e)

among_right : (s : Option ℕ) (xs : List ℕ) (k : ℕ) → is_among xs k ≡ true → is_among (option_to_list s ++ xs) k ≡ true
among_right None xs k h = h
among_right (Some r) xs k h = ap (λ b. (r == k) || b) h ∙ or_true (r == k)

one_root : (lib : Library) (m k : ℕ) (rest : Bool) → Good lib m → (rest ≡ true → Good lib k) → (m == k) || rest ≡ true → Good lib k
one_root lib m k rest good later h = step (m == k) refl h
  where
    step : (b : Bool) → (m == k) ≡ b → b || rest ≡ true → Good lib k
    step true is h = (let G : ℕ → Type 0 = Good lib in subst G (eqb-true m k is) good)
    step false is h = later h

held_good : (lib : Library) (how : How) (m : ℕ) (js : List ℕ) (p : Process) → Good lib m → RootsGood lib p → RootsGood lib (holding how m (attaching js p))
held_good lib Start m js p good all root h = one_root lib m root (is_among p.loads root) good (λ l. all root (among_right p.started p.loads root l)) h
held_good lib Load m js p good all root h = by_started p.started (λ l. all root l) h
  where
    by_started : (s : Option ℕ) → (is_among (option_to_list s ++ p.loads) root ≡ true → Good lib root) → is_among (option_to_list s ++ (m ∷ p.loads)) root ≡ true → Good lib root
    by_started None each h = one_root lib m root (is_among p.loads root) good each h
    by_started (Some r) each h = step (r == root) refl h
      where
        step : (b : Bool) → (r == root) ≡ b → b || is_among (m ∷ p.loads) root ≡ true → Good lib root
        step true is h = each (ap (λ b. b || is_among p.loads root) is)
        step false is h = one_root lib m root (is_among p.loads root) good (λ l. each (ap (λ b. (r == root) || b) l ∙ or_true (r == root))) h

-- ---- one entry

with_good : (lib : Library) (e : Eager) (pid : ℕ) (p : Process) → AllGood lib e → RootsGood lib p → AllGood lib (with_process e pid p)
unfolding with_process
with_good lib e pid p all good q = step (q == pid)
  where
    step : (b : Bool) → RootsGood lib (if b then p else e.processes q)
    step true = good
    step false = all q

written_good : (lib : Library) (e : Eager) (pid serial : ℕ) (w : Written) (c : Class) → AllGood lib e → AllGood lib (after_write e pid serial w c)
written_good lib e pid serial w classes.Code all = all
written_good lib e pid serial w classes.Private all = with_good lib e pid _ all (λ root h. all pid root h)
written_good lib e pid serial w classes.Shared all = all

left_good : (lib : Library) (e : Eager) (pid : ℕ) (p : Process) → AllGood lib e → RootsGood lib p → AllGood lib (after_leaving lib e pid p)
unfolding after_leaving keeping
left_good lib e pid p all good = with_good lib e pid (keeping lib e p) all (λ root h. good root h)

deed_good : (lib : Library) (e : Eager) (pid : ℕ) (d : Deed) → may_ask lib e pid (ask_in d) ≡ true → AllGood lib e → AllGood lib (after_deed lib e pid d)
unfolding after_deed after_entering may_ask
deed_good lib e pid (deeds.Enter how m fresh calls) may all =
    let below : m < length lib = ltb-true m (length lib) (and_left _ _ may) in
    with_good lib (with_fresh_residences e fresh) pid _ all (held_good lib how m (joined lib e pid m) (e.processes pid) (below, entered_good lib (e.processes pid) how m (and_right _ _ may)) (all pid))
deed_good lib e pid (deeds.Full how m of object size) may all = all
deed_good lib e pid (deeds.Failed how m by fresh calls gone) may all = all
deed_good lib e pid (deeds.Free m calls gone) may all =
    left_good lib e pid (freeing m (e.processes pid)) all (λ root h. all pid root (roots_less (λ other. other == root) (e.processes pid).started m (e.processes pid).loads h))
deed_good lib e pid (deeds.Exit calls gone) may all = left_good lib e pid (exiting (e.processes pid)) all (λ root h. (let wrong : false ≡ true = h in cc))
deed_good lib e pid (deeds.Fault serial m p) may all = all
deed_good lib e pid (deeds.Write serial m object offset bytes) may all = written_good lib e pid serial _ (class_of (object_at lib m object)) all
deed_good lib e pid (deeds.Debug serial m object offset bytes) may all = written_good lib e pid serial _ classes.Private all
deed_good lib e pid (deeds.Shared serial m object offset bytes) may all = all

all_good : (lib : Library) (failing : Failing) (contents : Held) (h before : List Entry) →
    AllFollow lib failing contents before h → AllGood lib (state_after lib failing before) → AllGood lib (state_after lib failing (before ++ h))
all_good lib failing contents [] before all good = (let S : List Entry → Type 0 = λ b. AllGood lib (state_after lib failing b) in subst S (sym (append-nil before)) good)
all_good lib failing contents (x ∷ h) before all good =
    let S : List Entry → Type 0 = λ b. AllGood lib (state_after lib failing b) in
    let After : Eager → Type 0 = AllGood lib in
    subst S (append_assoc before (x ∷ []) h)
    (all_good lib failing contents h (before ++ x ∷ []) all.1
    (subst After (sym (one_more_is_after lib failing before x)) (deed_good lib (state_after lib failing before) x.pid x.deed all.0.may good)))

nothing_good : (lib : Library) (failing : Failing) → AllGood lib (nothing_yet failing)
nothing_good lib failing pid root h = (let wrong : false ≡ true = h in cc)

-- ---- what is reached

some_root : (f : ℕ → Bool) (xs : List ℕ) → list_any f xs ≡ true → (x : ℕ) × (is_among xs x ≡ true) × (f x ≡ true)
some_root f [] h = (let wrong : false ≡ true = h in cc)
some_root f (x ∷ xs) h = step (f x) refl (some_root f xs) h
  where
    step : (b : Bool) → f x ≡ b → (list_any f xs ≡ true → (y : ℕ) × (is_among xs y ≡ true) × (f y ≡ true)) → b || list_any f xs ≡ true → (y : ℕ) × (is_among (x ∷ xs) y ≡ true) × (f y ≡ true)
    step true is later h = (x, ap (λ b. b || is_among xs x) (eq-eqb x x refl), is)
    step false is later h = (let r = later h in (r.0, ap (λ b. (x == r.0) || b) r.1 ∙ or_true (x == r.0), r.2))

pub reached_is_fit : OrdersNest → OrderIsInLibrary → ReachedIsFit
unfolding reaches order_of Legal state_after
reached_is_fit nest within lib failing contents h legal pid m reached =
    let root = some_root (λ root. is_among (order_of lib root) m) (roots ((state_after lib failing h).processes pid)) reached in
    let good = all_good lib failing contents h [] legal (nothing_good lib failing) pid root.0 root.1 in
    (within lib root.0 m good.0 (among_contains (Order lib root.0) m root.2), fit_is_closed nest lib root.0 m root.2 good.1)
