-- What a start or a load attaches, and the entries of one that is not done.
use Rattle.std.proofs.Common.{◌≡◌, ◌∷◌, ◌++◌, [], ℕ, ◌+◌, ◌<◌, true, not, List, length, map, filter, find, option_map, Option, Some, None, is_some, is_none, Result, Ok, Err, refl, sym, ◌∙◌, ap, subst, zero, suc, false, arith}
use Rattle.std.specs.Prelude.{All, nat_le, slice_index}
use Rattle.std.proofs.lemmas.Bool.{ltb-true, leb-false}
use Rattle.std.proofs.lemmas.List.Elements.{All-filter, filter_agree}
use Rattle.lx_types.specs.Answers.{Answers}
use Rattle.lx_types.specs.declared.fail.Fail.{Fail}
use Rattle.lx_types.specs.declared.fail.Fail.TheVariants.{Said, NoMemory}
use Rattle.lx_model.specs.Laws.{OrderIsInLibrary}
use Rattle.load_model.specs.declared.deeds.How.{How}
use Rattle.load_model.specs.declared.deeds.Call.{Call}
use Rattle.load_model.specs.declared.deeds.Fresh.{Fresh}
use Rattle.load_model.specs.declared.deeds.Gone.{Gone}
use Rattle.load_model.specs.declared.deeds.Deed.{Deed}
use Rattle.load_model.specs.declared.deeds.Deed.TheVariants as deeds
use Rattle.load_model.specs.declared.deeds.Entry.{Entry}
use Rattle.load_model.specs.Modules.{Library, fixed_bytes, is_library, unfit}
use Rattle.load_model.specs.State.{Residence, Eager, pids, is_among, is_reached, residence_of, Process, count_of}
use Rattle.load_model.specs.Entering.{NoRoom, joined, newcomers, resident_ranges, placed_from, placing, entering_calls}
use Rattle.residence_table.specs.declared.entry.Entering.{Entering}
use Rattle.residence_table.specs.Called.{IsWithin, IsEnteringOf}
use Rattle.load_model.specs.Initialising.{is_failing, failing_module, failed_calls, gone_again, entered, enter_by, enter_deed, after_failing}
use Rattle.load_model.specs.Refusals.{enter_refusal, when, ◌orelse◌, started_refusal, module_or_none, module_refusal}
use Rattle.load_model.specs.declared.commands.Ask.TheVariants.{Enter as enter}
use Rattle.load_model.specs.Asks.{may_ask, deed_of, after_deed}
use Rattle.load_model.specs.Alike.{BasesSeenStay}
use Rattle.load_model.specs.Laws.{ReachedIsResident}
use Rattle.load_model.specs.ProcessCounts.{ProcessCounts, AreCountsOf}
use Rattle.load_model.proofs.Bools.{and_left, and_right}
use Rattle.load_model.proofs.Kept.{fresh_modules}
use Rattle.mod_refs.specs.declared.changes.Gained.{Gained}
use Rattle.mod_refs.specs.AllCounts.{AreCountsOfAll, counts_at}
use Rattle.mod_refs.specs.Changes.{IsGained, IsIdleFor, IsFullFor}
use Rattle.mod_refs.proofs.KeptCounts.{joined_within}
use Rattle.load_core.specs.BoardState.{BoardState, state_of, IsLegal, MayAsk, Adds, entry_of, with_entry}
use Rattle.load_core.specs.Kept.{Keeps}
use Rattle.load_core.specs.Told.{IsToldOf, IsLoaded}
use Rattle.load_core.specs.declared.answers.Loaded.{Loaded}
use Rattle.load_core.specs.declared.residence_parts.ResidenceParts.{ResidenceParts}
use Rattle.load_core.proofs.Using.{asked_follows, none_is}
use Rattle.load_core.proofs.Keeping.{FollowsIn, keeps_still}
use Rattle.load_model.specs.declared.commands.Refusal.TheVariants.{Ended, Started, NotLibrary, CountFull}
use Rattle.load_model.specs.declared.deeds.How.TheVariants as ways
use Rattle.load_model.proofs.Bytes.{left_none, right_none}
use Rattle.load_model.proofs.Holding.{when_none}

-- ---- modules

pub module_asked : (b : BoardState) (pid : ℕ) (how : How) (m : ℕ) → MayAsk b pid (enter how m) → m < length b.library
unfolding may_ask
module_asked b pid how m may = ltb-true m (length b.library) (and_left _ _ may)

pub not_refused : (b : BoardState) (pid : ℕ) (how : How) (m : ℕ) → MayAsk b pid (enter how m) → is_none (enter_refusal b.library ((state_of b).processes pid) how (Some m)) ≡ true
unfolding may_ask
not_refused b pid how m may = and_right _ _ may

pub joined_in : OrderIsInLibrary → (b : BoardState) (pid m : ℕ) → m < length b.library → All (λ k. k < length b.library) (joined b.library (state_of b) pid m)
unfolding joined
joined_in within b pid m below = joined_within within b.library ((state_of b).processes pid) m below

none_some : {X : Type 0} (x : Option X) → not (is_some x) ≡ is_none x
none_some None = refl
none_some (Some y) = refl

-- what is new is what no process reaches
pub unreached_new : ReachedIsResident → (b : BoardState) (pid m : ℕ) → IsLegal b →
    filter (λ k. not (is_reached b.library (state_of b) k)) (joined b.library (state_of b) pid m) ≡ newcomers b.library (state_of b) pid m
unfolding newcomers
unreached_new resident b pid m legal =
    filter_agree (λ k. not (is_reached b.library (state_of b) k)) (λ k. is_none (residence_of (state_of b) k))
    (λ k. ap not (sym (resident b.library b.failing (fixed_bytes b.library) b.history legal k)) ∙ none_some (residence_of (state_of b) k)) (joined b.library (state_of b) pid m)

pub new_in : OrderIsInLibrary → (b : BoardState) (pid m : ℕ) → m < length b.library → All (λ k. k < length b.library) (newcomers b.library (state_of b) pid m)
unfolding newcomers
new_in within b pid m below = All-filter (λ k. is_none (residence_of (state_of b) k)) (λ k. k < length b.library) (joined b.library (state_of b) pid m) (joined_in within b pid m below)

pub placed_modules : (lib : Library) (e : Eager) (pid m : ℕ) (fresh : List Fresh) → placing lib e pid m ≡ Ok fresh → map (λ f. f.«module») fresh ≡ newcomers lib e pid m
unfolding placing
placed_modules lib e pid m fresh is = fresh_modules lib (newcomers lib e pid m) e.serials _ fresh is

-- ---- entries

pub full_deed : (lib : Library) (e : Eager) (pid : ℕ) (how : How) (m : ℕ) (none : NoRoom) → placing lib e pid m ≡ Err none →
    enter_deed lib e pid how m ≡ deeds.Full how m none.of none.object.object none.object.size
unfolding enter_deed
full_deed lib e pid how m none is = ap (enter_by lib e pid how m) is

pub entered_deed : (lib : Library) (e : Eager) (pid : ℕ) (how : How) (m : ℕ) (fresh : List Fresh) (o : Option ℕ) → placing lib e pid m ≡ Ok fresh → failing_module lib e pid how m fresh ≡ o →
    enter_deed lib e pid how m ≡ entered lib e pid how m fresh o
unfolding enter_deed
entered_deed lib e pid how m fresh o is which = ap (enter_by lib e pid how m) is ∙ ap (entered lib e pid how m fresh) which

-- the entry of a start or a load
abbrev pub entry_with : ℕ → Deed → Entry
entry_with pid deed = record { pid = pid; deed = deed }

pub entry_is : (b : BoardState) (pid : ℕ) (how : How) (m : ℕ) (deed : Deed) → enter_deed b.library (state_of b) pid how m ≡ deed → entry_with pid deed ≡ entry_of b pid (enter how m)
unfolding deed_of
entry_is b pid how m deed is = ap (entry_with pid) (sym is)

pub adds_so : (b : BoardState) (pid : ℕ) (how : How) (m : ℕ) (deed : Deed) (h : List Entry) → enter_deed b.library (state_of b) pid how m ≡ deed → h ≡ b.history ++ entry_with pid deed ∷ [] →
    Adds b (record b { history = h }) pid (enter how m)
adds_so b pid how m deed h is grown =
    let H : List Entry → BoardState = λ k. record b { history = k } in
    ap H grown ∙ ap (with_entry b) (entry_is b pid how m deed is)

pub told_so : (b c : BoardState) (pid : ℕ) (how : How) (m : ℕ) (deed : Deed) (answer : Loaded) → enter_deed b.library (state_of b) pid how m ≡ deed → IsToldOf deed b c pid answer → IsLoaded b c pid how m answer
told_so b c pid how m deed answer is told = subst (λ d. IsToldOf d b c pid answer) (sym is) told

pub enters_follow : (b : BoardState) (pid : ℕ) (how : How) (m : ℕ) (deed : Deed) → is_among pids pid ≡ true → MayAsk b pid (enter how m) → enter_deed b.library (state_of b) pid how m ≡ deed →
    FollowsIn b (entry_with pid deed)
enters_follow b pid how m deed there may is =
    subst (FollowsIn b) (sym (entry_is b pid how m deed is)) (asked_follows b.library b.failing (fixed_bytes b.library) b.history pid (enter how m) there may tt)

-- ---- what is kept where nothing is loaded

pub keeps_full : BasesSeenStay → (b : BoardState) (all_counts : List ProcessCounts) (table : List (Residence × ResidenceParts)) (serials pid : ℕ) (how : How) (m of object size : ℕ) (h : List Entry) → Keeps b all_counts table serials →
    is_among pids pid ≡ true → MayAsk b pid (enter how m) → enter_deed b.library (state_of b) pid how m ≡ deeds.Full how m of object size →
    h ≡ b.history ++ entry_with pid (deeds.Full how m of object size) ∷ [] → Keeps (record b { history = h }) all_counts table serials
unfolding after_deed
keeps_full stay b all_counts table serials pid how m of object size h kept there may is grown =
    let H : List Entry → Type 0 = λ k. Keeps (record b { history = k }) all_counts table serials in
    subst H (sym grown)
    (keeps_still stay b (entry_with pid (deeds.Full how m of object size)) all_counts all_counts table serials serials kept (enters_follow b pid how m (deeds.Full how m of object size) there may is) (λ s p. refl)
    kept.reached refl kept.given)

pub keeps_failed : BasesSeenStay → (b : BoardState) (all_counts : List ProcessCounts) (table : List (Residence × ResidenceParts)) (serials serials' pid : ℕ) (how : How) (m by : ℕ) (fresh : List Fresh) (calls : List Call)
    (gone : List Gone) (h : List Entry) → Keeps b all_counts table serials → is_among pids pid ≡ true → MayAsk b pid (enter how m) →
    enter_deed b.library (state_of b) pid how m ≡ deeds.Failed how m by fresh calls gone → serials' ≡ (state_of b).serials + length fresh →
    h ≡ b.history ++ entry_with pid (deeds.Failed how m by fresh calls gone) ∷ [] → Keeps (record b { history = h }) all_counts table serials'
unfolding after_deed
keeps_failed stay b all_counts table serials serials' pid how m by fresh calls gone h kept there may is given grown =
    let H : List Entry → Type 0 = λ k. Keeps (record b { history = k }) all_counts table serials' in
    subst H (sym grown)
    (keeps_still stay b (entry_with pid (deeds.Failed how m by fresh calls gone)) all_counts all_counts table serials serials' kept
    (enters_follow b pid how m (deeds.Failed how m by fresh calls gone) there may is) (λ s p. refl) (same b.library (state_of b) fresh all_counts kept.reached) refl given)
  where
    same : (lib : Library) (e : Eager) (fresh : List Fresh) (all_counts : List ProcessCounts) → AreCountsOfAll lib e all_counts → AreCountsOfAll lib (after_failing e fresh) all_counts
    same lib e fresh all_counts are = record { each = are.each }

-- ---- an initialisation that fails

pub failing_by : (lib : Library) (e : Eager) (pid : ℕ) (how : How) (m : ℕ) (fresh : List Fresh) (calls : List Call) → calls ≡ entering_calls lib e pid how m fresh →
    option_map (λ (c : Call). c.«module») (find (is_failing e pid) calls) ≡ failing_module lib e pid how m fresh
unfolding failing_module
failing_by lib e pid how m fresh calls is = ap (λ cs. option_map (λ (c : Call). c.«module») (find (is_failing e pid) cs)) is

pub failed_deed : (lib : Library) (e : Eager) (pid : ℕ) (how : How) (m by : ℕ) (fresh : List Fresh) (calls : List Call) (gone : List Gone) → placing lib e pid m ≡ Ok fresh →
    failing_module lib e pid how m fresh ≡ Some by → calls ≡ failed_calls lib e pid how m by fresh → gone ≡ gone_again fresh →
    enter_deed lib e pid how m ≡ deeds.Failed how m by fresh calls gone
failed_deed lib e pid how m by fresh calls gone placed which called ended =
    entered_deed lib e pid how m fresh (Some by) placed which
    ∙ ap (λ cs. deeds.Failed how m by fresh cs (gone_again fresh)) (sym called) ∙ ap (λ gs. deeds.Failed how m by fresh calls gs) (sym ended)

pub is_within : OrderIsInLibrary → (b : BoardState) (pid : ℕ) (entering : Entering) → MayAsk b pid (enter entering.how entering.«module») →
    entering.joined.now ≡ joined b.library (state_of b) pid entering.«module» → IsWithin b.library entering
is_within within b pid entering may same =
    let W : List ℕ → Type 0 = λ ms. All (λ k. k < length b.library) ms in
    let below : entering.«module» < length b.library = module_asked b pid entering.how entering.«module» may in
    record { «module» = below; joined = subst W (sym same) (joined_in within b pid entering.«module» below) }

pub is_entering : (b : BoardState) (pid : ℕ) (entering : Entering) (fresh : List Fresh) → entering.joined.now ≡ joined b.library (state_of b) pid entering.«module» → entering.fresh.now ≡ fresh →
    placing b.library (state_of b) pid entering.«module» ≡ Ok fresh → IsEnteringOf b.library (state_of b) pid entering
is_entering b pid entering fresh same new placed = record {
  joined = same;
  fresh = ap (map (λ (f : Fresh). f.«module»)) new ∙ placed_modules b.library (state_of b) pid entering.«module» fresh placed;
}

-- ---- places

pub placed_by : (lib : Library) (e : Eager) (pid m serials : ℕ) (ms : List ℕ) (r : Result (List Fresh) NoRoom) → serials ≡ e.serials → ms ≡ newcomers lib e pid m →
    placed_from lib serials (resident_ranges lib e) ms ≡ r → placing lib e pid m ≡ r
unfolding placing
placed_by lib e pid m serials ms r given new is =
    ap (λ n. placed_from lib n (resident_ranges lib e) (newcomers lib e pid m)) (sym given) ∙ ap (placed_from lib serials (resident_ranges lib e)) (sym new) ∙ is

-- a refusal that is handed on
pub handed_on : {A B R : Type 0} (P : A → Type 0) (Q : R → Type 0) (P' : B → Type 0) (Q' : R → Type 0) (why : Fail R) → ((r : R) → Q r → Q' r) → Answers (Err why) P Q → Answers (Err why) P' Q'
handed_on P Q P' Q' (Said r) more is = more r is
handed_on P Q P' Q' NoMemory more is = tt

-- what the counts say of a library is said of the same
pub gained_in : (here lib : Library) (e : Eager) (all_counts : List ProcessCounts) (pid m : ℕ) (gained : Gained) → here ≡ lib → ((e : Eager) → AreCountsOfAll here e all_counts → IsGained here e pid m gained) → AreCountsOfAll lib e all_counts →
    IsGained lib e pid m gained
gained_in here lib e all_counts pid m gained same said are =
    let G : Library → Type 0 = λ l. (e : Eager) → AreCountsOfAll l e all_counts → IsGained l e pid m gained in
    subst G same said e are

-- ---- what may be asked of a load, for the counts, and what is handed out by it

started_none : (p : Process) → started_refusal p ways.Start ≡ None → p.started ≡ None
started_none p h = step p.started (when_none (is_some p.started) Started h)
  where
    step : (o : Option ℕ) → is_some o ≡ false → o ≡ None
    step None h = refl
    step (Some m) h = cc

idle : (lib : Library) (p : Process) (counts : ProcessCounts) (how : How) (m : ℕ) → AreCountsOf lib p counts → enter_refusal lib p how (Some m) ≡ None → IsIdleFor how counts
unfolding enter_refusal
idle lib p counts ways.Load m is h = tt
idle lib p counts ways.Start m is h =
    is.started ∙ started_none p (left_none (started_refusal p ways.Start) (module_or_none lib p ways.Start (Some m)) (right_none (when p.ended Ended) (started_refusal p ways.Start orelse module_or_none lib p ways.Start (Some m)) h))

few : (lib : Library) (p : Process) (counts : ProcessCounts) (how : How) (m : ℕ) → AreCountsOf lib p counts → m < length lib → enter_refusal lib p how (Some m) ≡ None → IsFullFor how m counts → ⊥
unfolding enter_refusal module_refusal
few lib p counts ways.Start m is below h full = full
few lib p counts ways.Load m is below h full =
    let fine = right_none (started_refusal p ways.Load) (module_or_none lib p ways.Load (Some m)) (right_none (when p.ended Ended) (started_refusal p ways.Load orelse module_or_none lib p ways.Load (Some m)) h) in
    let last = right_none (unfit lib m) (when (nat_le 65535 (count_of p m)) CountFull)
    (right_none (when (not (is_library lib m)) NotLibrary) (unfit lib m orelse when (nat_le 65535 (count_of p m)) CountFull) fine)
    in
    let less : count_of p m < 65535 = leb-false 65535 (count_of p m) (when_none (nat_le 65535 (count_of p m)) CountFull last) in
    let same : slice_index counts.loads m ≡ count_of p m = is.loads m below in
    let all : slice_index counts.loads m ≡ 65535 = full in
    omega (arith, less, same, all)

pub is_idle : (b : BoardState) (all_counts : List ProcessCounts) (pid : ℕ) (how : How) (m : ℕ) → AreCountsOfAll b.library (state_of b) all_counts → is_among pids pid ≡ true → MayAsk b pid (enter how m) → IsIdleFor how (counts_at all_counts pid)
is_idle b all_counts pid how m are there may = idle b.library ((state_of b).processes pid) (counts_at all_counts pid) how m (are.each pid there) (none_is _ (not_refused b pid how m may))

pub is_few : (b : BoardState) (all_counts : List ProcessCounts) (pid : ℕ) (how : How) (m : ℕ) → AreCountsOfAll b.library (state_of b) all_counts → is_among pids pid ≡ true → MayAsk b pid (enter how m) → IsFullFor how m (counts_at all_counts pid) → ⊥
is_few b all_counts pid how m are there may = few b.library ((state_of b).processes pid) (counts_at all_counts pid) how m (are.each pid there) (module_asked b pid how m may) (none_is _ (not_refused b pid how m may))

all_of_map : (n : ℕ) (fresh : List Fresh) → All (λ k. k < n) (map (λ f. f.«module») fresh) → All (λ f. f.«module» < n) fresh
all_of_map n [] all k d inside = (let none : k < 0 = inside in omega (arith, none))
all_of_map n (f ∷ fs) all zero d inside = all 0 0 (omega arith)
all_of_map n (f ∷ fs) all (suc k) d inside = all_of_map n fs (λ i e within. all (suc i) e (omega arith)) k d (omega arith)

pub fresh_in : OrderIsInLibrary → (b : BoardState) (pid : ℕ) (how : How) (m : ℕ) (fresh : List Fresh) → MayAsk b pid (enter how m) → placing b.library (state_of b) pid m ≡ Ok fresh →
    All (λ f. f.«module» < length b.library) fresh
fresh_in within b pid how m fresh may placed =
    let W : List ℕ → Type 0 = λ ms. All (λ k. k < length b.library) ms in
    all_of_map (length b.library) fresh (subst W (sym (placed_modules b.library (state_of b) pid m fresh placed)) (new_in within b pid m (module_asked b pid how m may)))
