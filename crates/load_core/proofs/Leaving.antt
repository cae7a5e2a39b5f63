-- What a free and an exit leave of what a board keeps.
use Rattle.std.proofs.Common.{◌≡◌, ◌≢◌, ◌∷◌, [], ℕ, zero, suc, ◌+◌, ◌<◌, ◌==◌, ◌||◌, Bool, true, false, not, List, length, filter, cond, count_by, Some, None, option_to_list, refl, sym, ◌∙◌, ap, subst, arith, map}
use Rattle.std.specs.Prelude.{All, slice_index}
use Rattle.std.specs.List.{list_any, AllByRecursion}
use Rattle.std.proofs.lemmas.Bool.{eqb-true, eqb-false}
use Rattle.std.proofs.lemmas.List.Folds.{list_any-append}
use Rattle.mod_refs.proofs.LegalCounts.{own_order}
use Rattle.lx_model.specs.Laws.{OrderEndsWithItself}
use Rattle.load_model.specs.declared.commands.Refusal.TheVariants.{Ended, NotHeld}
use Rattle.load_model.specs.declared.deeds.Call.{Call}
use Rattle.load_model.specs.declared.deeds.Gone.{Gone}
use Rattle.load_model.specs.declared.deeds.Entry.{Entry}
use Rattle.load_model.specs.Modules.{Library, order_of, fixed_bytes}
use Rattle.load_model.specs.State.{Residence, Process, Eager, with_process, pids, is_among, count_of, reaches}
use Rattle.load_model.specs.Leaving as leaving
use Rattle.load_model.specs.Leaving.{gone_modules, keeping, after_leaving}
use Rattle.load_model.specs.Refusals.{when, free_refusal}
use Rattle.load_model.specs.declared.commands.Ask.TheVariants.{Free as free}
use Rattle.load_model.specs.Asks.{may_ask, deed_of, after_deed}
use Rattle.load_model.specs.Histories.{after_entry}
use Rattle.load_model.specs.Alike.{BasesSeenStay}
use Rattle.load_model.specs.Fitness.{ReachedIsFit}
use Rattle.load_model.specs.ProcessCounts.{ProcessCounts}
use Rattle.load_model.proofs.Bools.{or_true}
use Rattle.load_model.proofs.Bytes.{right_none}
use Rattle.load_model.proofs.Holding.{when_none}
use Rattle.load_model.proofs.ViewLeaving.{all_filter}
use Rattle.mod_refs.specs.Counts.{one_if}
use Rattle.mod_refs.proofs.CountLaws.{count_cons}
use Rattle.mod_refs.specs.declared.changes.Leaving.{Leaving}
use Rattle.mod_refs.specs.declared.changes.Leaving.TheVariants as ways
use Rattle.mod_refs.specs.AllCounts.{AreCountsOfAll, IsKept, counts_at}
use Rattle.mod_refs.specs.Changes.{IsHeldBy, with_given_up, given_up}
use Rattle.mod_refs.proofs.KeptCounts.{left_within}
use Rattle.write_overlay.specs.Layered.{Lays}
use Rattle.residence_table.specs.Residences.{residences, unwritten, unwritten_residences}
use Rattle.load_core.specs.BoardState.{BoardState, state_of, IsLegal, MayAsk, entry_of, with_entry}
use Rattle.load_core.specs.Kept.{Keeps, IsCurrentRow, IsLaid}
use Rattle.load_core.specs.Leaves.{asked_by, leaving_deed, process_left, IsDeparture}
use Rattle.load_core.specs.declared.leaves.Departure.{Departure}
use Rattle.load_core.specs.declared.residence_parts.ResidenceParts.{ResidenceParts}
use Rattle.load_core.proofs.Using.{IsNew, asked_follows, none_is}
use Rattle.load_core.proofs.Keeping.{Stands, FollowsIn, NoFaults, after, all_standing, all_current, keeps_more}

-- ---- what is held

counted_any : (f : ℕ → Bool) (m : ℕ) (xs : List ℕ) → f m ≡ true → count_by (λ other. other == m) xs ≢ 0 → list_any f xs ≡ true
counted_any f m [] own some = absurd (some refl)
counted_any f m (x ∷ xs) own some = step (x == m) refl (counted_any f m xs own) (λ none. some (count_cons (λ other. other == m) x xs ∙ none))
  where
    step : (b : Bool) → (x == m) ≡ b → (count_by (λ other. other == m) xs ≢ 0 → list_any f xs ≡ true) → one_if b + count_by (λ other. other == m) xs ≢ 0 → f x || list_any f xs ≡ true
    step true is later some = ap (λ b. b || list_any f xs) (ap f (eqb-true x m is) ∙ own)
    step false is later some = ap (λ b. f x || b) (later (λ none. some (let e : count_by (λ other. other == m) xs ≡ 0 = none in omega (arith, e)))) ∙ or_true (f x)

held_reached : OrderEndsWithItself → (lib : Library) (p : Process) (m : ℕ) → count_of p m ≢ 0 → reaches lib p m ≡ true
unfolding reaches
held_reached ends lib p m some =
    list_any-append (λ root. is_among (order_of lib root) m) (option_to_list p.started) p.loads
    ∙ ap (λ b. list_any (λ root. is_among (order_of lib root) m) (option_to_list p.started) || b) (counted_any (λ root. is_among (order_of lib root) m) m p.loads (own_order ends lib m) some)
    ∙ or_true (list_any (λ root. is_among (order_of lib root) m) (option_to_list p.started))

freed_held : (lib : Library) (e : Eager) (pid m : ℕ) → may_ask lib e pid (free m) ≡ true → count_of (e.processes pid) m ≢ 0
unfolding may_ask
freed_held lib e pid m may =
    let none : free_refusal (e.processes pid) (Some m) ≡ None = none_is _ may in
    let held = when_none _ NotHeld (right_none (when (e.processes pid).ended Ended) _ none) in
    eqb-false (count_of (e.processes pid) m) 0 (twice (count_of (e.processes pid) m == 0) held)
  where
    twice : (b : Bool) → not (not b) ≡ false → b ≡ false
    twice true h = cc
    twice false h = refl

pub is_held : OrderEndsWithItself → ReachedIsFit → (b : BoardState) (all_counts : List ProcessCounts) (pid : ℕ) (what : Leaving) → IsLegal b → AreCountsOfAll b.library (state_of b) all_counts → is_among pids pid ≡ true →
    MayAsk b pid (asked_by what) → IsHeldBy what (counts_at all_counts pid)
is_held ends fit b all_counts pid ways.All legal are there may = tt
is_held ends fit b all_counts pid (ways.One m) legal are there may =
    let held : count_of ((state_of b).processes pid) m ≢ 0 = freed_held b.library (state_of b) pid m may in
    let within : m < length b.library = (fit b.library b.failing (fixed_bytes b.library) b.history legal pid m (held_reached ends b.library ((state_of b).processes pid) m held)).0 in
    above (slice_index (counts_at all_counts pid).loads m) (count_of ((state_of b).processes pid) m) ((are.each pid there).loads m within) held
  where
    above : (n k : ℕ) → n ≡ k → k ≢ 0 → 0 < n
    above zero k same some = absurd (some (sym same))
    above (suc n) k same some = omega arith

pub left_in_library : (b : BoardState) (all_counts : List ProcessCounts) (pid : ℕ) (what : Leaving) → AreCountsOfAll b.library (state_of b) all_counts → is_among pids pid ≡ true → IsKept b.library (counts_at all_counts pid) →
    All (λ k. k < length b.library) (leaving.left b.library (process_left b pid what))
left_in_library b all_counts pid what are there kept =
    let W : List ℕ → Type 0 = λ ms. All (λ k. k < length b.library) ms in
    left_within b.library (process_left b pid what) (subst W (sym kept.is.attached ∙ (are.each pid there).attached ∙ sym (same what)) kept.attached)
  where
    same : (what : Leaving) → (given_up what ((state_of b).processes pid)).attached ≡ ((state_of b).processes pid).attached
    same (ways.One m) = refl
    same ways.All = refl

-- ---- the entry

abbrev pub leaving_entry : ℕ → Leaving → List Call → List Gone → Entry
leaving_entry pid what calls gone = record { pid = pid; deed = leaving_deed what calls gone }

-- the entry that the loader makes of it
pub asked_leaving : (b : BoardState) (pid : ℕ) (what : Leaving) →
    leaving_entry pid what (leaving.leaving_calls b.library (state_of b) pid (process_left b pid what)) (leaving.gone b.library (state_of b) pid (process_left b pid what)) ≡ entry_of b pid (asked_by what)
unfolding deed_of
asked_leaving b pid (ways.One m) = refl
asked_leaving b pid ways.All = refl

pub departed : (b : BoardState) (pid : ℕ) (what : Leaving) (d : Departure) → IsDeparture b pid what d → leaving_entry pid what d.calls d.gone ≡ entry_of b pid (asked_by what)
departed b pid what d is = ap (λ calls. leaving_entry pid what calls d.gone) is.calls ∙ ap (leaving_entry pid what (leaving.leaving_calls b.library (state_of b) pid (process_left b pid what))) is.gone ∙ asked_leaving b pid what

after_what : (lib : Library) (e : Eager) (pid : ℕ) (what : Leaving) (calls : List Call) (gone : List Gone) →
    after_deed lib e pid (leaving_deed what calls gone) ≡ after_leaving lib e pid (given_up what (e.processes pid))
unfolding after_deed
after_what lib e pid (ways.One m) calls gone = refl
after_what lib e pid ways.All calls gone = refl

no_fault_left : (pid : ℕ) (what : Leaving) (calls : List Call) (gone : List Gone) → NoFaults (leaving_entry pid what calls gone)
no_fault_left pid (ways.One m) calls gone s p = refl
no_fault_left pid ways.All calls gone s p = refl

residences_filtered : (f : ℕ → Bool) (table : List (Residence × ResidenceParts)) → residences (filter (λ s. f s.0.«module») table) ≡ filter (λ r. f r.«module») (residences table)
residences_filtered f [] = refl
residences_filtered f (s ∷ table) = step (f s.0.«module») (residences_filtered f table)
  where
    step : (c : Bool) → residences (filter (λ t. f t.0.«module») table) ≡ filter (λ r. f r.«module») (residences table) →
        residences (cond c (s ∷ filter (λ t. f t.0.«module») table) (filter (λ t. f t.0.«module») table)) ≡ cond c (s.0 ∷ filter (λ r. f r.«module») (residences table)) (filter (λ r. f r.«module») (residences table))
    step true later = ap (λ rs. s.0 ∷ rs) later
    step false later = later

-- as they stand
standing_filtered : (f : ℕ → Bool) (rs : List Residence) → filter (λ r. f r.«module») (map unwritten rs) ≡ map unwritten (filter (λ r. f r.«module») rs)
standing_filtered f [] = refl
standing_filtered f (r ∷ rs) = step (f r.«module») (standing_filtered f rs)
  where
    step : (c : Bool) → filter (λ q. f q.«module») (map unwritten rs) ≡ map unwritten (filter (λ q. f q.«module») rs) →
        cond c (unwritten r ∷ filter (λ q. f q.«module») (map unwritten rs)) (filter (λ q. f q.«module») (map unwritten rs)) ≡ map unwritten (cond c (r ∷ filter (λ q. f q.«module») rs) (filter (λ q. f q.«module») rs))
    step true later = ap (λ qs. unwritten r ∷ qs) later
    step false later = later

rows_left : (lib : Library) (e : Eager) (pid : ℕ) (p : Process) (all_counts : List ProcessCounts) → AreCountsOfAll lib (with_process e pid (keeping lib e p)) all_counts → AreCountsOfAll lib (after_leaving lib e pid p) all_counts
unfolding after_leaving with_process
rows_left lib e pid p all_counts are = record { each = are.each }

residences_left : (lib : Library) (e : Eager) (pid : ℕ) (p : Process) → (after_leaving lib e pid p).residences ≡ filter (λ r. not (is_among (gone_modules lib e pid p) r.«module»)) e.residences
unfolding after_leaving
residences_left lib e pid p = refl

serials_left : (lib : Library) (e : Eager) (pid : ℕ) (p : Process) → (after_leaving lib e pid p).serials ≡ e.serials
unfolding after_leaving with_process
serials_left lib e pid p = refl

pub keeps_left : BasesSeenStay → (b : BoardState) (all_counts all_counts' : List ProcessCounts) (table : List (Residence × ResidenceParts)) (serials pid : ℕ) (what : Leaving) (calls : List Call) (gone : List Gone) (modules : List ℕ) →
    Keeps b all_counts table serials → is_among pids pid ≡ true → MayAsk b pid (asked_by what) → leaving_entry pid what calls gone ≡ entry_of b pid (asked_by what) →
    AreCountsOfAll b.library (with_given_up b.library (state_of b) pid what) all_counts' → modules ≡ gone_modules b.library (state_of b) pid (process_left b pid what) →
    Keeps (with_entry b (leaving_entry pid what calls gone)) all_counts' (filter (λ s. not (is_among modules s.0.«module»)) table) serials
keeps_left stay b all_counts all_counts' table serials pid what calls gone modules kept there may is are same =
    let x : Entry = leaving_entry pid what calls gone in
    let p : Process = process_left b pid what in
    let e : Eager = state_of b in
    let left_stays : List (Residence × ResidenceParts) = filter (λ s. not (is_among modules s.0.«module»)) table in
    let follows : FollowsIn b x = subst (FollowsIn b) (sym is) (asked_follows b.library b.failing (fixed_bytes b.library) b.history pid (asked_by what) there may (new what)) in
    let step : after_entry b.library e x ≡ after_leaving b.library e pid p = after_what b.library e pid what calls gone in
    let F : List ℕ → List Residence = λ ms. filter (λ r. not (is_among ms r.«module»)) e.residences in
    let stood : filter (λ r. not (is_among modules r.«module»)) e.residences ≡ (after_entry b.library e x).residences =
    ap F same ∙ sym (residences_left b.library e pid p) ∙ ap (λ (a : Eager). a.residences) (sym step)
    in
    let still : residences left_stays ≡ unwritten_residences (after_entry b.library e x) =
    residences_filtered (λ m. not (is_among modules m)) table ∙ ap (filter (λ r. not (is_among modules r.«module»))) kept.residences_are
    ∙ standing_filtered (λ m. not (is_among modules m)) e.residences ∙ ap (map unwritten) stood
    in
    let beyond = all_standing (state_of (with_entry b x)) left_stays (still ∙ ap (λ (a : Eager). unwritten_residences a) (sym (after b x))) in
    let laid =
    all_filter (IsLaid e.residences) (IsLaid (filter (λ r. not (is_among modules r.«module»)) e.residences)) (λ s. not (is_among modules s.0.«module»))
    (λ s f h.
    all_filter (λ r. r.serial ≡ s.0.serial → Lays s.1.layers r.writes) (λ r. r.serial ≡ s.0.serial → Lays s.1.layers r.writes) (λ r. not (is_among modules r.«module»)) (λ r g i. i) e.residences h)
    table kept.laid
    in
    let before = all_filter (λ s. Stands e s.0) (λ s. Stands e s.0) (λ s. not (is_among modules s.0.«module»)) (λ s f h. h) table (all_standing e table kept.residences_are) in
    let current = all_filter (IsCurrentRow b) (IsCurrentRow b) (λ s. not (is_among modules s.0.«module»)) (λ s f h. h) table kept.current in
    keeps_more b x all_counts' left_stays serials kept.legal follows (subst (λ a. AreCountsOfAll b.library a all_counts') (sym step) (rows_left b.library e pid p all_counts' are)) still
    (kept.given ∙ sym (serials_left b.library e pid p) ∙ ap (λ (a : Eager). a.serials) (sym step))
    (all_current stay b x left_stays kept.legal follows (no_fault_left pid what calls gone) before beyond current)
    (subst (λ rs. AllByRecursion (IsLaid rs) left_stays) stood laid)
  where
    new : (what : Leaving) → IsNew b.history (asked_by what)
    new (ways.One m) = tt
    new ways.All = tt
