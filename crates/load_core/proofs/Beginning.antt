-- Residences that begin with a start or a load.
use Rattle.std.proofs.Common.{◌≡◌, ◌∷◌, ◌++◌, [], ℕ, suc, ◌+◌, ◌<◌, ◌≤◌, ◌==◌, ◌&&◌, ◌||◌, Bool, true, false, not, List, length, map, filter, find, position, cond, get_or, Option, Some, None, option_map, is_some, is_none, Result, Ok, Err, refl, sym, ◌∙◌, ap, subst, arith}
use Rattle.std.specs.Prelude.{All}
use Rattle.std.specs.List.{AllByRecursion, list_any, range_with_len}
use Rattle.std.proofs.lemmas.Bool.{eq-eqb, eqb-true}
use Rattle.std.proofs.lemmas.List.Folds.{list_any_at}
use Rattle.std.proofs.lemmas.List.{get_or_default}
use Rattle.std.proofs.lemmas.List.FromFn.{get_or-map-range_with_len}
use Rattle.lx_types.proofs.Lists.{all_weaker, any_map, map_agree, all_front, all_joined}
use Rattle.lx_model.specs.Library.{module_of}
use Rattle.lx_types.specs.declared.object.PageId.{PageId}
use Rattle.lx_types.specs.declared.bases.Bases.{Bases}
use Rattle.lx_types.specs.declared.bases.ModBases.{ModBases}
use Rattle.lx_model.specs.Laws.{OrderIsInLibrary}
use Rattle.lx_model.specs.Reach.{Order}
use Rattle.page_fix.proofs.Places.{position_cons}
use Rattle.page_fix.specs.Rights.{PageRights}
use Rattle.page_fix.specs.Fixable.{fixable_pages}
use Rattle.page_frames.specs.Residences.{ResidenceFor}
use Rattle.base_pick.specs.declared.occupied.AddressRange.{AddressRange}
use Rattle.base_pick.specs.declared.picking.ArenaFull.{ArenaFull}
use Rattle.load_model.specs.declared.deeds.How.{How}
use Rattle.load_model.specs.declared.deeds.Call.{Call}
use Rattle.load_model.specs.declared.deeds.Fresh.{Fresh}
use Rattle.load_model.specs.declared.deeds.Deed.TheVariants as deeds
use Rattle.load_model.specs.declared.deeds.Entry.{Entry}
use Rattle.load_model.specs.Modules.{Library, fixed_bytes, bases_for, order_of}
use Rattle.load_model.specs.State.{Residence, Eager, with_process, pids, is_among, residence_of, serial_of, bases_of}
use Rattle.load_model.specs.Entering.{NoRoom, with_fresh, placed_from, placing, ranges_of, resident_ranges, joined, newcomers, residence_from, with_fresh_residences, after_entering}
use Rattle.load_model.specs.Initialising.{enter_deed}
use Rattle.load_model.specs.Memory.{bases_seen}
use Rattle.load_model.specs.declared.commands.Ask.TheVariants.{Enter as enter}
use Rattle.load_model.specs.Asks.{after_deed}
use Rattle.load_model.specs.Histories.{after_entry, has_fault}
use Rattle.load_model.specs.Alike.{BasesSeenStay}
use Rattle.load_model.specs.ProcessCounts.{ProcessCounts}
use Rattle.load_model.proofs.Orders.{among_contains}
use Rattle.load_model.proofs.Bytes.{map_member}
use Rattle.load_model.proofs.Among.{some_find, any_append, among_filter}
use Rattle.load_model.proofs.GivenSerials.{faults_are_given}
use Rattle.load_model.proofs.Serials.{serials_rise}
use Rattle.mod_refs.specs.AllCounts.{AreCountsOfAll}
use Rattle.mod_refs.specs.Changes.{with_entered}
use Rattle.write_overlay.specs.Layered.{Pages, Lays}
use Rattle.residence_table.specs.Residences.{residences, unwritten, unwritten_residences, is_of_module}
use Rattle.residence_table.proofs.Resident.{find_map, standing_with, residence_begun, serial_written, bases_written}
use Rattle.load_core.specs.BoardState.{BoardState, state_of, IsLegal, MayAsk, with_entry}
use Rattle.load_core.specs.Kept.{Keeps, IsCurrent, IsCurrentRow, IsLaid, rights_left, shown_by}
use Rattle.load_core.specs.Told.{residence_shown}
use Rattle.load_core.specs.Enters.{IsNew, AreNew, HaveBegun, AreBasesAfter, shared_of, bases_with, bases_at, nowhere}
use Rattle.load_core.specs.declared.residence_parts.ResidenceParts.{ResidenceParts}
use Rattle.load_core.proofs.Arriving.{entry_with, enters_follow, placed_modules}
use Rattle.load_core.proofs.Keeping.{Stands, faults_same, FollowsIn, NoFaults, after, all_standing, rising_kept, all_current, keeps_more}
use Rattle.load_core.proofs.FoundBySerial.{Rising, found_so}

-- ---- what is found

pub find_left : {X : Type 0} (f : X → Bool) (xs ys : List X) (x : X) → find f xs ≡ Some x → find f (xs ++ ys) ≡ Some x
find_left f [] ys x is = cc
find_left f (y ∷ xs) ys x is = step (f y) is (find_left f xs ys x)
  where
    step : (b : Bool) → cond b (Some y) (find f xs) ≡ Some x → (find f xs ≡ Some x → find f (xs ++ ys) ≡ Some x) → cond b (Some y) (find f (xs ++ ys)) ≡ Some x
    step true is later = is
    step false is later = later is

pub find_right : {X : Type 0} (f : X → Bool) (xs ys : List X) → find f xs ≡ None → find f (xs ++ ys) ≡ find f ys
find_right f [] ys is = refl
find_right f (y ∷ xs) ys is = step (f y) is (find_right f xs ys)
  where
    step : (b : Bool) → cond b (Some y) (find f xs) ≡ None → (find f xs ≡ None → find f (xs ++ ys) ≡ find f ys) → cond b (Some y) (find f (xs ++ ys)) ≡ find f ys
    step true is later = cc
    step false is later = later is

pub place_left : {X : Type 0} (p : X → Bool) (xs ys : List X) (i : ℕ) → position p xs ≡ Some i → position p (xs ++ ys) ≡ Some i
place_left p [] ys i is = cc
place_left p (x ∷ xs) ys i is = position_cons p x (xs ++ ys) ∙ step (p x) (position p xs) (sym (position_cons p x xs) ∙ is) (place_left p xs ys)
  where
    step : (b : Bool) (o : Option ℕ) → cond b (Some 0) (option_map suc o) ≡ Some i → ((j : ℕ) → o ≡ Some j → position p (xs ++ ys) ≡ Some j) →
        cond b (Some 0) (option_map suc (position p (xs ++ ys))) ≡ Some i
    step true o is later = is
    step false None is later = cc
    step false (Some j) is later = ap (option_map suc) (later j refl) ∙ is

pub place_right : {X : Type 0} (p : X → Bool) (xs ys : List X) (i : ℕ) → position p xs ≡ None → position p ys ≡ Some i → position p (xs ++ ys) ≡ Some (length xs + i)
place_right p [] ys i none is = is ∙ ap Some (omega arith)
place_right p (x ∷ xs) ys i none is = position_cons p x (xs ++ ys) ∙ step (p x) (position p xs) (sym (position_cons p x xs) ∙ none) (λ later. place_right p xs ys i later is)
  where
    step : (b : Bool) (o : Option ℕ) → cond b (Some 0) (option_map suc o) ≡ None → (o ≡ None → position p (xs ++ ys) ≡ Some (length xs + i)) →
        cond b (Some 0) (option_map suc (position p (xs ++ ys))) ≡ Some (length (x ∷ xs) + i)
    step true o none later = cc
    step false None none later = ap (option_map suc) (later refl) ∙ ap Some (omega arith)
    step false (Some j) none later = cc

-- ---- residences that begin

begun_residences : (b : BoardState) (all fs : List Fresh) (ss : List (Residence × ResidenceParts)) → HaveBegun b all fs ss → residences ss ≡ map residence_from fs
begun_residences b all [] [] begun = refl
begun_residences b all [] (s ∷ ss) begun = absurd begun
begun_residences b all (f ∷ fs) [] begun = absurd begun
begun_residences b all (f ∷ fs) (s ∷ ss) begun = ap (λ r. r ∷ residences ss) begun.0.residence ∙ ap (λ rs. residence_from f ∷ rs) (begun_residences b all fs ss begun.1)

-- they take numbers above those that were given
placed_above : (lib : Library) (ms : List ℕ) (serials : ℕ) (occupied : List AddressRange) (fresh : List Fresh) → placed_from lib serials occupied ms ≡ Ok fresh → AllByRecursion (λ (f : Fresh). serials < f.serial) fresh
unfolding placed_from
placed_above lib [] serials occupied fresh is = (let same : [] ≡ fresh = cc in subst (AllByRecursion (λ (f : Fresh). serials < f.serial)) same tt)
placed_above lib (m ∷ ms) serials occupied fresh is = step (bases_for lib occupied m) is (λ bases xs e. placed_above lib ms (suc serials) (occupied ++ ranges_of lib m bases) xs e)
  where
    inner : (bases : List ℕ) (r : Result (List Fresh) NoRoom) → with_fresh (record { serial = suc serials; «module» = m; bases = bases }) r ≡ Ok fresh →
        ((xs : List Fresh) → r ≡ Ok xs → AllByRecursion (λ (f : Fresh). suc serials < f.serial) xs) → AllByRecursion (λ (f : Fresh). serials < f.serial) fresh
    inner bases (Err x) is each = cc
    inner bases (Ok xs) is each =
        let same : record { serial = suc serials; «module» = m; bases = bases } ∷ xs ≡ fresh = cc in
        let first : serials < suc serials = omega arith in
        subst (AllByRecursion (λ (f : Fresh). serials < f.serial)) same
        (first, all_weaker (λ (f : Fresh). suc serials < f.serial) (λ (f : Fresh). serials < f.serial) (λ f h. let more : suc serials < f.serial = h in omega (arith, more)) xs (each xs refl))

    step : (r : Result (List ℕ) ArenaFull) →
        elim r as (λ _. Result (List Fresh) NoRoom) [
          | Err x ↦ Err (record { of = m; object = x })
          | Ok bases ↦ with_fresh (record { serial = suc serials; «module» = m; bases = bases }) (placed_from lib (suc serials) (occupied ++ ranges_of lib m bases) ms)
        ] ≡ Ok fresh →
        ((bases : List ℕ) (xs : List Fresh) → placed_from lib (suc serials) (occupied ++ ranges_of lib m bases) ms ≡ Ok xs → AllByRecursion (λ (f : Fresh). suc serials < f.serial) xs) →
        AllByRecursion (λ (f : Fresh). serials < f.serial) fresh
    step (Err x) is each = cc
    step (Ok bases) is each = inner bases (placed_from lib (suc serials) (occupied ++ ranges_of lib m bases) ms) is (each bases)

placing_above : (lib : Library) (e : Eager) (pid m : ℕ) (fresh : List Fresh) → placing lib e pid m ≡ Ok fresh → AllByRecursion (λ (f : Fresh). e.serials < f.serial) fresh
unfolding placing
placing_above lib e pid m fresh is = placed_above lib (newcomers lib e pid m) e.serials (resident_ranges lib e) fresh is

-- ---- after the entry

abbrev pub entered_entry : ℕ → How → ℕ → List Fresh → List Call → Entry
entered_entry pid how m fresh calls = entry_with pid (deeds.Enter how m fresh calls)

after_enter : (b : BoardState) (pid : ℕ) (how : How) (m : ℕ) (fresh : List Fresh) (calls : List Call) → after_entry b.library (state_of b) (entered_entry pid how m fresh calls) ≡ after_entering b.library (state_of b) pid how m fresh
unfolding after_deed
after_enter b pid how m fresh calls = refl

entering_residences : (lib : Library) (e : Eager) (pid : ℕ) (how : How) (m : ℕ) (fresh : List Fresh) → (after_entering lib e pid how m fresh).residences ≡ e.residences ++ map residence_from fresh
unfolding after_entering with_process
entering_residences lib e pid how m fresh = refl

-- they stand after those that stood
entering_standing : (lib : Library) (e : Eager) (pid : ℕ) (how : How) (m : ℕ) (fresh : List Fresh) → unwritten_residences (after_entering lib e pid how m fresh) ≡ unwritten_residences e ++ map residence_from fresh
entering_standing lib e pid how m fresh = ap (map unwritten) (entering_residences lib e pid how m fresh) ∙ standing_with e.residences fresh

entering_serials : (lib : Library) (e : Eager) (pid : ℕ) (how : How) (m : ℕ) (fresh : List Fresh) → (after_entering lib e pid how m fresh).serials ≡ e.serials + length fresh
unfolding after_entering with_process
entering_serials lib e pid how m fresh = refl

entering_bases : (lib : Library) (e : Eager) (pid : ℕ) (how : How) (m : ℕ) (fresh : List Fresh) (k : ℕ) → bases_seen lib (after_entering lib e pid how m fresh) k ≡ bases_seen lib (with_fresh_residences e fresh) k
unfolding after_entering with_process bases_seen residence_of
entering_bases lib e pid how m fresh k = refl

entering_rows : (lib : Library) (e : Eager) (pid : ℕ) (how : How) (m : ℕ) (fresh : List Fresh) (all_counts : List ProcessCounts) → AreCountsOfAll lib (with_entered lib e pid how m) all_counts → AreCountsOfAll lib (after_entering lib e pid how m fresh) all_counts
unfolding after_entering with_process
entering_rows lib e pid how m fresh all_counts are = record { each = are.each }

no_enter_fault : (pid : ℕ) (how : How) (m : ℕ) (fresh : List Fresh) (calls : List Call) → NoFaults (entered_entry pid how m fresh calls)
no_enter_fault pid how m fresh calls s p = refl

all_pass : (ps : List PageId) (f : PageId → Bool) → ((p : PageId) → f p ≡ true) → filter f ps ≡ ps
all_pass [] f each = refl
all_pass (p ∷ ps) f each = ap (λ c. cond c (p ∷ filter f ps) (filter f ps)) (each p) ∙ ap (λ qs. p ∷ qs) (all_pass ps f each)

-- a page of a residence that begins had no fault
new_rights : (b : BoardState) (x : Entry) (f : Fresh) → IsLegal b → NoFaults x → (state_of b).serials < f.serial →
    rights_left (with_entry b x) (residence_from f) ≡ record { serial = f.serial; left = fixable_pages (module_of b.library f.«module») }
new_rights b x f legal none above =
    let R : List PageId → PageRights = λ left. record { serial = f.serial; left = left } in
    ap R (all_pass (fixable_pages (module_of b.library f.«module»)) (λ p. not (has_fault (b.history ++ x ∷ []) f.serial p)) (λ p. ap not (faults_same b.history x f.serial (none f.serial) p ∙ fresh_none p (has_fault b.history f.serial p) refl)))
  where
    fresh_none : (p : PageId) (c : Bool) → has_fault b.history f.serial p ≡ c → c ≡ false
    fresh_none p false is = refl
    fresh_none p true is =
        let below = faults_are_given b.library b.failing (fixed_bytes b.library) b.history f.serial p legal is in
        absurd (omega (arith, above, below))

new_current : (b : BoardState) (pid : ℕ) (how : How) (m : ℕ) (fresh : List Fresh) (calls : List Call) → IsLegal b → (fs : List Fresh) (ss : List (Residence × ResidenceParts)) → HaveBegun b fresh fs ss →
    AllByRecursion (λ (f : Fresh). (state_of b).serials < f.serial) fs → AllByRecursion (IsCurrentRow (with_entry b (entered_entry pid how m fresh calls))) ss
new_current b pid how m fresh calls legal [] [] begun above = tt
new_current b pid how m fresh calls legal [] (s ∷ ss) begun above = absurd begun
new_current b pid how m fresh calls legal (f ∷ fs) [] begun above = absurd begun
new_current b pid how m fresh calls legal (f ∷ fs) (s ∷ ss) begun above =
    let x : Entry = entered_entry pid how m fresh calls in
    let c : BoardState = with_entry b x in
    let C : Residence → Type 0 = λ r. IsCurrent c r s.1.rights (shown_by s.1) in
    let bases : bases_seen b.library (state_of c) f.«module» ≡ bases_seen b.library (with_fresh_residences (state_of b) fresh) f.«module» =
    ap (λ e. bases_seen b.library e f.«module») (after b x ∙ after_enter b pid how m fresh calls) ∙ entering_bases b.library (state_of b) pid how m fresh f.«module»
    in
    let now : C (residence_from f) = record {
      left = begun.0.rights ∙ sym (new_rights b x f legal (no_enter_fault pid how m fresh calls) above.0);
      shared = begun.0.shared ∙ ap (λ bs. record { library = b.library; serial = f.serial; «module» = f.«module»; bases = bs; keeper = b.keeper }) (sym bases);
    }
    in
    (subst C (sym begun.0.residence) now, new_current b pid how m fresh calls legal fs ss begun.1 above.1)

residences_joined : (xs ys : List (Residence × ResidenceParts)) → residences (xs ++ ys) ≡ residences xs ++ residences ys
residences_joined [] ys = refl
residences_joined (x ∷ xs) ys = ap (λ rs. x.0 ∷ rs) (residences_joined xs ys)

-- ---- what was written

-- residences have serial numbers that were given
low_high : (low high : ℕ) (rs : List Residence) → Rising low rs high → low ≤ high
low_high low high [] rise = rise
low_high low high (r ∷ rs) rise = (let later : r.serial ≤ high = low_high r.serial high rs rise.1 in let first : low < r.serial = rise.0 in omega (arith, later, first))

all_below : (low high : ℕ) (rs : List Residence) → Rising low rs high → AllByRecursion (λ r. r.serial ≤ high) rs
all_below low high [] rise = tt
all_below low high (r ∷ rs) rise = (low_high r.serial high rs rise.1, all_below r.serial high rs rise.1)

-- a residence that begins is another than one that stood
apart_above : (serials n : ℕ) (layers : Pages) (fs : List Fresh) → n ≤ serials → AllByRecursion (λ (f : Fresh). serials < f.serial) fs →
    AllByRecursion (λ r. r.serial ≡ n → Lays layers r.writes) (map residence_from fs)
apart_above serials n layers [] low above = tt
apart_above serials n layers (f ∷ fs) low above =
    (λ e. let high : serials < f.serial = above.0 in let same : f.serial ≡ n = e in absurd (omega (arith, low, high, same)), apart_above serials n layers fs low above.1)

old_laid : (serials : ℕ) (rs : List Residence) (fresh : List Fresh) → AllByRecursion (λ (f : Fresh). serials < f.serial) fresh → (table : List (Residence × ResidenceParts)) →
    AllByRecursion (λ r. r.serial ≤ serials) (residences table) → AllByRecursion (IsLaid rs) table → AllByRecursion (IsLaid (rs ++ map residence_from fresh)) table
old_laid serials rs fresh above [] low laid = tt
old_laid serials rs fresh above (s ∷ table) low laid =
    (all_joined (λ r. r.serial ≡ s.0.serial → Lays s.1.layers r.writes) rs (map residence_from fresh) laid.0 (apart_above serials s.0.serial s.1.layers fresh low.0 above), old_laid serials rs fresh above table low.1 laid.1)

-- nothing was written to those that begin
fresh_laid : (layers : Pages) (n : ℕ) (fs : List Fresh) → Lays layers [] → AllByRecursion (λ r. r.serial ≡ n → Lays layers r.writes) (map residence_from fs)
fresh_laid layers n [] lays = tt
fresh_laid layers n (f ∷ fs) lays = (λ e. lays, fresh_laid layers n fs lays)

apart_below : (serials n : ℕ) (layers : Pages) (rs : List Residence) → serials < n → AllByRecursion (λ r. r.serial ≤ serials) rs → AllByRecursion (λ r. r.serial ≡ n → Lays layers r.writes) rs
apart_below serials n layers [] high low = tt
apart_below serials n layers (r ∷ rs) high low =
    (λ e. let less : r.serial ≤ serials = low.0 in let same : r.serial ≡ n = e in absurd (omega (arith, less, high, same)), apart_below serials n layers rs high low.1)

new_laid : (b : BoardState) (all : List Fresh) (serials : ℕ) (rs : List Residence) (fresh : List Fresh) → AllByRecursion (λ r. r.serial ≤ serials) rs → (fs : List Fresh) (ss : List (Residence × ResidenceParts)) → HaveBegun b all fs ss →
    AllByRecursion (λ (f : Fresh). serials < f.serial) fs → AllByRecursion (IsLaid (rs ++ map residence_from fresh)) ss
new_laid b all serials rs fresh low [] [] begun above = tt
new_laid b all serials rs fresh low [] (s ∷ ss) begun above = absurd begun
new_laid b all serials rs fresh low (f ∷ fs) [] begun above = absurd begun
new_laid b all serials rs fresh low (f ∷ fs) (s ∷ ss) begun above =
    let numbered : s.0.serial ≡ f.serial = ap (λ (r : Residence). r.serial) begun.0.residence in
    let high : serials < s.0.serial = (let it : serials < f.serial = above.0 in omega (arith, it, numbered)) in (
      all_joined (λ r. r.serial ≡ s.0.serial → Lays s.1.layers r.writes) rs (map residence_from fresh) (apart_below serials s.0.serial s.1.layers rs high low) (fresh_laid s.1.layers s.0.serial fresh begun.0.layers),
      new_laid b all serials rs fresh low fs ss begun.1 above.1,
    )

pub keeps_entered : BasesSeenStay → (b : BoardState) (all_counts all_counts' : List ProcessCounts) (table new : List (Residence × ResidenceParts)) (serials serials' pid : ℕ) (how : How) (m : ℕ) (fresh : List Fresh) (calls : List Call) →
    Keeps b all_counts table serials → is_among pids pid ≡ true → MayAsk b pid (enter how m) → enter_deed b.library (state_of b) pid how m ≡ deeds.Enter how m fresh calls →
    placing b.library (state_of b) pid m ≡ Ok fresh → HaveBegun b fresh fresh new → AreCountsOfAll b.library (with_entered b.library (state_of b) pid how m) all_counts' →
    serials' ≡ (state_of b).serials + length fresh → Keeps (with_entry b (entered_entry pid how m fresh calls)) all_counts' (table ++ new) serials'
keeps_entered stay b all_counts all_counts' table new serials serials' pid how m fresh calls kept there may is placed begun are given =
    let x : Entry = entered_entry pid how m fresh calls in
    let e : Eager = state_of b in
    let follows : FollowsIn b x = enters_follow b pid how m (deeds.Enter how m fresh calls) there may is in
    let step = after_enter b pid how m fresh calls in
    let still : residences (table ++ new) ≡ unwritten_residences (after_entry b.library e x) =
    residences_joined table new ∙ ap (λ rs. rs ++ residences new) kept.residences_are ∙ ap (λ rs. unwritten_residences e ++ rs) (begun_residences b fresh fresh new begun)
    ∙ sym (entering_standing b.library e pid how m fresh) ∙ ap (λ (a : Eager). unwritten_residences a) (sym step)
    in
    let above = placing_above b.library e pid m fresh placed in
    let rise = serials_rise b.library b.failing (fixed_bytes b.library) b.history kept.legal in
    let beyond = all_front (λ s. Stands (state_of (with_entry b x)) s.0) table new (all_standing (state_of (with_entry b x)) (table ++ new) (still ∙ ap (λ (a : Eager). unwritten_residences a) (sym (after b x)))) in
    keeps_more b x all_counts' (table ++ new) serials' kept.legal follows (subst (λ a. AreCountsOfAll b.library a all_counts') (sym step) (entering_rows b.library e pid how m fresh all_counts' are)) still
    (given ∙ sym (entering_serials b.library e pid how m fresh) ∙ ap (λ (a : Eager). a.serials) (sym step))
    (all_joined (IsCurrentRow (with_entry b x)) table new
    (all_current stay b x table kept.legal follows (no_enter_fault pid how m fresh calls) (all_standing e table kept.residences_are) beyond kept.current)
    (new_current b pid how m fresh calls kept.legal fresh new begun above))
    (subst (λ rs. AllByRecursion (IsLaid rs) (table ++ new)) (sym (entering_residences b.library e pid how m fresh) ∙ ap (λ (a : Eager). a.residences) (sym step))
    (all_joined (IsLaid (e.residences ++ map residence_from fresh)) table new
    (old_laid e.serials e.residences fresh above table (all_below 0 e.serials (residences table) (rising_kept b all_counts table serials kept)) kept.laid)
    (new_laid b fresh e.serials e.residences fresh (all_below 0 e.serials e.residences rise) fresh new begun above)))

-- ---- what is attached

found_own : (k : ℕ) (table : List (Residence × ResidenceParts)) (s : Residence × ResidenceParts) → find (is_of_module k) table ≡ Some s → (find (λ r. r.«module» == k) (residences table) ≡ Some s.0) × (s.0.«module» ≡ k)
found_own k [] s is = cc
found_own k (t ∷ table) s is = step (t.0.«module» == k) refl is (found_own k table s)
  where
    step : (c : Bool) → (t.0.«module» == k) ≡ c → cond c (Some t) (find (is_of_module k) table) ≡ Some s →
        (find (is_of_module k) table ≡ Some s → (find (λ r. r.«module» == k) (residences table) ≡ Some s.0) × (s.0.«module» ≡ k)) →
        (cond c (Some t.0) (find (λ r. r.«module» == k) (residences table)) ≡ Some s.0) × (s.0.«module» ≡ k)
    step true at is later =
        let same : t ≡ s = cc in
        (ap (λ (y : Residence × ResidenceParts). Some y.0) same, ap (λ (y : Residence × ResidenceParts). y.0.«module») (sym same) ∙ eqb-true t.0.«module» k at)
    step false at is later = later is

-- what is shown of the module of a residence that is kept
pub shown_of : (c : BoardState) (all_counts : List ProcessCounts) (table : List (Residence × ResidenceParts)) (serials k : ℕ) → Keeps c all_counts table serials → is_some (find (is_of_module k) table) ≡ true →
    shared_of table k ≡ Some (residence_shown c.library (state_of c) c.keeper k)
unfolding residence_of
shown_of c all_counts table serials k kept some = step (find (is_of_module k) table) refl some
  where
    step : (o : Option (Residence × ResidenceParts)) → find (is_of_module k) table ≡ o → is_some o ≡ true → option_map (λ s. shown_by s.1) o ≡ Some (residence_shown c.library (state_of c) c.keeper k)
    step None is some = cc
    step (Some s) is some =
        let own = found_own k table s is in
        let current : IsCurrentRow c s = found_so (IsCurrentRow c) (is_of_module k) table s kept.current is in
        let R : ℕ → ℕ → ResidenceFor = λ n m. record { library = c.library; serial = n; «module» = m; bases = bases_seen c.library (state_of c) m; keeper = c.keeper } in
        let found : option_map unwritten (residence_of (state_of c) k) ≡ Some s.0 =
        sym (find_map (λ (r : Residence). r.«module» == k) unwritten (state_of c).residences) ∙ ap (find (λ r. r.«module» == k)) (sym kept.residences_are) ∙ own.0
        in
        ap Some (current.shared ∙ ap (R s.0.serial) own.1 ∙ ap (λ n. R n k) (ap serial_of (sym found) ∙ serial_written (residence_of (state_of c) k)))

-- ---- what is attached is found

fresh_among : (k : ℕ) (fresh : List Fresh) → list_any (λ r. r.«module» == k) (map residence_from fresh) ≡ is_among (map (λ f. f.«module») fresh) k
fresh_among k [] = refl
fresh_among k (f ∷ fs) = ap (λ c. (f.«module» == k) || c) (fresh_among k fs)

stays_any : (k : ℕ) (table : List (Residence × ResidenceParts)) → list_any (is_of_module k) table ≡ list_any (λ r. r.«module» == k) (residences table)
stays_any k [] = refl
stays_any k (s ∷ table) = ap (λ c. (s.0.«module» == k) || c) (stays_any k table)

-- a member of what is attached is resident or new
attached_found : (lib : Library) (e : Eager) (pid m : ℕ) (fresh : List Fresh) (k : ℕ) → map (λ f. f.«module») fresh ≡ newcomers lib e pid m → is_among (joined lib e pid m) k ≡ true →
    list_any (λ r. r.«module» == k) (e.residences ++ map residence_from fresh) ≡ true
unfolding newcomers residence_of
attached_found lib e pid m fresh k new member =
    any_append (λ r. r.«module» == k) e.residences (map residence_from fresh)
    ∙ ap (λ c. list_any (λ r. r.«module» == k) e.residences || c)
    (fresh_among k fresh ∙ ap (λ ms. is_among ms k) new ∙ among_filter (λ x. is_none (residence_of e x)) (joined lib e pid m) k ∙ ap (λ c. c && is_none (residence_of e k)) member)
    ∙ either (residence_of e k) (list_any (λ r. r.«module» == k) e.residences) (some_find (λ r. r.«module» == k) e.residences)
  where
    either : (o : Option Residence) (c : Bool) → is_some o ≡ c → c || (true && is_none o) ≡ true
    either None c is = (let none : c ≡ false = sym is in ap (λ d. d || true) none)
    either (Some r) c is = (let some : c ≡ true = sym is in ap (λ d. d || false) some)

all_members : (xs : List ℕ) (P : ℕ → Type 0) → ((k : ℕ) → is_among xs k ≡ true → P k) → All P xs
all_members xs P each k d inside = each (get_or xs k d) (list_any_at (λ other. other == get_or xs k d) xs k d inside (eq-eqb (get_or xs k d) (get_or xs k d) refl))

pub all_found : (b : BoardState) (all_counts : List ProcessCounts) (table new : List (Residence × ResidenceParts)) (serials pid m : ℕ) (fresh : List Fresh) → Keeps b all_counts table serials → placing b.library (state_of b) pid m ≡ Ok fresh →
    residences new ≡ map residence_from fresh → All (λ k. is_some (find (is_of_module k) (table ++ new)) ≡ true) (joined b.library (state_of b) pid m)
all_found b all_counts table new serials pid m fresh kept placed begun =
    all_members (joined b.library (state_of b) pid m) (λ k. is_some (find (is_of_module k) (table ++ new)) ≡ true)
    (λ k member.
    some_find (is_of_module k) (table ++ new) ∙ stays_any k (table ++ new)
    ∙ ap (list_any (λ r. r.«module» == k)) (residences_joined table new ∙ ap (λ rs. rs ++ residences new) kept.residences_are ∙ ap (λ rs. unwritten_residences (state_of b) ++ rs) begun
    ∙ sym (standing_with (state_of b).residences fresh))
    ∙ any_map (λ (r : Residence). r.«module» == k) unwritten ((state_of b).residences ++ map residence_from fresh)
    ∙ attached_found b.library (state_of b) pid m fresh k (placed_modules b.library (state_of b) pid m fresh placed) member)

-- so what is handed out is what is shown of each
pub all_shown : (c : BoardState) (all_counts : List ProcessCounts) (table : List (Residence × ResidenceParts)) (serials : ℕ) (arcs : List ResidenceFor) (ks : List ℕ) → Keeps c all_counts table serials →
    All (λ k. is_some (find (is_of_module k) table) ≡ true) ks → map Some arcs ≡ map (shared_of table) ks → arcs ≡ map (residence_shown c.library (state_of c) c.keeper) ks
all_shown c all_counts table serials [] [] kept each same = refl
all_shown c all_counts table serials [] (k ∷ ks) kept each same = cc
all_shown c all_counts table serials (a ∷ arcs) [] kept each same = cc
all_shown c all_counts table serials (a ∷ arcs) (k ∷ ks) kept each same =
    let first : Some a ≡ shared_of table k = cc in
    let rest : map Some arcs ≡ map (shared_of table) ks = cc in
    let own : Some a ≡ Some (residence_shown c.library (state_of c) c.keeper k) = first ∙ shown_of c all_counts table serials k kept (each 0 0 (omega arith)) in
    let one : a ≡ residence_shown c.library (state_of c) c.keeper k = cc in
    ap (λ x. x ∷ arcs) one ∙ ap (λ xs. residence_shown c.library (state_of c) c.keeper k ∷ xs) (all_shown c all_counts table serials arcs ks kept (λ i d inside. each (suc i) d (omega arith)) rest)

-- ---- the loops

-- where modules stand by what is kept, and by the state
pub bases_with_are : (b : BoardState) (table : List (Residence × ResidenceParts)) (fresh : List Fresh) (ks : List ℕ) → residences table ≡ unwritten_residences (state_of b) →
    map (bases_with table fresh) ks ≡ map (bases_at (with_fresh_residences (state_of b) fresh)) ks
bases_with_are b table fresh ks same =
    let Own : ℕ → List ℕ → ModBases = λ k objects. record { «module» = k; objects = objects } in
    map_agree (bases_with table fresh) (bases_at (with_fresh_residences (state_of b) fresh))
    (λ k. ap (Own k) (ap bases_of (sym (residence_begun (state_of b) (residences table) fresh k (sym same))) ∙ bases_written (residence_of (with_fresh_residences (state_of b) fresh) k)))
    ks

-- the modules of an order are those of the library
pub order_within : OrderIsInLibrary → (lib : Library) (m : ℕ) → m < length lib → All (λ k. k < length lib) (Order lib m)
order_within within lib m below k d at = within lib m (get_or (Order lib m) k d) below (k, at, get_or_default (Order lib m) k (get_or (Order lib m) k d) d at)

-- the bases of an order among those of all modules
pub bases_are : OrderIsInLibrary → (b : BoardState) (fresh : List Fresh) (all : List ModBases) (m : ℕ) → m < length b.library → AreBasesAfter b fresh all →
    record { mods = map (λ k. get_or all k nowhere) (Order b.library m) } ≡ bases_seen b.library (with_fresh_residences (state_of b) fresh) m
unfolding bases_seen order_of
bases_are within b fresh all m below is =
    let All_of : List ModBases → Bases = λ mods. record { mods = mods } in
    let e = with_fresh_residences (state_of b) fresh in
    let N : List ModBases → Bases = λ mods. record { mods = map (λ k. get_or mods k nowhere) (Order b.library m) } in
    ap N is
    ∙ ap All_of
    (map_member (λ k. get_or (map (bases_at e) (range_with_len 0 (length b.library))) k nowhere) (bases_at e) (Order b.library m)
    (λ k member. get_or-map-range_with_len (bases_at e) 0 (length b.library) k k nowhere (within b.library m k below (among_contains (Order b.library m) k member)) (omega arith)))

pub new_more : (b : BoardState) (all fs : List Fresh) (ss : List (Residence × ResidenceParts)) (f : Fresh) (s : Residence × ResidenceParts) → AreNew b all fs ss → IsNew b all f s → AreNew b all (fs ++ f ∷ []) (ss ++ s ∷ [])
new_more b all [] [] f s begun one = (one, tt)
new_more b all [] (t ∷ ss) f s begun one = absurd begun
new_more b all (g ∷ fs) [] f s begun one = absurd begun
new_more b all (g ∷ fs) (t ∷ ss) f s begun one = (begun.0, new_more b all fs ss f s begun.1 one)
