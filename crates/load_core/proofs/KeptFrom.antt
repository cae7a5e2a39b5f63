-- Residences that begin are kept, and handed out.
use Rattle.std.proofs.Common.{◌≡◌, ℕ, zero, suc, ◌≤◌, ◌==◌, Bool, true, false, cond, List, [], ◌∷◌, ◌++◌, length, map, find, position, set, slice_get, drop, Option, Some, None, option_map, refl, sym, ◌∙◌, ap, subst, arith}
use Rattle.std.specs.List.{AllByRecursion}
use Rattle.std.proofs.lemmas.Simd.{map-map}
use Rattle.page_fix.proofs.Places.{position_cons}
use Rattle.page_frames.specs.Residences.{KeptFor, ResidenceFor}
use Rattle.base_pick.specs.declared.occupied.AddressRange.{AddressRange}
use Rattle.base_pick.specs.declared.picking.ArenaFull.{ArenaFull}
use Rattle.load_model.specs.declared.deeds.Fresh.{Fresh}
use Rattle.load_model.specs.Modules.{Library, bases_for}
use Rattle.load_model.specs.State.{Residence, Eager}
use Rattle.load_model.specs.Entering.{NoRoom, with_fresh, placed_from, placing, ranges_of, resident_ranges, newcomers, residence_from}
use Rattle.residence_table.specs.Residences.{residences, is_of_module}
use Rattle.residence_table.specs.TableLending.{beside_set, with_beside}
use Rattle.load_core.specs.BoardState.{BoardState, state_of}
use Rattle.load_core.specs.Enters.{AreNew, HaveBegun, AreNumbered, IsAttached, kept_row, kept_from, frames_of, shared_of}
use Rattle.load_core.specs.declared.new_residences.Attached.{Attached}
use Rattle.load_core.specs.declared.residence_parts.ResidenceParts.{ResidenceParts}
use Rattle.std.proofs.Common.{Result, Ok, Err}

abbrev Row : Type 0
Row = Residence × ResidenceParts

-- ---- one row after the other

pub kept_next : (keeper : ℕ) (i : ℕ) (t : List Row) (s : Row) → slice_get t i ≡ Some s → kept_from keeper (suc i) (set t i (kept_row keeper s)) ≡ kept_from keeper i t
kept_next keeper i [] s is = cc
kept_next keeper zero (x ∷ xs) s is = (let same : x ≡ s = cc in ap (λ y. kept_row keeper y ∷ map (kept_row keeper) xs) (sym same))
kept_next keeper (suc i) (x ∷ xs) s is = ap (λ ys. x ∷ ys) (kept_next keeper i xs s is)

pub kept_end : (keeper : ℕ) (i : ℕ) (t : List Row) → length t ≤ i → kept_from keeper i t ≡ t
kept_end keeper zero [] over = refl
kept_end keeper zero (x ∷ xs) over = absurd (omega (arith, over))
kept_end keeper (suc i) [] over = refl
kept_end keeper (suc i) (x ∷ xs) over = ap (λ ys. x ∷ ys) (kept_end keeper i xs (omega (arith, over)))

pub kept_joined : (keeper : ℕ) (xs ys : List Row) → kept_from keeper (length xs) (xs ++ ys) ≡ xs ++ map (kept_row keeper) ys
kept_joined keeper [] ys = refl
kept_joined keeper (x ∷ xs) ys = ap (λ zs. x ∷ zs) (kept_joined keeper xs ys)

pub number_there : (given i : ℕ) (t : List Row) (s : Row) → AreNumbered given (drop i t) → slice_get t i ≡ Some s → s.1.shared.frames.serial ≡ suc given
number_there given i [] s are is = cc
number_there given zero (x ∷ xs) s are is = (let same : x ≡ s = cc in subst (λ (y : Row). y.1.shared.frames.serial ≡ suc given) same are.0)
number_there given (suc i) (x ∷ xs) s are is = number_there given i xs s are is

pub numbers_next : (given i : ℕ) (t : List Row) (s y : Row) → AreNumbered given (drop i t) → slice_get t i ≡ Some s → AreNumbered (suc given) (drop (suc i) (set t i y))
numbers_next given i [] s y are is = cc
numbers_next given zero (x ∷ xs) s y are is = are.1
numbers_next given (suc i) (x ∷ xs) s y are is = numbers_next given i xs s y are is

pub drop_joined : (xs ys : List Row) → drop (length xs) (xs ++ ys) ≡ ys
drop_joined [] ys = refl
drop_joined (x ∷ xs) ys = drop_joined xs ys

-- what a table is once the residence at a place is kept
pub kept_there : (keeper i : ℕ) (t : List Row) (s : Row) (lent : ResidenceParts) (now : KeptFor) → slice_get t i ≡ Some s → Some lent ≡ option_map (λ (r : Row). r.1) (slice_get t i) →
    now ≡ record lent.shared { keeper = keeper } → with_beside t i (record lent { shared = now }) ≡ set t i (kept_row keeper s)
kept_there keeper i t s lent now is has kept =
    let own : lent ≡ s.1 = (let it : Some lent ≡ Some s.1 = has ∙ ap (option_map (λ (r : Row). r.1)) is in cc) in
    ap (λ o. beside_set o (record lent { shared = now }) t i) is
    ∙ ap (λ (k : KeptFor). set t i (s.0, record lent { shared = k })) kept
    ∙ ap (λ (p : ResidenceParts). set t i (s.0, record p { shared = record p.shared { keeper = keeper } })) own

-- ---- those that begin

pub same_residences : (keeper : ℕ) (ss : List Row) → residences (map (kept_row keeper) ss) ≡ residences ss
same_residences keeper [] = refl
same_residences keeper (s ∷ ss) = ap (λ rs. s.0 ∷ rs) (same_residences keeper ss)

pub new_residences : (b : BoardState) (all fs : List Fresh) (ss : List Row) → AreNew b all fs ss → residences ss ≡ map residence_from fs
new_residences b all [] [] new = refl
new_residences b all [] (s ∷ ss) new = absurd new
new_residences b all (f ∷ fs) [] new = absurd new
new_residences b all (f ∷ fs) (s ∷ ss) new = ap (λ r. r ∷ residences ss) new.0.residence ∙ ap (λ rs. residence_from f ∷ rs) (new_residences b all fs ss new.1)

pub have_begun : (b : BoardState) (all fs : List Fresh) (ss : List Row) → AreNew b all fs ss → HaveBegun b all fs (map (kept_row b.keeper) ss)
have_begun b all [] [] new = tt
have_begun b all [] (s ∷ ss) new = absurd new
have_begun b all (f ∷ fs) [] new = absurd new
have_begun b all (f ∷ fs) (s ∷ ss) new =
    (record { residence = new.0.residence; rights = new.0.rights; shared = new.0.shared b.keeper; layers = new.0.layers }, have_begun b all fs ss new.1)

-- ---- their numbers

abbrev Numbers : ℕ → List Fresh → Type 0
Numbers given [] = Unit {0}
Numbers given (f ∷ fs) = (f.serial ≡ suc given) × Numbers (suc given) fs

placed_numbers : (lib : Library) (ms : List ℕ) (serials : ℕ) (occupied : List AddressRange) (fresh : List Fresh) → placed_from lib serials occupied ms ≡ Ok fresh → Numbers serials fresh
unfolding placed_from
placed_numbers lib [] serials occupied fresh is = (let same : [] ≡ fresh = cc in subst (Numbers serials) same tt)
placed_numbers lib (m ∷ ms) serials occupied fresh is = step (bases_for lib occupied m) is (λ bases xs e. placed_numbers lib ms (suc serials) (occupied ++ ranges_of lib m bases) xs e)
  where
    inner : (bases : List ℕ) (r : Result (List Fresh) NoRoom) → with_fresh (record { serial = suc serials; «module» = m; bases = bases }) r ≡ Ok fresh →
        ((xs : List Fresh) → r ≡ Ok xs → Numbers (suc serials) xs) → Numbers serials fresh
    inner bases (Err x) is each = cc
    inner bases (Ok xs) is each =
        let same : record { serial = suc serials; «module» = m; bases = bases } ∷ xs ≡ fresh = cc in
        subst (Numbers serials) same (refl, each xs refl)

    step : (r : Result (List ℕ) ArenaFull) →
        elim r as (λ _. Result (List Fresh) NoRoom) [
          | Err x ↦ Err (record { of = m; object = x })
          | Ok bases ↦ with_fresh (record { serial = suc serials; «module» = m; bases = bases }) (placed_from lib (suc serials) (occupied ++ ranges_of lib m bases) ms)
        ] ≡ Ok fresh →
        ((bases : List ℕ) (xs : List Fresh) → placed_from lib (suc serials) (occupied ++ ranges_of lib m bases) ms ≡ Ok xs → Numbers (suc serials) xs) → Numbers serials fresh
    step (Err x) is each = cc
    step (Ok bases) is each = inner bases (placed_from lib (suc serials) (occupied ++ ranges_of lib m bases) ms) is (each bases)

placing_numbers : (lib : Library) (e : Eager) (pid m : ℕ) (fresh : List Fresh) → placing lib e pid m ≡ Ok fresh → Numbers e.serials fresh
unfolding placing
placing_numbers lib e pid m fresh is = placed_numbers lib (newcomers lib e pid m) e.serials (resident_ranges lib e) fresh is

numbered_rows : (b : BoardState) (all : List Fresh) (given : ℕ) (fs : List Fresh) (ss : List Row) → AreNew b all fs ss → Numbers given fs → AreNumbered given ss
numbered_rows b all given [] [] new are = tt
numbered_rows b all given [] (s ∷ ss) new are = absurd new
numbered_rows b all given (f ∷ fs) [] new are = absurd new
numbered_rows b all given (f ∷ fs) (s ∷ ss) new are =
    (ap (λ (r : ResidenceFor). r.serial) (new.0.shared 0) ∙ are.0, numbered_rows b all (suc given) fs ss new.1 are.1)

pub new_numbers : (b : BoardState) (pid m : ℕ) (fresh : List Fresh) (ss : List Row) → placing b.library (state_of b) pid m ≡ Ok fresh → AreNew b fresh fresh ss → AreNumbered (state_of b).serials ss
new_numbers b pid m fresh ss placed new = numbered_rows b fresh (state_of b).serials fresh ss new (placing_numbers b.library (state_of b) pid m fresh placed)

pub new_count : (b : BoardState) (all fs : List Fresh) (ss : List Row) → AreNew b all fs ss → length ss ≡ length fs
new_count b all [] [] new = refl
new_count b all [] (s ∷ ss) new = absurd new
new_count b all (f ∷ fs) [] new = absurd new
new_count b all (f ∷ fs) (s ∷ ss) new = ap suc (new_count b all fs ss new.1)

-- ---- what is handed out

-- the frames of a residence are the same, whoever keeps it
pub same_frames : (keeper k : ℕ) (xs ys : List Row) → frames_of (xs ++ map (kept_row keeper) ys) k ≡ frames_of (xs ++ ys) k
same_frames keeper k [] [] = refl
same_frames keeper k [] (y ∷ ys) = by (y.0.«module» == k) (same_frames keeper k [] ys)
  where
    by : (b : Bool) → frames_of (map (kept_row keeper) ys) k ≡ frames_of ys k →
        option_map (λ (s : Row). s.1.shared.frames) (cond b (Some (kept_row keeper y)) (find (is_of_module k) (map (kept_row keeper) ys)))
        ≡ option_map (λ (s : Row). s.1.shared.frames) (cond b (Some y) (find (is_of_module k) ys))
    by true rest = refl
    by false rest = rest
same_frames keeper k (x ∷ xs) ys = by (x.0.«module» == k) (same_frames keeper k xs ys)
  where
    by : (b : Bool) → frames_of (xs ++ map (kept_row keeper) ys) k ≡ frames_of (xs ++ ys) k →
        option_map (λ (s : Row). s.1.shared.frames) (cond b (Some x) (find (is_of_module k) (xs ++ map (kept_row keeper) ys)))
        ≡ option_map (λ (s : Row). s.1.shared.frames) (cond b (Some x) (find (is_of_module k) (xs ++ ys)))
    by true rest = refl
    by false rest = rest

-- a residence has the same place, whoever keeps it
pub same_place : (keeper k : ℕ) (xs ys : List Row) → position (is_of_module k) (xs ++ map (kept_row keeper) ys) ≡ position (is_of_module k) (xs ++ ys)
same_place keeper k [] [] = refl
same_place keeper k [] (y ∷ ys) =
    position_cons (is_of_module k) (kept_row keeper y) (map (kept_row keeper) ys)
    ∙ ap (λ (o : Option ℕ). cond (y.0.«module» == k) (Some 0) (option_map suc o)) (same_place keeper k [] ys)
    ∙ sym (position_cons (is_of_module k) y ys)
same_place keeper k (x ∷ xs) ys =
    position_cons (is_of_module k) x (xs ++ map (kept_row keeper) ys)
    ∙ ap (λ (o : Option ℕ). cond (x.0.«module» == k) (Some 0) (option_map suc o)) (same_place keeper k xs ys)
    ∙ sym (position_cons (is_of_module k) x (xs ++ ys))

pub attached_kept : (keeper : ℕ) (xs ys : List Row) (held : List Attached) → AllByRecursion (IsAttached (xs ++ ys)) held → AllByRecursion (IsAttached (xs ++ map (kept_row keeper) ys)) held
attached_kept keeper xs ys [] all = tt
attached_kept keeper xs ys (a ∷ held) all =
    ((all.0.0 ∙ sym (same_frames keeper a.«module» xs ys), same_place keeper a.«module» xs ys ∙ all.0.1), attached_kept keeper xs ys held all.1)

pub handed_modules : (table : List Row) (held : List Attached) → map (λ (a : Attached). shared_of table a.«module») held ≡ map (shared_of table) (map (λ (a : Attached). a.«module») held)
handed_modules table held = sym (map-map (shared_of table) (λ (a : Attached). a.«module») held)

-- ---- what is lent

pub row_there : (t : List Row) (i : ℕ) (lent : ResidenceParts) → Some lent ≡ option_map (λ (r : Row). r.1) (slice_get t i) → (s : Row) × (slice_get t i ≡ Some s)
row_there t i lent has = by (slice_get t i) has
  where
    by : (o : Option Row) → Some lent ≡ option_map (λ (r : Row). r.1) o → (s : Row) × (o ≡ Some s)
    by None is = cc
    by (Some s) is = (s, refl)

pub lent_is : (t : List Row) (i : ℕ) (lent : ResidenceParts) (s : Row) → Some lent ≡ option_map (λ (r : Row). r.1) (slice_get t i) → slice_get t i ≡ Some s → lent ≡ s.1
lent_is t i lent s has is = (let it : Some lent ≡ Some s.1 = has ∙ ap (option_map (λ (r : Row). r.1)) is in cc)
