-- The residences that stand, found by serial number.
use Rattle.std.proofs.Common.{◌≡◌, ℕ, zero, suc, ◌<◌, ◌==◌, Bool, true, false, cond, List, [], ◌∷◌, map, find, position, set, slice_get, Option, Some, None, option_map, refl, sym, ◌∙◌, ap, subst, arith, length, is_some}
use Rattle.std.specs.List.{AllByRecursion}
use Rattle.std.specs.Prelude.{if◌then◌else◌}
use Rattle.std.proofs.lemmas.Bool.{eq-eqb, eqb-true, ne_eqb}
use Rattle.lx_types.proofs.Lists.{all_weaker}
use Rattle.page_fix.proofs.Places.{find_by_position}
use Rattle.load_model.specs.declared.deeds.Entry.{Entry}
use Rattle.load_model.specs.Modules.{Library, Held, fixed_bytes}
use Rattle.load_model.specs.State.{Residence, Failing, Eager, reaches, residence_of, attached_residence}
use Rattle.load_model.specs.Asks.{is_serial, is_attached}
use Rattle.load_model.specs.Histories.{state_after, Legal}
use Rattle.load_model.specs.Serials.{Rise, SerialsRise}
use Rattle.load_model.proofs.Bytes.{attached_is}
use Rattle.residence_table.specs.Residences.{residences, unwritten, unwritten_residences, has_serial}
use Rattle.residence_table.proofs.Resident.{find_map}
use Rattle.load_model.specs.ProcessCounts.{ProcessCounts}
use Rattle.load_model.specs.Fitness.{ReachedIsFit}
use Rattle.load_model.proofs.Serials.{serials_rise}
use Rattle.write_overlay.specs.Layered.{Lays}
use Rattle.load_core.specs.BoardState.{BoardState, state_of, IsLegal}
use Rattle.load_core.specs.Kept.{Keeps, IsLaid}
use Rattle.load_core.specs.declared.residence_parts.ResidenceParts.{ResidenceParts}

-- ---- rising serial numbers

abbrev pub Rising : ℕ → List Residence → ℕ → Type 0
Rising low rs high = Rise low (map (λ r. r.serial) rs) high

above_lower : (low mid : ℕ) (rs : List Residence) → low < mid → AllByRecursion (λ r. mid < r.serial) rs → AllByRecursion (λ r. low < r.serial) rs
above_lower low mid rs less = all_weaker (λ r. mid < r.serial) (λ r. low < r.serial) (λ r h. let n : mid < r.serial = h in omega (arith, less, n)) rs

pub all_above : (low high : ℕ) (rs : List Residence) → Rising low rs high → AllByRecursion (λ r. low < r.serial) rs
all_above low high [] rise = tt
all_above low high (r ∷ rs) rise = (rise.0, above_lower low r.serial rs rise.0 (all_above r.serial high rs rise.1))

-- whatever was written to them
pub rising_standing : (low high : ℕ) (rs : List Residence) → Rising low rs high → Rising low (map unwritten rs) high
rising_standing low high [] rise = rise
rising_standing low high (r ∷ rs) rise = (rise.0, rising_standing r.serial high rs rise.1)

-- ---- what was found

pub found_so : {X : Type 0} (P : X → Type 0) (f : X → Bool) (xs : List X) (x : X) → AllByRecursion P xs → find f xs ≡ Some x → P x
found_so P f [] x all is = cc
found_so P f (y ∷ xs) x all is = step (f y) is (found_so P f xs x all.1)
  where
    step : (b : Bool) → cond b (Some y) (find f xs) ≡ Some x → (find f xs ≡ Some x → P x) → P x
    step true is later = (let same : y ≡ x = cc in subst P same all.0)
    step false is later = later is

pub there_so : {X : Type 0} (P : X → Type 0) (xs : List X) (i : ℕ) (x : X) → AllByRecursion P xs → slice_get xs i ≡ Some x → P x
there_so P [] i x all is = cc
there_so P (y ∷ xs) zero x all is = (let same : y ≡ x = cc in subst P same all.0)
there_so P (y ∷ xs) (suc i) x all is = there_so P xs i x all.1 is

apart : (a b : ℕ) → a < b → (a == b) ≡ false
apart a b less = ne_eqb a b (λ same. let e : a ≡ b = same in omega (arith, less, e))

pub found_by_serial : (f : Residence → Bool) (low high serial : ℕ) (rs : List Residence) (r : Residence) → Rising low rs high → find f rs ≡ Some r → r.serial ≡ serial →
    find (λ x. x.serial == serial) rs ≡ Some r
found_by_serial f low high serial [] r rise is at = cc
found_by_serial f low high serial (x ∷ rs) r rise is at = step (f x) is (found_by_serial f x.serial high serial rs r rise.1)
  where
    step : (b : Bool) → cond b (Some x) (find f rs) ≡ Some r → (find f rs ≡ Some r → r.serial ≡ serial → find (λ y. y.serial == serial) rs ≡ Some r) →
        cond (x.serial == serial) (Some x) (find (λ y. y.serial == serial) rs) ≡ Some r
    step true is later =
        let same : x ≡ r = cc in
        let own : x.serial ≡ serial = ap (λ (y : Residence). y.serial) same ∙ at in
        ap (λ b. cond b (Some x) (find (λ y. y.serial == serial) rs)) (eq-eqb x.serial serial own) ∙ ap Some same
    step false is later =
        let less : x.serial < r.serial = found_so (λ y. x.serial < y.serial) f rs r (all_above x.serial high rs rise.1) is in
        let other : (x.serial == serial) ≡ false = subst (λ n. (x.serial == n) ≡ false) at (apart x.serial r.serial less) in
        ap (λ b. cond b (Some x) (find (λ y. y.serial == serial) rs)) other ∙ later is at

module _ {T : Type 0} where
  pub found_residence : (serial : ℕ) (table : List (Residence × T)) → find (λ r. r.serial == serial) (residences table) ≡ option_map (λ s. s.0) (find (has_serial serial) table)
  found_residence serial [] = refl
  found_residence serial (s ∷ table) = step (s.0.serial == serial) (found_residence serial table)
    where
      step : (b : Bool) → find (λ r. r.serial == serial) (residences table) ≡ option_map (λ t. t.0) (find (has_serial serial) table) →
          cond b (Some s.0) (find (λ r. r.serial == serial) (residences table)) ≡ option_map (λ t. t.0) (cond b (Some s) (find (has_serial serial) table))
      step true later = refl
      step false later = later

  -- the residence of a serial number is changed
  pub all_set : (P Q : Residence × T → Type 0) (serial low high : ℕ) (table : List (Residence × T)) (i : ℕ) (s v : Residence × T) → Rising low (residences table) high →
      slice_get table i ≡ Some s → s.0.serial ≡ serial → ((t : Residence × T) → (t.0.serial == serial) ≡ false → P t → Q t) → Q v →
      AllByRecursion P table → AllByRecursion Q (set table i v)
  all_set P Q serial low high [] i s v rise is at more this all = cc
  all_set P Q serial low high (x ∷ table) zero s v rise is at more this all =
      let same : x ≡ s = cc in
      let own : x.0.serial ≡ serial = ap (λ (y : Residence × T). y.0.serial) same ∙ at in
      (this, others table (all_above x.0.serial high (residences table) rise.1) own all.1)
    where
      others : (ys : List (Residence × T)) → AllByRecursion (λ r. x.0.serial < r.serial) (residences ys) → x.0.serial ≡ serial → AllByRecursion P ys → AllByRecursion Q ys
      others [] up own all = tt
      others (y ∷ ys) up own all =
          let less : serial < y.0.serial = subst (λ n. n < y.0.serial) own up.0 in
          (more y (ne_eqb y.0.serial serial (λ e. let same : y.0.serial ≡ serial = e in omega (arith, less, same))) all.0, others ys up.1 own all.1)
  all_set P Q serial low high (x ∷ table) (suc i) s v rise is at more this all =
      let less : x.0.serial < s.0.serial = there_so (λ (t : Residence × T). x.0.serial < t.0.serial) table i s (lifted table (all_above x.0.serial high (residences table) rise.1)) is in
      (more x (subst (λ n. (x.0.serial == n) ≡ false) at (apart x.0.serial s.0.serial less)) all.0, all_set P Q serial x.0.serial high table i s v rise.1 is at more this all.1)
    where
      lifted : (ys : List (Residence × T)) → AllByRecursion (λ r. x.0.serial < r.serial) (residences ys) → AllByRecursion (λ (t : Residence × T). x.0.serial < t.0.serial) ys
      lifted [] up = tt
      lifted (y ∷ ys) up = (up.0, lifted ys up.1)

  -- A process reaches the residence of a module, whose serial number is this: it stands, and is the one that is found so.
  pub record IsAsked (lib : Library) (e : Eager) (table : List (Residence × T)) (pid serial m : ℕ) : Type 0 where
    pub residence : Residence
    pub there : attached_residence lib e pid m ≡ Some residence
    pub numbered : residence.serial ≡ serial
    pub of_module : residence.«module» ≡ m
    pub resident : find (λ r. r.«module» == m) e.residences ≡ Some residence
    pub found : option_map (λ s. s.0) (find (has_serial serial) table) ≡ Some (unwritten residence)

  asked_from : (lib : Library) (e : Eager) (table : List (Residence × T)) (pid serial m : ℕ) → Rising 0 e.residences e.serials → residences table ≡ unwritten_residences e →
      (o : Option Residence) → attached_residence lib e pid m ≡ o → is_serial serial o ≡ true → IsAsked lib e table pid serial m
  unfolding attached_residence residence_of
  asked_from lib e table pid serial m rise same None is at = cc
  asked_from lib e table pid serial m rise same (Some r) is at =
      let numbered : r.serial ≡ serial = eqb-true r.serial serial at in
      record {
        residence = r;
        there = is;
        numbered = numbered;
        of_module = (attached_is lib e pid m r is).1;
        resident = inner (reaches lib (e.processes pid) m) is;
        found =
            sym (found_residence serial table) ∙ ap (find (λ x. x.serial == serial)) same ∙ find_map (λ (x : Residence). x.serial == serial) unwritten e.residences
            ∙ ap (option_map unwritten) (found_by_serial (λ x. x.«module» == m) 0 e.serials serial e.residences r rise (inner (reaches lib (e.processes pid) m) is) numbered);
      }
    where
      inner : (b : Bool) → (if b then find (λ x. x.«module» == m) e.residences else None) ≡ Some r → find (λ x. x.«module» == m) e.residences ≡ Some r
      inner true is = is
      inner false is = cc

  pub asked : SerialsRise → (lib : Library) (failing : Failing) (contents : Held) (h : List Entry) (table : List (Residence × T)) (pid serial m : ℕ) → Legal lib failing contents h →
      residences table ≡ unwritten_residences (state_after lib failing h) → is_attached lib (state_after lib failing h) pid serial m ≡ true → IsAsked lib (state_after lib failing h) table pid serial m
  asked rise lib failing contents h table pid serial m legal same at =
      asked_from lib (state_after lib failing h) table pid serial m (rise lib failing contents h legal) same (attached_residence lib (state_after lib failing h) pid m) refl at

  -- so it is the one at the place at which it was found
  pub asked_there : (lib : Library) (e : Eager) (table : List (Residence × T)) (pid serial m : ℕ) (it : IsAsked lib e table pid serial m) (i : ℕ) (s : Residence × T) →
      position (has_serial serial) table ≡ Some i → slice_get table i ≡ Some s → s.0 ≡ unwritten it.residence
  asked_there lib e table pid serial m it i s at is =
      let found : find (has_serial serial) table ≡ Some s = find_by_position (has_serial serial) table (Some i) at ∙ is in
      let same : Some s.0 ≡ Some (unwritten it.residence) = sym (ap (option_map (λ (t : Residence × T). t.0)) found) ∙ it.found in
      cc

  pub asked_nowhere : (lib : Library) (e : Eager) (table : List (Residence × T)) (pid serial m : ℕ) → IsAsked lib e table pid serial m → position (has_serial serial) table ≡ None → ⊥
  asked_nowhere lib e table pid serial m it at =
      let found : find (has_serial serial) table ≡ None = find_by_position (has_serial serial) table None at in
      let none : None ≡ Some (unwritten it.residence) = sym (ap (option_map (λ (t : Residence × T). t.0)) found) ∙ it.found in
      cc

-- ---- the residence of a serial number that a process reaches, in the table

module _ (b : BoardState) (all_counts : List ProcessCounts) (table : List (Residence × ResidenceParts)) (serials pid serial m : ℕ) (kept : Keeps b all_counts table serials) (attached : is_attached b.library (state_of b) pid serial m ≡ true) where
  pub asked_at : IsAsked b.library (state_of b) table pid serial m
  asked_at = asked serials_rise b.library b.failing (fixed_bytes b.library) b.history table pid serial m kept.legal kept.residences_are attached

  pub place_found : is_some (position (has_serial serial) table) ≡ true
  place_found = step (position (has_serial serial) table) refl
    where
      step : (o : Option ℕ) → position (has_serial serial) table ≡ o → is_some o ≡ true
      step (Some place) is = refl
      step None is = absurd (asked_nowhere b.library (state_of b) table pid serial m asked_at is)

  module _ (place : ℕ) (s : Residence × ResidenceParts) (at : position (has_serial serial) table ≡ Some place) (there : slice_get table place ≡ Some s) where
    own : s.0 ≡ unwritten asked_at.residence
    own = asked_there b.library (state_of b) table pid serial m asked_at place s at there

    pub module_there : s.0.«module» ≡ m
    module_there = ap (λ (r : Residence). r.«module») own ∙ asked_at.of_module

    pub serial_there : s.0.serial ≡ serial
    serial_there = ap (λ (r : Residence). r.serial) own ∙ asked_at.numbered

    -- what was written to it is laid together
    pub laid_there : Lays s.1.layers asked_at.residence.writes
    laid_there =
        found_so (λ r. r.serial ≡ s.0.serial → Lays s.1.layers r.writes) (λ r. r.«module» == m) (state_of b).residences asked_at.residence
        (there_so (IsLaid (state_of b).residences) table place s kept.laid there) asked_at.resident (asked_at.numbered ∙ sym serial_there)

    pub module_within : ReachedIsFit → s.0.«module» < length b.library
    module_within fit =
        let reached = (attached_is b.library (state_of b) pid m asked_at.residence asked_at.there).0 in
        subst (λ k. k < length b.library) (sym module_there) (fit b.library b.failing (fixed_bytes b.library) b.history kept.legal pid m reached).0

-- ---- a serial number is of one module

alone_are : (rs : List Residence) → residences (map (λ r. (r, tt {0})) rs) ≡ rs
alone_are [] = refl
alone_are (r ∷ rs) = ap (λ ys. r ∷ ys) (alone_are rs)

pub one_module : (b : BoardState) (pid serial m k : ℕ) → IsLegal b → is_attached b.library (state_of b) pid serial m ≡ true → is_attached b.library (state_of b) pid serial k ≡ true → m ≡ k
one_module b pid serial m k legal first second =
    let table : List (Residence × Unit {0}) = map (λ r. (r, tt {0})) (unwritten_residences (state_of b)) in
    let found : (n : ℕ) → is_attached b.library (state_of b) pid serial n ≡ true → IsAsked b.library (state_of b) table pid serial n =
    λ n at. asked serials_rise b.library b.failing (fixed_bytes b.library) b.history table pid serial n legal (alone_are (unwritten_residences (state_of b))) at
    in
    let same : Some (unwritten (found m first).residence) ≡ Some (unwritten (found k second).residence) = sym (found m first).found ∙ (found k second).found in
    let own : unwritten (found m first).residence ≡ unwritten (found k second).residence = cc in
    sym (found m first).of_module ∙ ap (λ (r : Residence). r.«module») own ∙ (found k second).of_module
