-- The residences of a legal history.
use Rattle.std.proofs.Common.{◌≡◌, ℕ, zero, suc, ◌<◌, ◌==◌, Bool, true, false, cond, List, [], ◌∷◌, length, get_or, map, Some, refl, sym, ◌∙◌, ap, arith}
use Rattle.std.specs.Prelude.{find, is_some}
use Rattle.std.specs.List.{AllByRecursion}
use Rattle.std.proofs.lemmas.List.{get_or-map, length-map}
use Rattle.std.proofs.lemmas.Bool.{eq-eqb}
use Rattle.std.proofs.lemmas.List.Folds.{Any-from_list_any}
use Rattle.load_model.specs.Modules.{Library}
use Rattle.load_model.specs.State.{Residence, Eager, pids, reaches, is_reached, residence_of}
use Rattle.load_model.specs.Histories.{state_after}
use Rattle.load_model.specs.Fitness.{ReachedIsFit}
use Rattle.load_model.specs.Laws.{ReachedIsResident}
use Rattle.load_model.specs.ResidenceBases.{BasesStand, Stands}
use Rattle.load_model.specs.Serials.{Rise, SerialsRise}
use Rattle.residence_table.specs.Residences.{unwritten}
use Rattle.residence_table.specs.Placing.{AreResidencesOf}
use Rattle.residence_table.specs.Laws.{LegalResidencesStand}

-- ---- serial numbers that rise

rise_above : (low high : ℕ) (rs : List Residence) (i : ℕ) (d : Residence) → Rise low (map (λ (r : Residence). r.serial) rs) high → i < length rs → low < (get_or rs i d).serial
rise_above low high [] i d rise below = absurd (omega (arith, below))
rise_above low high (r ∷ rs) zero d rise below = rise.0
rise_above low high (r ∷ rs) (suc i) d rise below = (let later = rise_above r.serial high rs i d rise.1 (omega (arith, below)) in omega (arith, rise.0, later))

pub rise_apart : (low high : ℕ) (rs : List Residence) → Rise low (map (λ (r : Residence). r.serial) rs) high → (i j : ℕ) (d : Residence) → i < j → j < length rs →
    (get_or rs i d).serial ≡ (get_or rs j d).serial → ⊥
rise_apart low high [] rise i j d before below same = absurd (omega (arith, below))
rise_apart low high (r ∷ rs) rise i zero d before below same = absurd (omega (arith, before))
rise_apart low high (r ∷ rs) rise zero (suc j) d before below same = (let above = rise_above r.serial high rs j d rise.1 (omega (arith, below)) in absurd (omega (arith, above, same)))
rise_apart low high (r ∷ rs) rise (suc i) (suc j) d before below same = rise_apart r.serial high rs rise.1 i j d (omega (arith, before)) (omega (arith, below)) same

-- ---- modules of the library

found_at : {X : Type 0} (p : X → Bool) (xs : List X) (i : ℕ) (d : X) → i < length xs → p (get_or xs i d) ≡ true → is_some (find p xs) ≡ true
found_at p [] i d below is = absurd (omega (arith, below))
found_at {X} p (x ∷ xs) zero d below is = ap (λ b. is_some (cond b (Some x) (find p xs))) is
found_at {X} p (x ∷ xs) (suc i) d below is = by_test (p x) (found_at p xs i d (omega (arith, below)) is)
  where
    by_test : (b : Bool) → is_some (find p xs) ≡ true → is_some (cond b (Some x) (find p xs)) ≡ true
    by_test true later = refl
    by_test false later = later

resident_at : (e : Eager) (i : ℕ) (d : Residence) → i < length e.residences → is_some (residence_of e (get_or e.residences i d).«module») ≡ true
unfolding residence_of
resident_at e i d below =
    found_at (λ (r : Residence). r.«module» == (get_or e.residences i d).«module») e.residences i d below (eq-eqb (get_or e.residences i d).«module» (get_or e.residences i d).«module» refl)

-- some process that reaches it
who_reaches : (lib : Library) (e : Eager) (m : ℕ) → is_reached lib e m ≡ true → (pid : ℕ) × (reaches lib (e.processes pid) m ≡ true)
unfolding is_reached
who_reaches lib e m is = (let some = Any-from_list_any (λ pid. reaches lib (e.processes pid) m) pids is in (some.1, some.4))

-- ---- whatever was written to them

stand_unwritten : (lib : Library) (rs : List Residence) → AreResidencesOf lib rs → AreResidencesOf lib (map unwritten rs)
stand_unwritten lib rs stand = record {
  within = λ i d below.
      let inside : i < length rs = omega (arith, below, length-map rs unwritten) in
      let named = ap (λ (r : Residence). r.«module») (get_or-map unwritten rs i d d inside) in
      let within = stand.within i d inside in
      omega (arith, named, within);
  bases = each rs stand.bases;
  own = λ i j d before below same.
      let inside : j < length rs = omega (arith, below, length-map rs unwritten) in
      let first = ap (λ (r : Residence). r.serial) (get_or-map unwritten rs i d d (omega (arith, before, inside))) in
      let second = ap (λ (r : Residence). r.serial) (get_or-map unwritten rs j d d inside) in
      stand.own i j d before inside (sym first ∙ same ∙ second);
}
  where
    each : (rs : List Residence) → AllByRecursion (λ (r : Residence). Stands lib r.«module» r.bases) rs → AllByRecursion (λ (r : Residence). Stands lib r.«module» r.bases) (map unwritten rs)
    each [] all = tt
    each (r ∷ rs) all = (all.0, each rs all.1)

pub legal_stand : ReachedIsResident → ReachedIsFit → BasesStand → SerialsRise → LegalResidencesStand
legal_stand resident fit stand rise lib failing contents h legal = stand_unwritten lib (state_after lib failing h).residences (record {
  within = λ i d below.
      let e = state_after lib failing h in
      let m = (get_or e.residences i d).«module» in
      let reached = sym (resident lib failing contents h legal (get_or (state_after lib failing h).residences i d).«module») ∙ resident_at (state_after lib failing h) i d below in
      let who = who_reaches lib (state_after lib failing h) (get_or (state_after lib failing h).residences i d).«module» reached in
      (fit lib failing contents h legal who.0 (get_or (state_after lib failing h).residences i d).«module» who.1).0;
  bases = stand lib failing contents h legal;
  own = λ i j d before below. rise_apart 0 (state_after lib failing h).serials (state_after lib failing h).residences (rise lib failing contents h legal) i j d before below;
})
