-- Which residence a module has.
use Rattle.std.proofs.Common.{◌≡◌, ℕ, ◌==◌, Bool, true, false, cond, List, [], ◌∷◌, ◌++◌, map, Option, Some, None, refl, sym, ◌∙◌, ap, subst}
use Rattle.std.specs.Prelude.{find, option_map}
use Rattle.std.specs.Option.{option_or}
use Rattle.std.proofs.lemmas.List.{map-append}
use Rattle.std.proofs.lemmas.List.Folds.{find-append}
use Rattle.load_model.specs.declared.deeds.Fresh.{Fresh}
use Rattle.load_model.specs.State.{Residence, Eager, residence_of, serial_of, bases_of}
use Rattle.load_model.specs.Entering.{residence_from, with_fresh_residences}
use Rattle.residence_table.specs.declared.placement.Placement.{Placement}
use Rattle.residence_table.specs.Residences.{residences, unwritten, unwritten_residences, is_of_module}
use Rattle.residence_table.specs.Placing.{residences_with, state_with}
use Rattle.residence_table.specs.Called.{IsAt}

pub find_map : {X Y : Type 0} (p : Y → Bool) (h : X → Y) (xs : List X) → find p (map h xs) ≡ option_map h (find (λ x. p (h x)) xs)
find_map p h [] = refl
find_map p h (x ∷ xs) = by_test (p (h x)) (find_map p h xs)
  where
    by_test : (b : Bool) → find p (map h xs) ≡ option_map h (find (λ y. p (h y)) xs) → cond b (Some (h x)) (find p (map h xs)) ≡ option_map h (cond b (Some x) (find (λ y. p (h y)) xs))
    by_test true rest = refl
    by_test false rest = rest

-- by the residences of a state
pub residence_is : (e : Eager) (rs : List Residence) (m : ℕ) → unwritten_residences e ≡ rs → option_map unwritten (residence_of e m) ≡ residence_of (state_with rs) m
unfolding residence_of
residence_is e rs m same = sym (find_map (λ (r : Residence). r.«module» == m) unwritten e.residences) ∙ ap (find (λ (r : Residence). r.«module» == m)) same

pub residence_in_table : {T : Type 0} (rows : List (Residence × T)) (m : ℕ) → residence_of (state_with (residences rows)) m ≡ option_map (λ s. s.0) (find (is_of_module m) rows)
unfolding residence_of
residence_in_table {T} rows m = find_map (λ (r : Residence). r.«module» == m) (λ (s : Residence × T). s.0) rows

-- once others have begun
pub residence_with : {T : Type 0} (rows : List (Residence × T)) (fresh : List Fresh) (m : ℕ) →
    residence_of (state_with (residences_with rows fresh)) m ≡
    option_or (option_map (λ s. s.0) (find (is_of_module m) rows)) (option_map residence_from (find (λ (f : Fresh). f.«module» == m) fresh))
unfolding residence_of
residence_with {T} rows fresh m =
    find-append (λ (r : Residence). r.«module» == m) (residences rows) (map residence_from fresh)
    ∙ ap (λ o. option_or o (find (λ (r : Residence). r.«module» == m) (map residence_from fresh))) (find_map (λ (r : Residence). r.«module» == m) (λ (s : Residence × T). s.0) rows)
    ∙ ap (option_or (option_map (λ (s : Residence × T). s.0) (find (is_of_module m) rows))) (find_map (λ (r : Residence). r.«module» == m) residence_from fresh)

-- nothing was written to residences that begin
fresh_unwritten : (fresh : List Fresh) → map unwritten (map residence_from fresh) ≡ map residence_from fresh
fresh_unwritten [] = refl
fresh_unwritten (f ∷ fs) = ap (λ rs. residence_from f ∷ rs) (fresh_unwritten fs)

pub standing_with : (rs : List Residence) (fresh : List Fresh) → map unwritten (rs ++ map residence_from fresh) ≡ map unwritten rs ++ map residence_from fresh
standing_with rs fresh = map-append unwritten rs (map residence_from fresh) ∙ ap (λ xs. map unwritten rs ++ xs) (fresh_unwritten fresh)

pub residence_begun : (e : Eager) (rs : List Residence) (fresh : List Fresh) (m : ℕ) → unwritten_residences e ≡ rs →
    option_map unwritten (residence_of (with_fresh_residences e fresh) m) ≡ residence_of (state_with (rs ++ map residence_from fresh)) m
residence_begun e rs fresh m same =
    residence_is (with_fresh_residences e fresh) (rs ++ map residence_from fresh) m (standing_with e.residences fresh ∙ ap (λ xs. xs ++ map residence_from fresh) same)

-- ---- whatever was written to it

pub serial_written : (r : Option Residence) → serial_of (option_map unwritten r) ≡ serial_of r
serial_written None = refl
serial_written (Some r) = refl

pub bases_written : (r : Option Residence) → bases_of (option_map unwritten r) ≡ bases_of r
bases_written None = refl
bases_written (Some r) = refl

pub at_written : (at : Placement) (r : Option Residence) → IsAt at (option_map unwritten r) → IsAt at r
at_written at r is = record { serial = is.serial ∙ serial_written r; bases = is.bases ∙ bases_written r }

-- ---- where it is

pub at_stay : {T : Type 0} (rows : List (Residence × T)) (fresh : List Fresh) (m : ℕ) (at : Placement) (s : Residence × T) → find (is_of_module m) rows ≡ Some s →
    at.serial ≡ s.0.serial → at.bases.now ≡ s.0.bases → IsAt at (residence_of (state_with (residences_with rows fresh)) m)
at_stay {T} rows fresh m at s found serial bases =
    let is : residence_of (state_with (residences_with rows fresh)) m ≡ Some s.0 =
    residence_with rows fresh m ∙ ap (λ o. option_or (option_map (λ (x : Residence × T). x.0) o) (option_map residence_from (find (λ (f : Fresh). f.«module» == m) fresh))) found
    in
    subst (IsAt at) (sym is) (record { serial = serial; bases = bases })

pub at_beginning : {T : Type 0} (rows : List (Residence × T)) (fresh : List Fresh) (m : ℕ) (at : Placement) → find (is_of_module m) rows ≡ None →
    IsAt at (option_map residence_from (find (λ (f : Fresh). f.«module» == m) fresh)) → IsAt at (residence_of (state_with (residences_with rows fresh)) m)
at_beginning {T} rows fresh m at none is =
    let same = residence_with rows fresh m ∙ ap (λ o. option_or (option_map (λ (x : Residence × T). x.0) o) (option_map residence_from (find (λ (f : Fresh). f.«module» == m) fresh))) none in
    subst (IsAt at) (sym same) is
