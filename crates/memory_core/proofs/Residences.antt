-- Residences that begin, each of a module of its own.
use Rattle.std.specs.Prelude.{◌≡◌, ℕ, ◌==◌, Bool, false, cond, List, [], ◌∷◌, filter_map, find, map, AllPairs, Some, refl}
use Rattle.std.specs.List.{AllByRecursion, IsDistinct, cons_option}
use Rattle.std.proofs.Common.{ap, sym, ◌∙◌, arith, subst}
use Rattle.std.proofs.lemmas.Bool.{eq-eqb}
use Rattle.load_model.specs.declared.deeds.Fresh.{Fresh}
use Rattle.load_model.specs.Entering.{residence_from}
use Rattle.load_model.specs.State.{Residence}

abbrev pub is_of : ℕ → Residence → Bool
is_of k r = r.«module» == k

abbrev pub modules_of : List Fresh → List ℕ
modules_of fresh = map (λ f. f.«module») fresh

later_found : (r : Residence) (rs : List Residence) (ks : List ℕ) → AllByRecursion (λ k. (r.«module» == k) ≡ false) ks
    → filter_map (λ k. find (is_of k) (r ∷ rs)) ks ≡ filter_map (λ k. find (is_of k) rs) ks
later_found r rs [] apart = refl
later_found r rs (k ∷ ks) apart =
    ap (λ (b : Bool). cons_option (cond b (Some r) (find (is_of k) rs)) (filter_map (λ k. find (is_of k) (r ∷ rs)) ks)) apart.0
    ∙ ap (cons_option (find (is_of k) rs)) (later_found r rs ks apart.1)

pub each_found : (fresh : List Fresh) → IsDistinct (λ a b. a == b) (modules_of fresh) → filter_map (λ k. find (is_of k) (map residence_from fresh)) (modules_of fresh) ≡ map residence_from fresh
unfolding IsDistinct
each_found [] distinct = refl
each_found (f ∷ fresh) distinct =
    ap (λ (b : Bool). cons_option (cond b (Some (residence_from f)) (find (is_of f.«module») (map residence_from fresh))) (filter_map (λ k. find (is_of k) (residence_from f ∷ map residence_from fresh)) (modules_of fresh))) (eq-eqb f.«module» f.«module» refl)
    ∙ ap (λ (rs : List Residence). residence_from f ∷ rs) (later_found (residence_from f) (map residence_from fresh) (modules_of fresh) distinct.0 ∙ each_found fresh distinct.1)
