-- Where no fault is first, there is none.
use Rattle.std.proofs.Common.{◌≡◌, ℕ, zero, suc, ◌+◌, ◌<◌, ◌≤◌, List, ◌∷◌, map, Option, Some, None, refl, sym, subst, arith, inl, inr}
use Rattle.std.specs.Prelude.{All}
use Rattle.std.specs.List.{range_with_len}
use Rattle.std.proofs.lemmas.Bool.{cases_lt}
use Rattle.std.proofs.lemmas.List.FromFn.{length-map-range_with_len, get_or-map-range_with_len}
use Rattle.lx_types.specs.declared.refusal.LxRefusal.{LxRefusal}
use Rattle.lx_model.specs.Reading.{first, ◌then◌, first_of}

pub then_none : {A : Type 0} (a b : Option A) → (a then b) ≡ None → (a ≡ None) × (b ≡ None)
then_none (Some x) b e = absurd cc
then_none None b e = (refl, e)

pub first_cons_none : {A : Type 0} (x : Option A) (xs : List (Option A)) → first (x ∷ xs) ≡ None → (x ≡ None) × (first xs ≡ None)
first_cons_none (Some x) xs e = absurd cc
first_cons_none None xs e = (refl, e)

pub first_none : {A : Type 0} (f : ℕ → Option A) (a n k : ℕ) → first (map f (range_with_len a n)) ≡ None → a ≤ k → k < a + n → f k ≡ None
first_none f a zero k e low high = absurd (omega arith)
first_none f a (suc n) k e low high =
    let parts = first_cons_none (f a) (map f (range_with_len (a + 1) n)) e in
    elim (cases_lt a k) [
      | inl lt ↦ first_none f (a + 1) n k parts.1 (omega arith) (omega arith)
      | inr ge ↦ let same : a ≡ k = omega arith in subst (λ (j : ℕ). f j ≡ None) same parts.0
    ]

pub each_none : (n : ℕ) (f : ℕ → Option LxRefusal) (k : ℕ) → first_of n f ≡ None → k < n → f k ≡ None
each_none n f k e lt = first_none f 0 n k e (omega arith) (omega arith)

-- what holds of each entry of a table holds of the list of them
pub each_entry : {X : Type 0} (P : X → Type 0) (f : ℕ → X) (n : ℕ) → ((k : ℕ) → k < n → P (f k)) → All P (map f (range_with_len 0 n))
each_entry P f n holds k d lt =
    let below : k < n = omega (arith, length-map-range_with_len f 0 n) in
    subst P (sym (get_or-map-range_with_len f 0 n k k d below (omega arith))) (holds k below)
