-- Words: their bytes, texts of which each is a word, and what a test says of two.
use Rattle.std.proofs.Common.{◌≡◌, ℕ, Bool, true, false, List, [], ◌∷◌, ◌++◌, Option, Some, refl, subst, ap, ◌∙◌}
use Rattle.std.specs.Prelude.{◌&&◌, ◌==◌, unwrap_or, eqb}
use Rattle.std.specs.Cmp.Lexicographic.{pointwise}
use Rattle.std.proofs.lemmas.Bool.{both_ways, and_from, and_parts, eq-eqb, eqb-true}
use Rattle.dump_model.specs.Words.{is_in_word, no_break, IsWord}

pub same-head : (a b : ℕ) (r s : List ℕ) → a ∷ r ≡ b ∷ s → (a ≡ b) × (r ≡ s)
same-head a b r s h = (ap (λ (xs : List ℕ). elim xs as (λ _. ℕ) [ [] ↦ 0 | x ∷ _ ↦ x ]) h, ap (λ (xs : List ℕ). elim xs as (λ _. List ℕ) [ [] ↦ [] | _ ∷ ys ↦ ys ]) h)

pub no_break-append : (u v : List ℕ) → no_break (u ++ v) ≡ no_break u && no_break v
no_break-append [] v = refl
no_break-append (b ∷ u) v = by (is_in_word b) (no_break u) (no_break v) (no_break (u ++ v)) (no_break-append u v)
  where
    by : (a p q r : Bool) → r ≡ p && q → a && r ≡ (a && p) && q
    by true p q r h = h
    by false p q r h = refl

-- texts of which each is a word, and the text of one value
pub record IsWords {A : Type 0} (text : A → List ℕ) (InRange : A → Type 0) : Type 0 where
  pub some : A
  pub inside : InRange some
  pub word : (a : A) → InRange a → IsWord (text a)
  pub one : (a b : A) → InRange a → InRange b → text a ≡ text b → a ≡ b

-- ---- what is told, or another value

pub told-or : {A : Type 0} (told : Option A) (default a x : A) → a ≡ unwrap_or told default → told ≡ Some x → a ≡ x
told-or told default a x is some = is ∙ ap (λ o. unwrap_or o default) some

-- ---- two words that a test finds the same, or not

pub same-pointwise : (xs ys : List ℕ) → pointwise eqb xs ys ≡ true → xs ≡ ys
same-pointwise [] [] h = refl
same-pointwise [] (y ∷ ys) h = absurd cc
same-pointwise (x ∷ xs) [] h = absurd cc
same-pointwise (x ∷ xs) (y ∷ ys) h =
    let parts = and_parts (x == y) (pointwise eqb xs ys) h in
    ap (λ z. z ∷ xs) (eqb-true x y parts.0) ∙ ap (λ zs. y ∷ zs) (same-pointwise xs ys parts.1)

pub pointwise-same : (xs ys : List ℕ) → xs ≡ ys → pointwise eqb xs ys ≡ true
pointwise-same xs ys is = subst (λ zs. pointwise eqb xs zs ≡ true) is (by xs)
  where
    by : (xs : List ℕ) → pointwise eqb xs xs ≡ true
    by [] = refl
    by (x ∷ xs) = and_from (x == x) (pointwise eqb xs xs) (eq-eqb x x refl) (by xs)

pub other-pointwise : (xs ys : List ℕ) → pointwise eqb xs ys ≡ false → xs ≡ ys → ⊥
other-pointwise xs ys h is = both_ways (pointwise eqb xs ys) h (pointwise-same xs ys is)
