-- What holds of each item of lists that are made of others.
use Rattle.std.proofs.Common.{◌≡◌, ℕ, zero, suc, ◌+◌, ◌<◌, ◌≤◌, Bool, true, List, [], ◌∷◌, ◌++◌, subst, arith, inl, inr}
use Rattle.std.specs.List.{flat_map, list_all, range_with_len, AllByRecursion as Each}
use Rattle.std.proofs.lemmas.Bool.{cases_lt}
use Rattle.res_laws.proofs.Clear.{split_all}

pub each_parts : {X : Type 0} (P : X → Type 0) (xs ys : List X) → Each P (xs ++ ys) → Each P xs × Each P ys
each_parts P [] ys h = (tt, h)
each_parts P (x ∷ xs) ys h = let rest = each_parts P xs ys h.1 in ((h.0, rest.0), rest.1)

pub each_inner : {A X : Type 0} (P : X → Type 0) (f : A → List X) (xs : List A) → Each P (flat_map f xs) → Each (λ a. Each P (f a)) xs
each_inner P f [] h = tt
each_inner P f (x ∷ xs) h = let parts = each_parts P (f x) (flat_map f xs) h in (parts.0, each_inner P f xs parts.1)

pub each_both : {X : Type 0} (P Q : X → Type 0) (xs : List X) → Each P xs → Each Q xs → Each (λ x. P x × Q x) xs
each_both P Q [] g h = tt
each_both P Q (x ∷ xs) g h = ((g.0, h.0), each_both P Q xs g.1 h.1)

pub each_at : (P : ℕ → Type 0) (a n k : ℕ) → Each P (range_with_len a n) → a ≤ k → k < a + n → P k
each_at P a zero k h low lt = absurd (omega arith)
each_at P a (suc n) k h low lt = elim (cases_lt a k) [
  | inl less ↦ each_at P (a + 1) n k h.1 (omega arith) (omega arith)
  | inr ge ↦ let same : a ≡ k = omega arith in subst P same h.0
]

-- a test that each item of the inner lists passes
pub each_tests : {A X : Type 0} (p : X → Bool) (f : A → List X) (xs : List A) → list_all p (flat_map f xs) ≡ true → Each (λ a. list_all p (f a) ≡ true) xs
each_tests p f [] e = tt
each_tests p f (x ∷ xs) e = let parts = split_all p (f x) (flat_map f xs) e in (parts.0, each_tests p f xs parts.1)
