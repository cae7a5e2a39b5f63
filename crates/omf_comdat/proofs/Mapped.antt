-- A list of which the first items are changed, one more each turn.
use Rattle.std.proofs.Common.{◌≡◌, ℕ, zero, suc, ◌+◌, ◌<◌, ◌≤◌, List, [], ◌∷◌, length, map, get_or, set, refl, sym, ap, ◌∙◌, arith}
use Rattle.std.proofs.lemmas.List.{get_or_default}

abbrev pub mapped : {A : Type 0} → (A → A) → ℕ → List A → List A
mapped f zero xs = xs
mapped f (suc n) [] = []
mapped f (suc n) (x ∷ xs) = f x ∷ mapped f n xs

pub length-mapped : {A : Type 0} (f : A → A) (n : ℕ) (xs : List A) → length (mapped f n xs) ≡ length xs
length-mapped f zero xs = refl
length-mapped f (suc n) [] = refl
length-mapped f (suc n) (x ∷ xs) = ap suc (length-mapped f n xs)

-- the next one is not changed yet
pub mapped-next : {A : Type 0} (f : A → A) (n : ℕ) (xs : List A) (d : A) → get_or (mapped f n xs) n d ≡ get_or xs n d
mapped-next f zero xs d = refl
mapped-next f (suc n) [] d = refl
mapped-next f (suc n) (x ∷ xs) d = mapped-next f n xs d

pub mapped-set : {A : Type 0} (f : A → A) (n : ℕ) (xs : List A) (d : A) → n < length xs → set (mapped f n xs) n (f (get_or xs n d)) ≡ mapped f (suc n) xs
mapped-set f n [] d lt = absurd (omega (arith, lt))
mapped-set f zero (x ∷ xs) d lt = refl
mapped-set f (suc n) (x ∷ xs) d lt = ap (λ ys. f x ∷ ys) (mapped-set f n xs d (omega (arith, lt)))

pub mapped-all : {A : Type 0} (f : A → A) (n : ℕ) (xs : List A) → length xs ≤ n → mapped f n xs ≡ map f xs
mapped-all f zero [] le = refl
mapped-all f zero (x ∷ xs) le = absurd (omega (arith, le))
mapped-all f (suc n) [] le = refl
mapped-all f (suc n) (x ∷ xs) le = ap (λ ys. f x ∷ ys) (mapped-all f n xs (omega (arith, le)))

-- ---- a loop that changes an item each turn

module _ {A : Type 0} (f : A → A) (n : ℕ) (xs ys : List A) (invariant : ys ≡ mapped f n xs) where
  pub there : (len : ℕ) → n < len → len ≡ length ys → n < length xs
  there len lt is = omega (arith, lt, is, ap (λ (zs : List A). length zs) invariant, length-mapped f n xs)

  pub item-is : (x : A) → x ≡ get_or ys n x → x ≡ get_or xs n x
  item-is x is = is ∙ ap (λ (zs : List A). get_or zs n x) invariant ∙ mapped-next f n xs x

  pub items-same : (x y : A) → n < length xs → x ≡ get_or ys n x → y ≡ get_or ys n y → x ≡ y
  items-same x y lt x-is y-is = item-is x x-is ∙ get_or_default xs n x y lt ∙ sym (item-is y y-is)

  pub turn : (x y : A) → n < length xs → x ≡ get_or ys n x → y ≡ f x → set ys n y ≡ mapped f (n + 1) xs
  turn x y lt x-is y-is =
      (λ i. set (invariant i) n ((y-is ∙ ap f (item-is x x-is)) i))
      ∙ mapped-set f n xs x lt
      ∙ ap (λ (k : ℕ). mapped f k xs) (let e : suc n ≡ n + 1 = omega arith in e)

  pub ended : (len : ℕ) → len ≤ n → len ≡ length ys → ys ≡ map f xs
  ended len le is = invariant ∙ mapped-all f n xs (omega (arith, le, is, ap (λ (zs : List A). length zs) invariant, length-mapped f n xs))
