-- A list whose items are written over one after another.
use Rattle.std.proofs.Common.{◌≡◌, ℕ, zero, suc, ◌+◌, ◌<◌, List, [], ◌∷◌, ◌++◌, length, map, take, drop, get_or, refl, sym, ◌∙◌, ap, arith, add-one}
use Rattle.std.proofs.Math.ListN.{set}

over_one : {A : Type 0} (f : A → A) (xs : List A) (i : ℕ) (d : A) → i < length xs → set (map f (take i xs) ++ drop i xs) i (f (get_or xs i d)) ≡ map f (take (suc i) xs) ++ drop (suc i) xs
over_one f [] i d within = absurd (let none : ⊥ = omega arith in none)
over_one f (x ∷ xs) zero d within = refl
over_one {A} f (x ∷ xs) (suc i) d within = ap (λ (l : List A). f x ∷ l) (over_one f xs i d (omega arith))

still_there : {A : Type 0} (f : A → A) (xs : List A) (i : ℕ) (d : A) → i < length xs → get_or (map f (take i xs) ++ drop i xs) i d ≡ get_or xs i d
still_there f [] i d within = absurd (let none : ⊥ = omega arith in none)
still_there f (x ∷ xs) zero d within = refl
still_there f (x ∷ xs) (suc i) d within = still_there f xs i d (omega arith)

-- the next one is written over
pub over_next : {A : Type 0} (f : A → A) (xs now : List A) (i : ℕ) (x y : A) → now ≡ map f (take i xs) ++ drop i xs → i < length xs → x ≡ get_or now i x → y ≡ f x
    → set now i y ≡ map f (take (i + 1) xs) ++ drop (i + 1) xs
over_next {A} f xs now i x y was within at is =
    let there : x ≡ get_or xs i x = at ∙ ap (λ (l : List A). get_or l i x) was ∙ still_there f xs i x within in
    (λ k. set (was k) i ((is ∙ ap f there) k)) ∙ over_one f xs i x within ∙ (λ k. map f (take (sym (add-one i) k) xs) ++ drop (sym (add-one i) k) xs)

pub over_all : {A : Type 0} (f : A → A) (xs : List A) (i : ℕ) → length xs ≡ i → map f (take i xs) ++ drop i xs ≡ map f xs
over_all f [] zero is = refl
over_all f [] (suc i) is = absurd (let none : ⊥ = omega (arith, is) in none)
over_all f (x ∷ xs) zero is = absurd (let none : ⊥ = omega (arith, is) in none)
over_all {A} f (x ∷ xs) (suc i) is = ap (λ (l : List A). f x ∷ l) (over_all f xs i (omega (arith, is)))
