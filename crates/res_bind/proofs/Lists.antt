-- Lists that grow at their end.
use Rattle.std.proofs.Common.{◌≡◌, ℕ, zero, suc, ◌+◌, ◌-◌, ◌<◌, ◌≤◌, List, [], ◌∷◌, ◌++◌, length, take, drop, get_or, refl, sym, ap, ◌∙◌, append_assoc, append-nil, arith, drop-cons}
use Rattle.std.specs.Prelude.{replicate}
use Rattle.std.specs.List.{repeat}

take_none : {X : Type 0} (k : ℕ) → take {A = X} k [] ≡ []
take_none zero = refl
take_none (suc k) = refl

take_all : {X : Type 0} (n : ℕ) (xs : List X) → length xs ≤ n → take n xs ≡ xs
take_all n [] le = take_none n
take_all zero (x ∷ xs) le = absurd (omega arith)
take_all {X} (suc n) (x ∷ xs) le = ap (λ (ys : List X). x ∷ ys) (take_all n xs (omega arith))

pub resized : (xs : List ℕ) (n : ℕ) → take (length xs + n) xs ++ replicate (length xs + n - length xs) 0 ≡ xs ++ replicate n 0
resized xs n =
    ap (λ (ys : List ℕ). ys ++ replicate (length xs + n - length xs) 0) (take_all (length xs + n) xs (omega arith))
    ∙ ap (λ (k : ℕ). xs ++ replicate k 0) (omega arith)

pub grown : (xs : List ℕ) (n : ℕ) → length xs ≤ n → take n xs ++ replicate (n - length xs) 0 ≡ xs ++ replicate (n - length xs) 0
grown xs n le = ap (λ (ys : List ℕ). ys ++ replicate (n - length xs) 0) (take_all n xs le)

pub repeat_more : (n : ℕ) (xs : List ℕ) → repeat (n + 1) xs ≡ repeat n xs ++ xs
repeat_more zero xs = append-nil xs
repeat_more (suc n) xs =
    let more : suc n + 1 ≡ suc (n + 1) = omega arith in
    ap (λ (k : ℕ). repeat k xs) more ∙ ap (λ (ys : List ℕ). xs ++ ys) (repeat_more n xs) ∙ sym (append_assoc xs (repeat n xs) xs)

-- what a loop has in front of it
pub next_of : {X : Type 0} (xs : List X) (k : ℕ) (x : X) → k < length xs → x ≡ get_or xs k x → drop k xs ≡ x ∷ drop (k + 1) xs
next_of {X} xs k x lt is =
    let more : suc k ≡ k + 1 = omega arith in
    drop-cons xs k x lt ∙ ap (λ (y : X). y ∷ drop (suc k) xs) (sym is) ∙ ap (λ (j : ℕ). x ∷ drop j xs) more
