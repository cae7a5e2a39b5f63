-- Bytes that stand one time after the other.
use Rattle.std.proofs.Common.{◌≡◌, ℕ, zero, suc, ◌+◌, ◌*◌, ◌≤◌, List, [], ◌++◌, length, take, refl, sym, ap, subst, ◌∙◌, append_assoc, append-nil, arith, length-append}
use Rattle.std.specs.List.{repeat}
use Rattle.std.proofs.lemmas.List.{nil_from_length}
use Rattle.std.proofs.lemmas.Slice.{take-put_mid}
use borrow.Rule.Slice.PartMut.{put_mid}

-- one time more, after the others
pub repeat_end : {A : Type 0} (n : ℕ) (xs : List A) → repeat (suc n) xs ≡ repeat n xs ++ xs
repeat_end zero xs = append-nil xs
repeat_end (suc n) xs = ap (λ ys. xs ++ ys) (repeat_end n xs) ∙ sym (append_assoc xs (repeat n xs) xs)

pub repeat_more : {A : Type 0} (n : ℕ) (xs : List A) → repeat (n + 1) xs ≡ repeat n xs ++ xs
repeat_more {A} n xs = let next : suc n ≡ n + 1 = omega arith in subst (λ (m : ℕ). repeat m xs ≡ repeat n xs ++ xs) next (repeat_end n xs)

pub repeat_nothing : {A : Type 0} (n : ℕ) → repeat {A = A} n [] ≡ []
repeat_nothing zero = refl
repeat_nothing (suc n) = repeat_nothing n

pub length-repeat : {A : Type 0} (n : ℕ) (xs : List A) → length (repeat n xs) ≡ n * length xs
length-repeat zero xs = omega arith
length-repeat (suc n) xs = let rest = length-repeat n xs in omega (arith, length-append xs (repeat n xs), rest)

-- ---- a loop that writes them

pub none_written : (n at : ℕ) (bytes into : List ℕ) → length bytes ≡ 0 → take (at + n * length bytes) into ≡ take at into ++ repeat n bytes
none_written n at bytes into none =
    let is : bytes ≡ [] = nil_from_length bytes none in
    let same : at + n * 0 ≡ at = omega arith in
    let nothing : take at into ++ repeat n [] ≡ take at into = ap (λ (xs : List ℕ). take at into ++ xs) (repeat_nothing n) ∙ append-nil (take at into) in
    subst (λ (bs : List ℕ). take (at + n * length bs) into ≡ take at into ++ repeat n bs) (sym is) (ap (λ (k : ℕ). take k into) same ∙ sym nothing)

pub written_more : (n to k : ℕ) (first bytes ys into : List ℕ) → to ≤ length into → ys ≡ bytes → take to into ≡ first ++ repeat n bytes → take (to + length bytes) (put_mid to k into ys) ≡ first ++ repeat (n + 1) bytes
written_more n to k first bytes ys into fits same front =
    let size : to + length bytes ≡ to + length ys = ap (λ (xs : List ℕ). to + length xs) (sym same) in
    take-put_mid to k into ys (to + length bytes) size fits
    ∙ ap (λ (xs : List ℕ). xs ++ ys) front
    ∙ ap (λ (xs : List ℕ). first ++ repeat n bytes ++ xs) same
    ∙ append_assoc first (repeat n bytes) bytes
    ∙ ap (λ (xs : List ℕ). first ++ xs) (sym (repeat_more n bytes))
