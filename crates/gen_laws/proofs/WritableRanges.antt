-- What holds of each item of a list that is made of numbers in their order, by their arithmetic.
use Rattle.std.proofs.Common.{◌≡◌, ℕ, zero, suc, ◌+◌, ◌<◌, ◌≤◌, ◌∷◌, ◌++◌, map, refl, ap, arith}
use Rattle.std.specs.List.{All, AllByRecursion, AllPairs, range_with_len}
use Rattle.std.proofs.lemmas.List.Elements.{All-from_recursion}
use Rattle.std.proofs.lemmas.List.FromFn.{length-map-range_with_len, get_or-map-range_with_len}

pub each_of_numbers : {X : Type 0} (P : X → Type 0) (f : ℕ → X) (a n : ℕ) → ((i : ℕ) → a ≤ i → i < a + n → P (f i)) → AllByRecursion P (map f (range_with_len a n))
each_of_numbers P f a zero h = tt
each_of_numbers P f a (suc n) h =
    (h a (omega arith) (omega arith), each_of_numbers P f (a + 1) n (λ i low high. h i (omega arith) (omega arith)))

pub all_of_numbers : {X : Type 0} (P : X → Type 0) (f : ℕ → X) (a n : ℕ) → ((i : ℕ) → a ≤ i → i < a + n → P (f i)) → All P (map f (range_with_len a n))
all_of_numbers P f a n h = All-from_recursion P (map f (range_with_len a n)) (each_of_numbers P f a n h)

pub pairs_of_numbers : {X : Type 0} (R : X → X → Type 0) (f : ℕ → X) (n : ℕ) → ((i j : ℕ) → i < j → j < n → R (f i) (f j)) → AllPairs R (map f (range_with_len 0 n))
pairs_of_numbers R f n h i j d less within =
    let below : j < n = omega (arith, length-map-range_with_len f 0 n) in
    let first = get_or-map-range_with_len f 0 n i i d (omega arith) (omega arith) in
    let second = get_or-map-range_with_len f 0 n j j d below (omega arith) in
    rw (first, second) (h i j less below)

-- so many numbers, and those after them
pub numbers_apart : {X : Type 0} (f : ℕ → X) (a m n both after : ℕ) → m + n ≡ both → a + m ≡ after
    → map f (range_with_len a both) ≡ map f (range_with_len a m) ++ map f (range_with_len after n)
numbers_apart f a zero n both after all from =
    let same : n ≡ both = omega arith in let start : a ≡ after = omega arith in rw (same, start)
numbers_apart f a (suc m) n both after all from =
    let count : both ≡ suc (m + n) = omega arith in
    rw count (ap (λ xs. f a ∷ xs) (numbers_apart f (a + 1) m n (m + n) after refl (omega arith)))
