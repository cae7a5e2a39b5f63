-- Functions that agree on a range of numbers, and words that are made of bytes that agree.
use Rattle.std.specs.Prelude.{◌≡◌, ℕ, zero, suc, ◌+◌, ◌*◌, ◌<◌, List, ◌∷◌, ◌++◌, map, refl}
use Rattle.std.specs.Int.{w32, from_le_bytes}
use Rattle.std.specs.List.{range_with_len}
use Rattle.std.proofs.Common.{ap, subst, ◌∙◌, arith}
use Rattle.gen_model.specs.Sums.{word_at, words_of}

-- Two functions give the same, each on a range of its own.
pub range_alike : {X : Type 0} (f g : ℕ → X) (a b n : ℕ) → ((k : ℕ) → k < n → f (a + k) ≡ g (b + k)) → map f (range_with_len a n) ≡ map g (range_with_len b n)
range_alike f g a b zero same = refl
range_alike {X} f g a b (suc n) same =
    let here : f a ≡ g b = subst (λ (x : ℕ). f x ≡ g b) (at a) (subst (λ (y : ℕ). f (a + 0) ≡ g y) (at b) (same 0 (omega arith))) in
    ap (λ (x : X). x ∷ map f (range_with_len (a + 1) n)) here
    ∙ ap (λ (xs : List X). g b ∷ xs) (range_alike f g (a + 1) (b + 1) n (λ k lt. subst (λ (x : ℕ). f x ≡ g (b + 1 + k)) (next a k) (subst (λ (y : ℕ). f (a + suc k) ≡ g y) (next b k) (same (suc k) (omega (arith, lt))))))
  where
    at : (n : ℕ) → n + 0 ≡ n
    at n = omega arith

    next : (n k : ℕ) → n + suc k ≡ n + 1 + k
    next n k = omega arith

-- The first numbers of a range, and those after them.
pub range_split : {X : Type 0} (f : ℕ → X) (a n m : ℕ) → map f (range_with_len a (n + m)) ≡ map f (range_with_len a n) ++ map f (range_with_len (a + n) m)
range_split f a zero m = ap (λ (k : ℕ). map f (range_with_len a k)) (from_zero m) ∙ ap (λ (b : ℕ). map f (range_with_len b m)) (at a)
  where
    from_zero : (m : ℕ) → 0 + m ≡ m
    from_zero m = omega arith

    at : (n : ℕ) → n ≡ n + 0
    at n = omega arith
range_split {X} f a (suc n) m =
    ap (λ (k : ℕ). map f (range_with_len a k)) (first n m)
    ∙ ap (λ (xs : List X). f a ∷ xs) (range_split f (a + 1) n m)
    ∙ ap (λ (b : ℕ). f a ∷ (map f (range_with_len (a + 1) n) ++ map f (range_with_len b m))) (after a n)
  where
    first : (n m : ℕ) → suc n + m ≡ suc (n + m)
    first n m = omega arith

    after : (a n : ℕ) → a + 1 + n ≡ a + suc n
    after a n = omega arith

-- A word is made of four bytes.
pub word_alike : (f g : ℕ → ℕ) (a b : ℕ) → ((k : ℕ) → k < 4 → f (a + k) ≡ g (b + k)) → word_at f a ≡ word_at g b
word_alike f g a b same = ap (λ (bytes : List ℕ). from_le_bytes w32 bytes) (range_alike f g a b 4 same)

-- The words of so many pages are made of their bytes.
pub words_same : (f g : ℕ → ℕ) (pages : ℕ) → ((x : ℕ) → x < 4096 * pages → f x ≡ g x) → words_of f pages ≡ words_of g pages
words_same f g pages same =
    range_alike (λ i. word_at f (4 * i)) (λ i. word_at g (4 * i)) 0 0 (1024 * pages) (λ i lt. word_alike f g (4 * (0 + i)) (4 * (0 + i)) (λ k few. same (4 * (0 + i) + k) (omega (arith, lt, few))))
