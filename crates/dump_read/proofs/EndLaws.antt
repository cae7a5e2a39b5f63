-- The first lines of bytes, and the ends of lines.
use Rattle.std.proofs.Common.{◌≡◌, ℕ, zero, suc, ◌+◌, ◌-◌, ◌<◌, ◌≤◌, Bool, true, false, cond, not, List, [], ◌∷◌, ◌++◌, length, get_or, refl, sym, subst, ap, ◌∙◌, arith, inl, inr, ◌⊎◌}
use Rattle.std.specs.Prelude.{◌==◌}
use Rattle.std.proofs.lemmas.Bool.Decides.{nat_tests}
use Rattle.std.proofs.lemmas.Bool.{cases_Bool, both_ways, and_parts}
use Rattle.dump_model.specs.Dumps.{first_lines}
use Rattle.dump_model.specs.Words.{is_in_word, no_break, IsWord}
use Rattle.dump_read.specs.Taken.{line_left}
use Rattle.dump_read.specs.Ends.{ends, ends_open}

-- ---- one byte

step-end : (b n : ℕ) (xs : List ℕ) → (b == 10) ≡ true → first_lines (suc n) (b ∷ xs) ≡ b ∷ first_lines n xs
step-end b n xs h = ap (λ t. b ∷ first_lines (cond t n (suc n)) xs) h

step-other : (b n : ℕ) (xs : List ℕ) → (b == 10) ≡ false → first_lines (suc n) (b ∷ xs) ≡ b ∷ first_lines (suc n) xs
step-other b n xs h = ap (λ t. b ∷ first_lines (cond t n (suc n)) xs) h

one-end : (b : ℕ) (xs : List ℕ) → (b == 10) ≡ true → ends (b ∷ xs) ≡ suc (ends xs)
one-end b xs h = ap (λ t. cond t (suc (ends xs)) (ends xs)) h

no-end : (b : ℕ) (xs : List ℕ) → (b == 10) ≡ false → ends (b ∷ xs) ≡ ends xs
no-end b xs h = ap (λ t. cond t (suc (ends xs)) (ends xs)) h

-- ---- lines

first-line : (xs : List ℕ) → first_lines 1 xs ≡ line_left xs
first-line [] = refl
first-line (b ∷ xs) = by (b == 10) (first-line xs)
  where
    by : (t : Bool) → first_lines 1 xs ≡ line_left xs → b ∷ first_lines (cond t 0 1) xs ≡ b ∷ cond t [] (line_left xs)
    by true h = refl
    by false h = ap (λ l. b ∷ l) h

-- the lines of what was taken, and the next one
pub lines-after : (used left : List ℕ) → first_lines (suc (ends used)) (used ++ left) ≡ used ++ line_left left
lines-after [] left = first-line left
lines-after (b ∷ used) left = by (cases_Bool (b == 10)) (lines-after used left)
  where
    by : ((b == 10) ≡ true) ⊎ ((b == 10) ≡ false) → first_lines (suc (ends used)) (used ++ left) ≡ used ++ line_left left
        → first_lines (suc (ends (b ∷ used))) (b ∷ (used ++ left)) ≡ b ∷ (used ++ line_left left)
    by (inl is) h =
        ap (λ n. first_lines (suc n) (b ∷ (used ++ left))) (one-end b used is) ∙ step-end b (suc (ends used)) (used ++ left) is ∙ ap (λ l. b ∷ l) h
    by (inr is) h =
        ap (λ n. first_lines (suc n) (b ∷ (used ++ left))) (no-end b used is) ∙ step-other b (ends used) (used ++ left) is ∙ ap (λ l. b ∷ l) h

-- the whole lines of what was taken begin it
pub lines-front : (used left : List ℕ) → (rest : List ℕ) × (used ≡ first_lines (ends used) (used ++ left) ++ rest)
lines-front [] left = ([], refl)
lines-front (b ∷ used) left = by (cases_Bool (b == 10)) (ends used) refl (lines-front used left)
  where
    Front : ℕ → Type 0
    Front n = (rest : List ℕ) × (b ∷ used ≡ first_lines n (b ∷ (used ++ left)) ++ rest)

    by : ((b == 10) ≡ true) ⊎ ((b == 10) ≡ false) → (n : ℕ) → ends used ≡ n → (rest : List ℕ) × (used ≡ first_lines (ends used) (used ++ left) ++ rest)
        → Front (ends (b ∷ used))
    by (inl is) n e h =
        subst Front (sym (one-end b used is))
        (h.0, ap (λ l. b ∷ l) h.1 ∙ ap (λ l. l ++ h.0) (sym (step-end b (ends used) (used ++ left) is)))
    by (inr is) zero e h = subst Front (sym (no-end b used is ∙ e)) (b ∷ used, refl)
    by (inr is) (suc m) e h =
        subst Front (sym (no-end b used is ∙ e))
        (h.0, ap (λ l. b ∷ l) (h.1 ∙ ap (λ k. first_lines k (used ++ left) ++ h.0) e) ∙ ap (λ l. l ++ h.0) (sym (step-other b m (used ++ left) is)))

pub lines-short : (bytes : List ℕ) (n : ℕ) → n < ends bytes → length (first_lines n bytes) < length bytes
lines-short [] n lt = absurd (omega arith)
lines-short (b ∷ bytes) zero lt = omega arith
lines-short (b ∷ bytes) (suc n) lt = by (cases_Bool (b == 10)) (lines-short bytes n) (lines-short bytes (suc n))
  where
    by : ((b == 10) ≡ true) ⊎ ((b == 10) ≡ false) → (n < ends bytes → length (first_lines n bytes) < length bytes)
        → (suc n < ends bytes → length (first_lines (suc n) bytes) < length bytes) → length (first_lines (suc n) (b ∷ bytes)) < length (b ∷ bytes)
    by (inl is) h k = omega (arith, h (omega (arith, lt, one-end b bytes is)), ap length (step-end b n bytes is))
    by (inr is) h k = omega (arith, k (omega (arith, lt, no-end b bytes is)), ap length (step-other b n bytes is))

some-end : (b : ℕ) (bytes : List ℕ) → ends_open (b ∷ bytes) ≡ false → 1 ≤ ends (b ∷ bytes)
some-end b [] h = by (b == 10) h
  where
    by : (t : Bool) → not t ≡ false → 1 ≤ cond t 1 0
    by true h = omega arith
    by false h = absurd cc
some-end b (c ∷ bytes) h = by (b == 10) (ends (c ∷ bytes)) (some-end c bytes h)
  where
    by : (t : Bool) (e : ℕ) → 1 ≤ e → 1 ≤ cond t (suc e) e
    by true e h = omega arith
    by false e h = h

-- all lines, of bytes that end with one
pub lines-whole : (bytes : List ℕ) → ends_open bytes ≡ false → first_lines (ends bytes) bytes ≡ bytes
lines-whole [] h = refl
lines-whole (b ∷ []) h = by (cases_Bool (b == 10))
  where
    by : ((b == 10) ≡ true) ⊎ ((b == 10) ≡ false) → first_lines (ends (b ∷ [])) (b ∷ []) ≡ b ∷ []
    by (inl is) = ap (λ n. first_lines n (b ∷ [])) (one-end b [] is) ∙ step-end b 0 [] is
    by (inr is) = absurd (both_ways (not (b == 10)) h (ap not is))
lines-whole (b ∷ c ∷ bytes) h = by (cases_Bool (b == 10)) (ends (c ∷ bytes)) refl (some-end c bytes h) (lines-whole (c ∷ bytes) h)
  where
    by : ((b == 10) ≡ true) ⊎ ((b == 10) ≡ false) → (n : ℕ) → ends (c ∷ bytes) ≡ n → 1 ≤ n → first_lines (ends (c ∷ bytes)) (c ∷ bytes) ≡ c ∷ bytes
        → first_lines (ends (b ∷ c ∷ bytes)) (b ∷ c ∷ bytes) ≡ b ∷ c ∷ bytes
    by (inl is) n e some k = ap (λ m. first_lines m (b ∷ c ∷ bytes)) (one-end b (c ∷ bytes) is) ∙ step-end b (ends (c ∷ bytes)) (c ∷ bytes) is ∙ ap (λ l. b ∷ l) k
    by (inr is) zero e some k = absurd (omega arith)
    by (inr is) (suc m) e some k =
        ap (λ m. first_lines m (b ∷ c ∷ bytes)) (no-end b (c ∷ bytes) is ∙ e) ∙ step-other b m (c ∷ bytes) is ∙ ap (λ l. b ∷ l) (ap (λ n. first_lines n (c ∷ bytes)) (sym e) ∙ k)

-- the lines that end, of bytes that do not end with one
pub lines-open : (bytes : List ℕ) → ends_open bytes ≡ true → length (first_lines (ends bytes) bytes) < length bytes
lines-open [] h = absurd cc
lines-open (b ∷ []) h = by (cases_Bool (b == 10))
  where
    by : ((b == 10) ≡ true) ⊎ ((b == 10) ≡ false) → length (first_lines (ends (b ∷ [])) (b ∷ [])) < length (b ∷ [])
    by (inl is) = absurd (both_ways (not (b == 10)) (ap not is) h)
    by (inr is) = omega (arith, ap (λ n. length (first_lines n (b ∷ []))) (no-end b [] is))
lines-open (b ∷ c ∷ bytes) h = by (cases_Bool (b == 10)) (ends (c ∷ bytes)) refl (lines-open (c ∷ bytes) h)
  where
    by : ((b == 10) ≡ true) ⊎ ((b == 10) ≡ false) → (n : ℕ) → ends (c ∷ bytes) ≡ n → length (first_lines (ends (c ∷ bytes)) (c ∷ bytes)) < length (c ∷ bytes)
        → length (first_lines (ends (b ∷ c ∷ bytes)) (b ∷ c ∷ bytes)) < length (b ∷ c ∷ bytes)
    by (inl is) n e k =
        omega (arith, k, ap length (ap (λ m. first_lines m (b ∷ c ∷ bytes)) (one-end b (c ∷ bytes) is) ∙ step-end b (ends (c ∷ bytes)) (c ∷ bytes) is))
    by (inr is) zero e k = omega (arith, ap (λ m. length (first_lines m (b ∷ c ∷ bytes))) (no-end b (c ∷ bytes) is ∙ e))
    by (inr is) (suc m) e k =
        omega (
          arith,
          k,
          ap (λ n. length (first_lines n (c ∷ bytes))) e,
          ap length (ap (λ m. first_lines m (b ∷ c ∷ bytes)) (no-end b (c ∷ bytes) is ∙ e) ∙ step-other b m (c ∷ bytes) is),
        )

-- ---- counts

pub ends-append : (u v : List ℕ) → ends (u ++ v) ≡ ends u + ends v
ends-append [] v = omega arith
ends-append (b ∷ u) v = by (b == 10) (ends-append u v)
  where
    by : (t : Bool) → ends (u ++ v) ≡ ends u + ends v → cond t (suc (ends (u ++ v))) (ends (u ++ v)) ≡ cond t (suc (ends u)) (ends u) + ends v
    by true h = omega (arith, h)
    by false h = h

word-end : (b : ℕ) → is_in_word b ≡ true → (b == 10) ≡ false
word-end b h = grind (arith, nat_tests)

pub word-ends : (w : List ℕ) → IsWord w → ends w ≡ 0
word-ends [] h = refl
word-ends (b ∷ w) h =
    let parts = and_parts (is_in_word b) (no_break w) h in no-end b w (word-end b parts.0) ∙ word-ends w parts.1

pub few-ends : (xs : List ℕ) → ends xs ≤ length xs
few-ends [] = omega arith
few-ends (b ∷ xs) = by (b == 10) (few-ends xs)
  where
    by : (t : Bool) → ends xs ≤ length xs → cond t (suc (ends xs)) (ends xs) ≤ length (b ∷ xs)
    by true h = omega (arith, h)
    by false h = omega (arith, h)

-- the first two bytes of a dump end no line
pub fewer-ends : (used rest z : List ℕ) (x y : ℕ) → (x == 10) ≡ false → (y == 10) ≡ false → x ∷ y ∷ z ≡ used ++ rest → (ends used + 2 ≤ length used) ⊎ (ends used ≡ 0)
fewer-ends [] rest z x y hx hy is = inr refl
fewer-ends (a ∷ []) rest z x y hx hy is =
    inr (no-end a [] (subst (λ c. (c == 10) ≡ false) (ap (λ (l : List ℕ). get_or l 0 0) is) hx))
fewer-ends (a ∷ b ∷ used) rest z x y hx hy is =
    let ha = subst (λ c. (c == 10) ≡ false) (ap (λ (l : List ℕ). get_or l 0 0) is) hx in
    let hb = subst (λ c. (c == 10) ≡ false) (ap (λ (l : List ℕ). get_or l 1 0) is) hy in
    inl (omega (arith, no-end a (b ∷ used) ha, no-end b used hb, few-ends used))

-- the last byte
pub open-last : (bytes : List ℕ) → 0 < length bytes → ends_open bytes ≡ not (get_or bytes (length bytes - 1) 0 == 10)
open-last [] some = absurd (omega arith)
open-last (b ∷ []) some = refl
open-last (b ∷ c ∷ bytes) some =
    let at : length (b ∷ c ∷ bytes) - 1 ≡ suc (length (c ∷ bytes) - 1) = omega arith in
    open-last (c ∷ bytes) (omega arith) ∙ ap (λ n. not (get_or (b ∷ c ∷ bytes) n 0 == 10)) (sym at)
