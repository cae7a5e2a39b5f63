-- Lines are the words that single blanks separate.
use Rattle.std.proofs.Common.{◌≡◌, ℕ, zero, suc, ◌+◌, ◌-◌, ◌<◌, Bool, true, false, cond, List, [], ◌∷◌, ◌++◌, length, get_or, take, drop, refl, sym, ◌∙◌, ap, arith}
use Rattle.std.specs.Prelude.{◌==◌, not}
use Rattle.std.specs.List.{list_all, AllByRecursion}
use Rattle.std.proofs.lemmas.List.{take_rest}
use Rattle.std.proofs.lemmas.Bool.{cond-true, cond-false, and_parts, and_from, eqb-true, eq-eqb, ne_eqb}
use Rattle.session_model.specs.Text.{words}
use Rattle.transcript_read.specs.Words.{Row, onto, split, is_inside, HasNoBlank}

-- ---- what is split is joined

pub some_words : (bytes : List ℕ) → 0 < length (split bytes)
some_words [] = omega arith
some_words (b ∷ bytes) = step (b == 0x20) (split bytes) (some_words bytes)
  where
    step : (t : Bool) (ws : Row) → 0 < length ws → 0 < length (cond t ([] ∷ ws) (onto b ws))
    step true ws h = omega arith
    step false [] h = omega arith
    step false (w ∷ ws) h = omega arith

joined_onto : (b : ℕ) (ws : Row) → 0 < length ws → words (onto b ws) ≡ b ∷ words ws
joined_onto b [] h = absurd (let none : ⊥ = omega arith in none)
joined_onto b (w ∷ []) h = refl
joined_onto b (w ∷ v ∷ ws) h = refl

joined_blank : (ws : Row) → 0 < length ws → words ([] ∷ ws) ≡ 0x20 ∷ words ws
joined_blank [] h = absurd (let none : ⊥ = omega arith in none)
joined_blank (w ∷ ws) h = refl

pub words_split : (bytes : List ℕ) → words (split bytes) ≡ bytes
words_split [] = refl
words_split (b ∷ bytes) = step (b == 0x20) refl (words_split bytes)
  where
    step : (t : Bool) → (b == 0x20) ≡ t → words (split bytes) ≡ bytes → words (cond t ([] ∷ split bytes) (onto b (split bytes))) ≡ b ∷ bytes
    step true is rest = joined_blank (split bytes) (some_words bytes) ∙ (λ i. sym (eqb-true b 0x20 is) i ∷ rest i)
    step false is rest = joined_onto b (split bytes) (some_words bytes) ∙ ap (λ bs. b ∷ bs) rest

-- ---- what is joined is split

inside_test : (b : ℕ) → is_inside b ≡ true → (b == 0x20) ≡ false
inside_test b h = step (b == 0x20) h
  where
    step : (t : Bool) → not t ≡ true → t ≡ false
    step true h = absurd (cc (h))
    step false h = refl

pub split_last : (word : List ℕ) → HasNoBlank word → split word ≡ word ∷ []
split_last [] h = refl
split_last (b ∷ word) h =
    let parts = and_parts (is_inside b) (list_all is_inside word) h in
    cond-false (b == 0x20) _ _ (inside_test b parts.0) ∙ ap (onto b) (split_last word parts.1)

pub split_first : (word rest : List ℕ) → HasNoBlank word → split (word ++ 0x20 ∷ rest) ≡ word ∷ split rest
split_first [] rest h = refl
split_first (b ∷ word) rest h =
    let parts = and_parts (is_inside b) (list_all is_inside word) h in
    cond-false (b == 0x20) _ _ (inside_test b parts.0) ∙ ap (onto b) (split_first word rest parts.1)

pub split_words : (w : List ℕ) (ws : Row) → AllByRecursion HasNoBlank (w ∷ ws) → split (words (w ∷ ws)) ≡ w ∷ ws
split_words w [] h = split_last w h.0
split_words w (v ∷ ws) h = split_first w (words (v ∷ ws)) h.0 ∙ ap (λ vs. w ∷ vs) (split_words v ws h.1)

-- ---- the first word, by where the first blank stands

pub all_inside : (bytes : List ℕ) → ((j : ℕ) → j < length bytes → get_or bytes j 0 ≡ 0x20 → ⊥) → HasNoBlank bytes
all_inside [] h = refl
all_inside (b ∷ bytes) h =
    and_from (is_inside b) (list_all is_inside bytes) (here b (λ is. h 0 (omega arith) is)) (all_inside bytes (λ j lt is. h (suc j) (omega arith) is))
  where
    here : (b : ℕ) → (b ≡ 0x20 → ⊥) → is_inside b ≡ true
    here b ne = ap not (ne_eqb b 0x20 ne)

pub split_at : (bytes : List ℕ) (at : ℕ) → at < length bytes → get_or bytes at 0 ≡ 0x20 → HasNoBlank (take at bytes)
    → split bytes ≡ take at bytes ∷ split (drop (at + 1) bytes)
split_at [] at lt is h = absurd (let none : ⊥ = omega arith in none)
split_at (b ∷ bytes) zero lt is h = cond-true (b == 0x20) _ _ (eq-eqb b 0x20 is)
split_at (b ∷ bytes) (suc at) lt is h =
    let parts = and_parts (is_inside b) (list_all is_inside (take at bytes)) h in
    let more : suc at + 1 ≡ suc (at + 1) = omega arith in
    let rest = split_at bytes at (omega arith) is parts.1 in
    cond-false (b == 0x20) _ _ (inside_test b parts.0) ∙ ap (onto b) rest ∙ ap (λ n. (b ∷ take at bytes) ∷ split (drop n (b ∷ bytes))) (sym more)

pub taken_inside : (bytes : List ℕ) (at : ℕ) → ((j : ℕ) → j < at → get_or bytes j 0 ≡ 0x20 → ⊥) → HasNoBlank (take at bytes)
taken_inside [] at h = by at
  where
    by : (n : ℕ) → HasNoBlank (take n [])
    by zero = refl
    by (suc n) = refl
taken_inside (b ∷ bytes) zero h = refl
taken_inside (b ∷ bytes) (suc at) h =
    and_from (is_inside b) (list_all is_inside (take at bytes)) (ap not (ne_eqb b 0x20 (λ is. h 0 (omega arith) is))) (taken_inside bytes at (λ j lt is. h (suc j) (omega arith) is))

-- ---- bytes in front of one byte

pub same_front : (xs ys : List ℕ) (b : ℕ) → xs ++ b ∷ [] ≡ ys ++ b ∷ [] → xs ≡ ys
same_front [] [] b is = refl
same_front [] (y ∷ []) b is = absurd (cc (is))
same_front [] (y ∷ z ∷ ys) b is = absurd (cc (is))
same_front (x ∷ []) [] b is = absurd (cc (is))
same_front (x ∷ z ∷ xs) [] b is = absurd (cc (is))
same_front (x ∷ xs) (y ∷ ys) b is =
    let one : x ≡ y = cc (is) in
    let rest : xs ++ b ∷ [] ≡ ys ++ b ∷ [] = cc (is) in
    λ i. one i ∷ same_front xs ys b rest i

-- ---- the first blank, as it is found

pub split_at_blank : (bytes : List ℕ) (at : ℕ) → at < length bytes → get_or bytes at 0 ≡ 0x20 → ((j : ℕ) → j < at → (get_or bytes j 0 == 0x20) ≡ true → ⊥)
    → split bytes ≡ take at bytes ∷ split (take (length bytes - (at + 1)) (drop (at + 1) bytes))
split_at_blank bytes at lt is none =
    split_at bytes at lt is (taken_inside bytes at (λ j less e. none j less (eq-eqb (get_or bytes j 0) 0x20 e)))
    ∙ ap (λ t. take at bytes ∷ split t) (sym (take_rest bytes (at + 1)))
