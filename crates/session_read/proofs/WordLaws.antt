-- The first word of a line.
use Rattle.std.proofs.Common.{◌≡◌, ℕ, suc, ◌+◌, ◌-◌, Bool, true, false, cond, List, [], ◌∷◌, length, take, drop, refl, sym, ap, ◌∙◌, arith}
use Rattle.std.specs.Prelude.{not}
use Rattle.std.specs.List.{prefix_len}
use Rattle.std.proofs.lemmas.List.{take_rest}
use Rattle.std.proofs.lemmas.Bool.{cond-false, cond-true, not_from_true, not_from_false}
use Rattle.session_model.specs.Lines.{is_blank, onto_word, words_in}

abbrev pub blank_len : List ℕ → ℕ
blank_len bytes = prefix_len (λ b. is_blank b) bytes

abbrev pub word_len : List ℕ → ℕ
word_len bytes = prefix_len (λ b. not (is_blank b)) bytes

passed : (t : Bool) (n : ℕ) → t ≡ true → cond t (1 + n) 0 ≡ suc n
passed t n h = cond-true t (1 + n) 0 h ∙ omega arith

-- blanks in front are passed over
pub words-passed : (bytes : List ℕ) → words_in bytes ≡ words_in (drop (blank_len bytes) bytes)
unfolding words_in
words-passed [] = refl
words-passed (b ∷ bytes) = step (is_blank b) refl (words-passed bytes)
  where
    step : (t : Bool) → is_blank b ≡ t → words_in bytes ≡ words_in (drop (blank_len bytes) bytes)
        → words_in (b ∷ bytes) ≡ words_in (drop (blank_len (b ∷ bytes)) (b ∷ bytes))
    step true h more =
        cond-true (is_blank b) _ _ h ∙ more
        ∙ ap (λ n. words_in (drop n (b ∷ bytes))) (sym (passed (is_blank b) (blank_len bytes) h))
    step false h more = ap (λ n. words_in (drop n (b ∷ bytes))) (sym (cond-false (is_blank b) (1 + blank_len bytes) 0 h))

-- what stands after them begins with no blank
pub no_blank : (bytes : List ℕ) → word_len (drop (blank_len bytes) bytes) ≡ 0 → drop (blank_len bytes) bytes ≡ []
no_blank [] h = refl
no_blank (b ∷ bytes) h = step (is_blank b) refl (no_blank bytes)
  where
    step : (t : Bool) → is_blank b ≡ t → (word_len (drop (blank_len bytes) bytes) ≡ 0 → drop (blank_len bytes) bytes ≡ [])
        → drop (blank_len (b ∷ bytes)) (b ∷ bytes) ≡ []
    step true at more =
        let n : blank_len (b ∷ bytes) ≡ suc (blank_len bytes) = passed (is_blank b) (blank_len bytes) at in
        ap (λ n. drop n (b ∷ bytes)) n ∙ more (sym (ap (λ n. word_len (drop n (b ∷ bytes))) n) ∙ h)
    step false at more =
        let n : blank_len (b ∷ bytes) ≡ 0 = cond-false (is_blank b) (1 + blank_len bytes) 0 at in
        let none : word_len (b ∷ bytes) ≡ 0 = sym (ap (λ n. word_len (drop n (b ∷ bytes))) n) ∙ h in
        let some : word_len (b ∷ bytes) ≡ suc (word_len bytes) = passed (not (is_blank b)) (word_len bytes) (not_from_false (is_blank b) at) in
        absurd (omega (arith, none, some))

-- a byte in front of a blank is a word
word_alone : (b c : ℕ) (bytes : List ℕ) (ws : List (List ℕ)) → is_blank c ≡ true → onto_word b (c ∷ bytes) ws ≡ (b ∷ []) ∷ ws
word_alone b c bytes [] h = refl
word_alone b c bytes (w ∷ ws) h = cond-true (is_blank c) _ _ h

-- a byte that is no blank, and those after it up to a blank
pub words-run : (b : ℕ) (bytes : List ℕ) → is_blank b ≡ false
    → words_in (b ∷ bytes) ≡ take (suc (word_len bytes)) (b ∷ bytes) ∷ words_in (drop (suc (word_len bytes)) (b ∷ bytes))
unfolding words_in
words-run b [] h = cond-false (is_blank b) _ _ h
words-run b (c ∷ bytes) h = step (is_blank c) refl (words-run c bytes)
  where
    step : (t : Bool) → is_blank c ≡ t
        → (is_blank c ≡ false → words_in (c ∷ bytes) ≡ take (suc (word_len bytes)) (c ∷ bytes) ∷ words_in (drop (suc (word_len bytes)) (c ∷ bytes)))
        → words_in (b ∷ c ∷ bytes) ≡ take (suc (word_len (c ∷ bytes))) (b ∷ c ∷ bytes) ∷ words_in (drop (suc (word_len (c ∷ bytes))) (b ∷ c ∷ bytes))
    step true at more =
        let n : word_len (c ∷ bytes) ≡ 0 = cond-false (not (is_blank c)) (1 + word_len bytes) 0 (not_from_true (is_blank c) at) in
        cond-false (is_blank b) _ _ h ∙ word_alone b c bytes (words_in (c ∷ bytes)) at
        ∙ ap (λ n. take (suc n) (b ∷ c ∷ bytes) ∷ words_in (drop (suc n) (b ∷ c ∷ bytes))) (sym n)
    step false at more =
        let n : word_len (c ∷ bytes) ≡ suc (word_len bytes) = passed (not (is_blank c)) (word_len bytes) (not_from_false (is_blank c) at) in
        cond-false (is_blank b) _ _ h ∙ ap (onto_word b (c ∷ bytes)) (more at) ∙ cond-false (is_blank c) _ _ at
        ∙ ap (λ n. take (suc n) (b ∷ c ∷ bytes) ∷ words_in (drop (suc n) (b ∷ c ∷ bytes))) (sym n)

-- the bytes up to the first blank, where they are some
pub words-first : (text : List ℕ) (len : ℕ) → len ≡ word_len text → (len ≡ 0 → ⊥) → words_in text ≡ take len text ∷ words_in (drop len text)
words-first [] len is some = absurd (some is)
words-first (b ∷ bytes) len is some = step (is_blank b) refl
  where
    step : (t : Bool) → is_blank b ≡ t → words_in (b ∷ bytes) ≡ take len (b ∷ bytes) ∷ words_in (drop len (b ∷ bytes))
    step true at = absurd (some (is ∙ cond-false (not (is_blank b)) (1 + word_len bytes) 0 (not_from_true (is_blank b) at)))
    step false at =
        let n : len ≡ suc (word_len bytes) = is ∙ passed (not (is_blank b)) (word_len bytes) (not_from_false (is_blank b) at) in
        words-run b bytes at ∙ ap (λ n. take n (b ∷ bytes) ∷ words_in (drop n (b ∷ bytes))) (sym n)

pub words-none : (bytes : List ℕ) → word_len (drop (blank_len bytes) bytes) ≡ 0 → words_in bytes ≡ []
unfolding words_in
words-none bytes h = words-passed bytes ∙ ap words_in (no_blank bytes h)

-- ---- as the code cuts it

pub word-none_at : (bytes : List ℕ) (from len : ℕ) → from ≡ blank_len bytes → len ≡ word_len (drop from bytes) → len ≡ 0 → words_in bytes ≡ []
word-none_at bytes from len start is none =
    words-none bytes (sym (ap (λ n. word_len (drop n bytes)) start) ∙ sym is ∙ none)

pub word-first_at : (bytes : List ℕ) (from len : ℕ) (text : List ℕ) → from ≡ blank_len bytes → len ≡ word_len (drop from bytes) → drop from bytes ≡ text
    → (len ≡ 0 → ⊥) → words_in bytes ≡ take len text ∷ words_in (take (length text - len) (drop len text))
word-first_at bytes from len text start is same some =
    words-passed bytes ∙ ap (λ n. words_in (drop n bytes)) (sym start) ∙ ap words_in same
    ∙ words-first text len (is ∙ ap word_len same) some
    ∙ ap (λ after. take len text ∷ words_in after) (sym (take_rest text len))
