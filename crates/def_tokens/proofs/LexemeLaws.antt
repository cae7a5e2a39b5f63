-- The tokens of bytes, without their lines.
use Rattle.std.proofs.Common.{◌≡◌, ◌⊎◌, inl, inr, ℕ, zero, suc, ◌+◌, ◌-◌, ◌<◌, List, [], ◌∷◌, ◌++◌, length, drop, take, map, refl, arith, ◌∙◌, ap, Bool, true, false, cond, nat_lt, ◌&&◌, ◌||◌}
use Rattle.std.specs.Prelude.{◌==◌}
use Rattle.std.specs.List.{list_all, prefix_len}
use Rattle.std.proofs.Math.Seq.{take-append_seam}
use Rattle.std.proofs.lemmas.Bool.{ne_eqb}
use Rattle.def_model.specs.Lexemes.{Lexeme}
use Rattle.def_model.specs.Tokens.{tokens_after, tokens_of, blank_len, front_of, front, Front, line_after, Placed, is_word_byte, text_front, word_front, word_lexeme}
use Rattle.def_tokens.proofs.TokenLaws.{tokens-token, if-first, if-second}

abbrev pub bare : List Placed → List Lexeme
bare ts = map (λ (t : Placed). t.lexeme) ts

abbrev pub lexemes : List ℕ → List Lexeme
lexemes bytes = bare (tokens_of bytes)

-- ---- lines

bare-either : (test : Bool) (xs ys us vs : List Placed) → bare xs ≡ bare us → bare ys ≡ bare vs
    → bare (cond test xs ys) ≡ bare (cond test us vs)
bare-either true xs ys us vs h k = h
bare-either false xs ys us vs h k = k

-- The line from which tokens are read changes none.
same-line : (n l m : ℕ) (bytes : List ℕ) → bare (tokens_after n l bytes) ≡ bare (tokens_after n m bytes)
unfolding tokens_after
same-line zero l m [] = refl
same-line (suc n) l m [] = refl
same-line zero l m (b ∷ bytes) =
    bare-either (nat_lt 0 (blank_len (b ∷ bytes))) _ _ _ _
    (same-line (blank_len (b ∷ bytes) - 1) (line_after b l) (line_after b m) bytes)
    (ap (λ ts. (front_of b bytes).lexeme ∷ ts) (same-line ((front_of b bytes).len - 1) l m bytes))
same-line (suc n) l m (b ∷ bytes) = same-line n l m bytes

-- ---- blanks

pub lexemes-space : (bytes : List ℕ) → lexemes (32 ∷ bytes) ≡ lexemes bytes
unfolding tokens_after
lexemes-space bytes = refl

pub lexemes-line_end : (bytes : List ℕ) → lexemes (10 ∷ bytes) ≡ lexemes bytes
unfolding tokens_after
lexemes-line_end bytes = same-line 0 2 1 bytes

-- ---- a token at the front

pub lexemes-front : (b : ℕ) (bytes : List ℕ) (len : ℕ) (t : Lexeme) → blank_len (b ∷ bytes) ≡ 0 → front_of b bytes ≡ front len t → 0 < len
    → lexemes (b ∷ bytes) ≡ t ∷ lexemes (drop len (b ∷ bytes))
lexemes-front b bytes len t none is_front some =
    let same : (front_of b bytes).len ≡ len = ap (λ f. f.len) is_front in
    let begun : 0 < (front_of b bytes).len = omega (arith, same, some) in
    ap bare (tokens-token 1 b bytes none begun)
    ∙ ap (λ f. f.lexeme ∷ lexemes (drop f.len (b ∷ bytes))) is_front

drop-front : (bytes rest : List ℕ) → drop (length bytes) (bytes ++ rest) ≡ rest
drop-front [] rest = refl
drop-front (b ∷ bytes) rest = drop-front bytes rest

pub first-true : (p q : Bool) → (p && q) ≡ true → p ≡ true
first-true true q h = refl
first-true false q h = cc

pub second-true : (p q : Bool) → (p && q) ≡ true → q ≡ true
second-true true q h = h
second-true false q h = cc

-- ---- runs of letters, digits and signs

not-word : (b k : ℕ) → is_word_byte b ≡ true → is_word_byte k ≡ false → (b == k) ≡ false
not-word b k h n = ne_eqb b k (λ e. let same : is_word_byte b ≡ is_word_byte k = ap (λ x. is_word_byte x) e in cc)

no-blank : (p q r s u v w : Bool) (n : ℕ) → p ≡ false → q ≡ false → r ≡ false → s ≡ false → w ≡ false
    → cond (p || q || r) 1 (cond (s && u && v) 1 (cond w (1 + n) 0)) ≡ 0
no-blank p q r s u v w n a b c d e = rw (a, b, c, d, e) refl

word-no_blank : (b : ℕ) (bytes : List ℕ) → is_word_byte b ≡ true → blank_len (b ∷ bytes) ≡ 0
word-no_blank b bytes h =
    no-blank (b == 32) (b == 9) (b == 10) (b == 13) _ _ (b == 59) _
    (not-word b 32 h refl) (not-word b 9 h refl) (not-word b 10 h refl) (not-word b 13 h refl) (not-word b 59 h refl)

pick-word : (p q r s t u : Bool) (a b c d w z : Front) → p ≡ false → q ≡ false → r ≡ false → s ≡ false → t ≡ false → u ≡ true
    → cond (p || q) a (cond r b (cond s c (cond t d (cond u w z)))) ≡ w
pick-word p q r s t u a b c d w z e f g h i j = rw (e, f, g, h, i, j) refl

pub word-is_front : (b : ℕ) (bytes : List ℕ) → is_word_byte b ≡ true → front_of b bytes ≡ word_front (b ∷ bytes)
word-is_front b bytes h =
    pick-word (b == 39) (b == 34) (b == 61) (b == 64) (b == 46) (is_word_byte b) _ _ _ _ _ _
    (not-word b 39 h refl) (not-word b 34 h refl) (not-word b 61 h refl) (not-word b 64 h refl) (not-word b 46 h refl) h

-- ---- texts

pub quote-front : (b : ℕ) (bytes : List ℕ) → (b ≡ 34) ⊎ (b ≡ 39) → front_of b bytes ≡ text_front b bytes
quote-front b bytes (inl e) = rw e refl
quote-front b bytes (inr e) = rw e refl

-- ---- runs

run-len : (run : List ℕ) (c : ℕ) (rest : List ℕ) → list_all (λ b. is_word_byte b) run ≡ true → is_word_byte c ≡ false
    → prefix_len (λ b. is_word_byte b) (run ++ c ∷ rest) ≡ length run
run-len [] c rest h stop = if-second (is_word_byte c) _ _ stop
run-len (b ∷ run) c rest h stop =
    let more : prefix_len (λ b. is_word_byte b) (run ++ c ∷ rest) ≡ length run =
    run-len run c rest (second-true (is_word_byte b) (list_all (λ b. is_word_byte b) run) h) stop in
    let step : 1 + prefix_len (λ b. is_word_byte b) (run ++ c ∷ rest) ≡ length (b ∷ run) = omega (arith, more) in
    if-first (is_word_byte b) (1 + prefix_len (λ b. is_word_byte b) (run ++ c ∷ rest)) 0 (first-true (is_word_byte b) _ h) ∙ step

run-front : (run : List ℕ) (c : ℕ) (rest : List ℕ) → list_all (λ b. is_word_byte b) run ≡ true → is_word_byte c ≡ false
    → word_front (run ++ c ∷ rest) ≡ front (length run) (word_lexeme run)
run-front run c rest h stop =
    ap (λ len. front len (word_lexeme (take len (run ++ c ∷ rest)))) (run-len run c rest h stop)
    ∙ ap (λ bs. front (length run) (word_lexeme bs)) (take-append_seam run (c ∷ rest))

pub lexemes-run : (run : List ℕ) (c : ℕ) (rest : List ℕ) → list_all (λ b. is_word_byte b) run ≡ true → 0 < length run → is_word_byte c ≡ false
    → lexemes (run ++ c ∷ rest) ≡ word_lexeme run ∷ lexemes (c ∷ rest)
lexemes-run [] c rest h some stop = absurd (omega arith)
lexemes-run (b ∷ run) c rest h some stop =
    let is_word : is_word_byte b ≡ true = first-true _ _ h in
    lexemes-front b (run ++ c ∷ rest) (length (b ∷ run)) (word_lexeme (b ∷ run)) (word-no_blank b (run ++ c ∷ rest) is_word)
    (word-is_front b (run ++ c ∷ rest) is_word ∙ run-front (b ∷ run) c rest h stop) some
    ∙ ap (λ bs. word_lexeme (b ∷ run) ∷ lexemes bs) (drop-front (b ∷ run) (c ∷ rest))
