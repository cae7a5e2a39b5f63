-- Words of visible bytes, with one blank between each two, are read as these words, and their line as one line.
use Rattle.std.proofs.Common.{◌≡◌, ◌≢◌, ℕ, suc, ◌+◌, true, false, cond, List, [], ◌∷◌, ◌++◌, length, take, drop, refl, sym, ap, ◌∙◌, arith, append-nil}
use Rattle.std.specs.Prelude.{not}
use Rattle.std.specs.List.{AllByRecursion, list_all}
use Rattle.std.proofs.lemmas.Bool.Decides.{nat_tests}
use Rattle.std.proofs.lemmas.List.{take_at, drop_at}
use Rattle.std.proofs.lemmas.List.Folds.{list_all-append}
use Rattle.std.proofs.lemmas.Bool.{not_from_false, and_parts, and_from, ne_eqb, cond-true}
use Rattle.session_model.specs.Lines.{is_blank, is_allowed, with_byte, lines_in, words_in}
use Rattle.session_model.specs.Text.{words}
use Rattle.session_model.proofs.KeptText.{uncut}
use Rattle.session_read.proofs.WordLaws.{word_len, words-first}
use Rattle.session_read.proofs.LineLaws.{line_end, line_byte}
use Rattle.session_text.specs.Writable.{IsVisible, IsPlain}

visible-not_blank : (b : ℕ) → IsVisible b → is_blank b ≡ false
visible-not_blank b h = grind (arith, nat_tests)

visible-allowed : (b : ℕ) → IsVisible b → is_allowed b ≡ true
visible-allowed b h = grind (arith, nat_tests)

-- ---- words

run-step : (b : ℕ) (n k : ℕ) → IsVisible b → n ≡ k → cond (not (is_blank b)) (1 + n) 0 ≡ suc k
run-step b n k h e = cond-true (not (is_blank b)) (1 + n) 0 (not_from_false (is_blank b) (visible-not_blank b h)) ∙ omega (arith, e)

run-last : (w : List ℕ) → AllByRecursion IsVisible w → word_len w ≡ length w
run-last [] h = refl
run-last (b ∷ w) h = run-step b (word_len w) (length w) h.0 (run-last w h.1)

run-before : (w rest : List ℕ) → AllByRecursion IsVisible w → word_len (w ++ 0x20 ∷ rest) ≡ length w
run-before [] rest h = refl
run-before (b ∷ w) rest h = run-step b (word_len (w ++ 0x20 ∷ rest)) (length w) h.0 (run-before w rest h.1)

word-last : (w : List ℕ) → IsPlain w → words_in w ≡ w ∷ []
unfolding words_in
word-last w h =
    words-first w (length w) (sym (run-last w h.visible)) (λ z. omega (arith, h.some, z))
    ∙ ap (λ bytes. bytes ∷ words_in (drop (length w) w)) (ap (take (length w)) (sym (append-nil w)) ∙ take_at w [] (length w) refl)
    ∙ ap (λ bytes. w ∷ words_in bytes) (ap (drop (length w)) (sym (append-nil w)) ∙ drop_at w [] (length w) refl)

word-before : (w rest : List ℕ) → IsPlain w → words_in (w ++ 0x20 ∷ rest) ≡ w ∷ words_in rest
unfolding words_in
word-before w rest h =
    words-first (w ++ 0x20 ∷ rest) (length w) (sym (run-before w rest h.visible)) (λ z. omega (arith, h.some, z))
    ∙ ap (λ bytes. bytes ∷ words_in (drop (length w) (w ++ 0x20 ∷ rest))) (take_at w (0x20 ∷ rest) (length w) refl)
    ∙ ap (λ bytes. w ∷ words_in bytes) (drop_at w (0x20 ∷ rest) (length w) refl)

pub words-read : (ws : List (List ℕ)) → AllByRecursion IsPlain ws → words_in (words ws) ≡ ws
unfolding words_in
words-read [] h = refl
words-read (w ∷ []) h = word-last w h.0
words-read (w ∷ v ∷ ws) h = word-before w (words (v ∷ ws)) h.0 ∙ ap (λ vs. w ∷ vs) (words-read (v ∷ ws) h.1)

-- ---- bytes

word-allowed : (w : List ℕ) → AllByRecursion IsVisible w → list_all is_allowed w ≡ true
word-allowed [] h = refl
word-allowed (b ∷ w) h = and_from (is_allowed b) (list_all is_allowed w) (visible-allowed b h.0) (word-allowed w h.1)

pub words-allowed : (ws : List (List ℕ)) → AllByRecursion IsPlain ws → list_all is_allowed (words ws) ≡ true
words-allowed [] h = refl
words-allowed (w ∷ []) h = word-allowed w h.0.visible
words-allowed (w ∷ v ∷ ws) h =
    list_all-append is_allowed w (0x20 ∷ words (v ∷ ws))
    ∙ and_from (list_all is_allowed w) (list_all is_allowed (words (v ∷ ws))) (word-allowed w h.0.visible) (words-allowed (v ∷ ws) h.1)

-- ---- lines

allowed-inner : (b : ℕ) → is_allowed b ≡ true → (b ≢ 10) × (b ≢ 13)
allowed-inner b h = ((λ e. outside b 10 refl h e), (λ e. outside b 13 refl h e))
  where
    outside : (b c : ℕ) → is_allowed c ≡ false → is_allowed b ≡ true → b ≡ c → ⊥
    outside b c stray good e = (let same : is_allowed b ≡ is_allowed c = ap is_allowed e in let wrong : ⊥ = cc in wrong)

pub line-written : (line rest : List ℕ) → list_all is_allowed line ≡ true → lines_in (line ++ 0x0A ∷ rest) ≡ line ∷ lines_in rest
line-written [] rest h = line_end 10 rest refl
line-written (b ∷ line) rest h =
    let inner = allowed-inner b (and_parts (is_allowed b) (list_all is_allowed line) h).0 in
    line_byte b (line ++ 0x0A ∷ rest) (uncut b (line ++ 0x0A ∷ rest) (ne_eqb b 13 inner.1)) inner.0
    ∙ ap (with_byte b) (line-written line rest (and_parts (is_allowed b) (list_all is_allowed line) h).1)
