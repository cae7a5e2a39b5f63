-- Words with one blank between each two, and words each after a blank.
use Rattle.std.proofs.Common.{◌≡◌, ℕ, ◌-◌, ◌≤◌, List, [], ◌∷◌, ◌++◌, length, map, take, drop, get_or, arith, sym, ap, ◌∙◌, append_assoc, append-nil}
use Rattle.std.proofs.lemmas.List.Concat.{flat_map-append}
use Rattle.std.proofs.lemmas.List.{take_rest}
use Rattle.session_model.specs.Text.{words, line_of}
use Rattle.line_words.specs.declared.words.Word.{Word}
use Rattle.line_words.specs.Words.{word_text, after_blank, spaced}

-- those after the first stand after blanks
pub words-spaced : (w : List ℕ) (ws : List (List ℕ)) → words (w ∷ ws) ≡ w ++ spaced ws
words-spaced w [] = sym (append-nil w)
words-spaced w (v ∷ ws) = ap (λ bytes. w ++ 0x20 ∷ bytes) (words-spaced v ws)

pub spaced-words : (w : List ℕ) (ws : List (List ℕ)) → spaced (w ∷ ws) ≡ 0x20 ∷ words (w ∷ ws)
spaced-words w ws = ap (λ bytes. 0x20 ∷ bytes) (sym (words-spaced w ws))

-- words after others
pub words-after : (w : List ℕ) (ws vs : List (List ℕ)) → words (w ∷ ws ++ vs) ≡ words (w ∷ ws) ++ spaced vs
words-after w ws vs =
    words-spaced w (ws ++ vs) ∙ ap (λ bytes. w ++ bytes) (flat_map-append after_blank ws vs)
    ∙ sym (append_assoc w (spaced ws) (spaced vs)) ∙ ap (λ bytes. bytes ++ spaced vs) (sym (words-spaced w ws))

pub joined-parts : (all : List Word) (d : Word) → 1 ≤ length all
    → words (map word_text all) ≡ word_text (get_or all 0 d) ++ spaced (map word_text (take (length all - 1) (drop 1 all)))
joined-parts [] d some = absurd (omega arith)
joined-parts (w ∷ ws) d some =
    words-spaced (word_text w) (map word_text ws)
    ∙ ap (λ others. word_text w ++ spaced (map word_text others)) (sym (take_rest (w ∷ ws) 1))

-- the first of some words, and the others after it
pub joined-pushed : (out mid new : List ℕ) (all : List Word) (d : Word) → 1 ≤ length all → mid ≡ out ++ word_text (get_or all 0 d)
    → new ≡ mid ++ spaced (map word_text (take (length all - 1) (drop 1 all))) → new ≡ out ++ words (map word_text all)
joined-pushed out mid new all d some first others =
    let rest : List ℕ = spaced (map word_text (take (length all - 1) (drop 1 all))) in
    others ∙ ap (λ bytes. bytes ++ rest) first ∙ append_assoc out (word_text (get_or all 0 d)) rest
    ∙ ap (λ bytes. out ++ bytes) (sym (joined-parts all d some))

-- ---- lines that end with a list

pub tail-pushed : (out b c d : List ℕ) (w : List ℕ) (ws vs : List (List ℕ)) → b ≡ out ++ words (w ∷ ws) → c ≡ b ++ spaced vs → d ≡ c ++ 0x0A ∷ []
    → d ≡ out ++ line_of (w ∷ ws ++ vs)
tail-pushed out b c d w ws vs hb hc hd =
    regroup out (words (w ∷ ws)) (spaced vs) b c d hb hc hd ∙ ap (λ bytes. out ++ (bytes ++ 0x0A ∷ [])) (sym (words-after w ws vs))
  where
    regroup : (out x y b c d : List ℕ) → b ≡ out ++ x → c ≡ b ++ y → d ≡ c ++ 0x0A ∷ [] → d ≡ out ++ ((x ++ y) ++ 0x0A ∷ [])
    regroup out x y b c d hb hc hd = rw (hd, hc, hb) (simp append_assoc)
