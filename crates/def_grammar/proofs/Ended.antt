-- The file's end is the last token of a file, and no other.
use Rattle.std.proofs.Common.{◌≡◌, ℕ, zero, suc, ◌-◌, List, [], ◌∷◌, refl, cond, Bool, true, false, nat_lt, length}
use Rattle.std.specs.Prelude.{◌==◌, ◌||◌, ◌&&◌, Option, Some, None, slice_index, take}
use Rattle.std.specs.List.{prefix_len}
use Rattle.std.specs.Char.{is_ascii_digit}
use Rattle.std.specs.Option.{option_map_or}
use Rattle.def_model.specs.declared.keyword.Keyword.{Keyword}
use Rattle.def_model.specs.Keywords.{keyword_of}
use Rattle.def_model.specs.Numbers.{number_of}
use Rattle.def_model.specs.Lexemes.{number, word, keyword, stray, ending, is_ending}
use Rattle.def_model.specs.Tokens.{Placed, Front, front_of, text_len, word_front, is_word_byte, blank_len, line_after, tokens_after, tokens_of}

abbrev pub AreEnded : List Placed → Type 0
AreEnded [] = ⊥
AreEnded (t ∷ []) = t.lexeme ≡ ending
AreEnded (t ∷ u ∷ ts) = (is_ending t.lexeme ≡ false) × AreEnded (u ∷ ts)

more : (t : Placed) (ts : List Placed) → is_ending t.lexeme ≡ false → AreEnded ts → AreEnded (t ∷ ts)
more t [] h ended = absurd ended
more t (u ∷ ts) h ended = (h, ended)

-- ---- no other token is the end

of_either : (test : Bool) (x y : Front) → is_ending x.lexeme ≡ false → is_ending y.lexeme ≡ false → is_ending (cond test x y).lexeme ≡ false
of_either true x y h k = h
of_either false x y h k = k

of_number : (value : Option (Option ℕ)) → is_ending (option_map_or number value stray) ≡ false
of_number None = refl
of_number (Some v) = refl

of_word : (k : Option Keyword) (run : List ℕ) → is_ending (option_map_or keyword k (word run)) ≡ false
of_word None run = refl
of_word (Some k) run = refl

of_run : (digit : Bool) (run : List ℕ) → is_ending (cond digit (option_map_or number (number_of run) stray) (option_map_or keyword (keyword_of run) (word run))) ≡ false
of_run true run = of_number (number_of run)
of_run false run = of_word (keyword_of run) run

of_word_front : (bytes : List ℕ) → is_ending (word_front bytes).lexeme ≡ false
of_word_front bytes =
    let run : List ℕ = take (prefix_len (λ c. is_word_byte c) bytes) bytes in
    of_run (is_ascii_digit (slice_index run 0)) run

of_front : (b : ℕ) (bytes : List ℕ) → is_ending (front_of b bytes).lexeme ≡ false
of_front b bytes =
    of_either (b == 39 || b == 34) _ _ (of_either (nat_lt (text_len b bytes) (length bytes) && slice_index bytes (text_len b bytes) == b) _ _ refl refl)
    (of_either (b == 61) _ _ refl
    (of_either (b == 64) _ _ refl
    (of_either (b == 46) _ _ refl
    (of_either (is_word_byte b) _ _ (of_word_front (b ∷ bytes)) refl))))

-- ---- all tokens

either_ended : (test : Bool) (xs ys : List Placed) → AreEnded xs → AreEnded ys → AreEnded (cond test xs ys)
either_ended true xs ys h k = h
either_ended false xs ys h k = k

tokens_ended : (after line : ℕ) (bytes : List ℕ) → AreEnded (tokens_after after line bytes)
unfolding tokens_after
tokens_ended zero line [] = refl
tokens_ended (suc after) line [] = refl
tokens_ended (suc after) line (b ∷ bytes) = tokens_ended after line bytes
tokens_ended zero line (b ∷ bytes) =
    either_ended (nat_lt 0 (blank_len (b ∷ bytes))) _ _ (tokens_ended (blank_len (b ∷ bytes) - 1) (line_after b line) bytes)
    (more (record { line = line; lexeme = (front_of b bytes).lexeme }) (tokens_after ((front_of b bytes).len - 1) line bytes) (of_front b bytes)
    (tokens_ended ((front_of b bytes).len - 1) line bytes))

pub files_ended : (bytes : List ℕ) → AreEnded (tokens_of bytes)
files_ended bytes = tokens_ended 0 1 bytes
