-- The tokens of a definition file.
use Rattle.std.specs.Prelude.{ℕ, zero, suc, ◌+◌, ◌-◌, Bool, not, ◌&&◌, ◌||◌, ◌==◌, nat_lt, List, [], ◌∷◌, length, take, slice_index, if◌then◌else◌}
use Rattle.std.specs.List.{prefix_len}
use Rattle.std.specs.Char.{is_ascii_alphanumeric, is_ascii_digit}
use Rattle.std.specs.Option.{option_map_or}
use Rattle.def_model.specs.Keywords.{keyword_of}
use Rattle.def_model.specs.Numbers.{number_of}
use Rattle.def_model.specs.Lexemes.{Lexeme, number, equals, at, dot, text, word, keyword, stray, ending, is_ending}

-- A token and the line that it begins in.
pub record Placed : Type 0 where
  pub line : ℕ
  pub lexeme : Lexeme

-- ---- one token

-- Letters, digits and three signs make up identifiers, keywords and numbers.
abbrev pub is_word_byte : ℕ → Bool
is_word_byte b = is_ascii_alphanumeric b || b == 95 || b == 36 || b == 63

-- A longest run of such bytes: a number where it begins with a digit, else a keyword or an identifier.
abbrev pub word_lexeme : List ℕ → Lexeme
word_lexeme run =
    if is_ascii_digit (slice_index run 0) then option_map_or number (number_of run) stray
    else option_map_or keyword (keyword_of run) (word run)

-- A token and how many bytes it has.
pub record Front : Type 0 where
  pub len : ℕ
  pub lexeme : Lexeme

abbrev pub front : ℕ → Lexeme → Front
front len lexeme = record { len = len; lexeme = lexeme }

-- A comment goes up to the line's end.
abbrev pub comment_len : List ℕ → ℕ
comment_len bytes = prefix_len (λ b. not (b == 10)) bytes

-- How many bytes at the front separate tokens: a space, a tab, a line's end, a CR before LF, or a comment.
abbrev pub blank_len : List ℕ → ℕ
blank_len [] = 0
blank_len (b ∷ bytes) =
    if b == 32 || b == 9 || b == 10 then 1
    else if b == 13 && nat_lt 0 (length bytes) && slice_index bytes 0 == 10 then 1
    else if b == 59 then 1 + comment_len bytes
    else 0

-- A text goes up to the same quote, which stands in the same line.
abbrev pub text_len : ℕ → List ℕ → ℕ
text_len quote bytes = prefix_len (λ b. not (b == quote) && not (b == 10)) bytes

abbrev pub text_front : ℕ → List ℕ → Front
text_front quote bytes =
    let len = text_len quote bytes in
    if nat_lt len (length bytes) && slice_index bytes len == quote then front (len + 2) (text (take len bytes)) else front 1 stray

abbrev pub word_front : List ℕ → Front
word_front bytes = let len = prefix_len (λ b. is_word_byte b) bytes in front len (word_lexeme (take len bytes))

-- The token of b and the bytes after it, where b begins no blank.
abbrev pub front_of : ℕ → List ℕ → Front
front_of b bytes =
    if b == 39 || b == 34 then text_front b bytes
    else if b == 61 then front 1 equals
    else if b == 64 then front 1 at
    else if b == 46 then front 1 dot
    else if is_word_byte b then word_front (b ∷ bytes)
    else front 1 stray

-- ---- all tokens

-- Lines count from 1. There is no line past 2^32 - 1.
abbrev pub next_line : ℕ → ℕ
next_line line = if nat_lt line 4294967295 then line + 1 else line

abbrev pub line_after : ℕ → ℕ → ℕ
line_after b line = if b == 10 then next_line line else line

-- The tokens from a line on, after the bytes that belong to the blank or the token before. The end of
-- the file is the last token.
unfoldable pub tokens_after : ℕ → ℕ → List ℕ → List Placed
tokens_after after line [] = record { line = line; lexeme = ending } ∷ []
tokens_after zero line (b ∷ bytes) =
    if nat_lt 0 (blank_len (b ∷ bytes)) then tokens_after (blank_len (b ∷ bytes) - 1) (line_after b line) bytes
    else record { line = line; lexeme = (front_of b bytes).lexeme } ∷ tokens_after ((front_of b bytes).len - 1) line bytes
tokens_after (suc after) line (b ∷ bytes) = tokens_after after line bytes

-- The tokens of a file.
abbrev pub tokens_of : List ℕ → List Placed
tokens_of bytes = tokens_after 0 1 bytes

-- ---- a reader's place

-- Where a reader stands: its line, and the bytes that it has left.
pub record Place : Type 0 where
  pub line : ℕ
  pub left : List ℕ

abbrev pub tokens_from : Place → List Placed
tokens_from place = tokens_after 0 place.line place.left

-- Nothing follows the end.
abbrev pub before : Placed → List Placed → List Placed
before t others = t ∷ (if is_ending t.lexeme then [] else others)
