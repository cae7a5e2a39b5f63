-- A token as its bytes give it.
use Rattle.std.specs.Prelude.{ℕ, Bool, true, false, List, Option, Some, None}
use Rattle.def_model.specs.declared.keyword.Keyword.{Keyword}

-- A number of 2^32 or more has no value. Bytes that are no token are a stray.
pub data Lexeme : Type 0 where
  number : Option ℕ → Lexeme
  equals : Lexeme
  at : Lexeme
  dot : Lexeme
  text : List ℕ → Lexeme
  word : List ℕ → Lexeme
  keyword : Keyword → Lexeme
  stray : Lexeme
  ending : Lexeme

-- ---- what a token is

-- The value of a number.
abbrev pub number_of_lexeme : Lexeme → Option (Option ℕ)
number_of_lexeme (number value) = Some value
number_of_lexeme _ = None

-- The bytes that may be a name.
abbrev pub name_of_lexeme : Lexeme → Option (List ℕ)
name_of_lexeme (text bytes) = Some bytes
name_of_lexeme (word bytes) = Some bytes
name_of_lexeme _ = None

abbrev pub text_of_lexeme : Lexeme → Option (List ℕ)
text_of_lexeme (text bytes) = Some bytes
text_of_lexeme _ = None

abbrev pub keyword_of_lexeme : Lexeme → Option Keyword
keyword_of_lexeme (keyword k) = Some k
keyword_of_lexeme _ = None

abbrev pub is_equals : Lexeme → Bool
is_equals equals = true
is_equals _ = false

abbrev pub is_at : Lexeme → Bool
is_at at = true
is_at _ = false

abbrev pub is_dot : Lexeme → Bool
is_dot dot = true
is_dot _ = false

abbrev pub is_stray : Lexeme → Bool
is_stray stray = true
is_stray _ = false

abbrev pub is_ending : Lexeme → Bool
is_ending ending = true
is_ending _ = false
