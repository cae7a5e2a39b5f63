-- How tokens are written, so that they are read again.
use Rattle.std.specs.Prelude.{◌≢◌, ℕ, ◌<◌, ◌^◌, Bool, true, false, ◌||◌, List, [], ◌∷◌, ◌++◌, Some, codes, decimal, if◌then◌else◌}
use Rattle.std.specs.List.{All}
use Rattle.def_model.specs.declared.keyword.Keyword.{Keyword}
use Rattle.def_model.specs.declared.keyword.Keyword.TheVariants as kw
use Rattle.def_model.specs.declared.keyword.Pair.{Pair}
use Rattle.def_model.specs.declared.keyword.Pair.TheVariants as pairs
use Rattle.def_model.specs.Lexemes.{Lexeme, number, equals, at, dot, text, keyword, is_at, is_dot}

-- ---- one token

-- A word of a pair of attributes.
abbrev pub attribute_word : Pair → Bool → List ℕ
attribute_word pairs.Write true = codes "READWRITE"
attribute_word pairs.Write false = codes "READONLY"
attribute_word pairs.Read true = codes "EXECUTEREAD"
attribute_word pairs.Read false = codes "EXECUTEONLY"
attribute_word pairs.Shared true = codes "SHARED"
attribute_word pairs.Shared false = codes "NONSHARED"
attribute_word pairs.Preload true = codes "PRELOAD"
attribute_word pairs.Preload false = codes "LOADONCALL"
attribute_word pairs.Conforming true = codes "CONFORMING"
attribute_word pairs.Conforming false = codes "NONCONFORMING"
attribute_word pairs.Iopl true = codes "IOPL"
attribute_word pairs.Iopl false = codes "NOIOPL"

-- The word for a keyword; the first, where several words are the same keyword.
abbrev pub word_of : Keyword → List ℕ
word_of kw.Name = codes "NAME"
word_of kw.Library = codes "LIBRARY"
word_of kw.Description = codes "DESCRIPTION"
word_of kw.Code = codes "CODE"
word_of kw.Data = codes "DATA"
word_of kw.Segments = codes "SEGMENTS"
word_of kw.Exports = codes "EXPORTS"
word_of kw.Imports = codes "IMPORTS"
word_of kw.StackSize = codes "STACKSIZE"
word_of kw.HeapSize = codes "HEAPSIZE"
word_of kw.Base = codes "BASE"
word_of kw.ProtMode = codes "PROTMODE"
word_of kw.ExeType = codes "EXETYPE"
word_of kw.Unread = codes "STUB"
word_of kw.Window = codes "WINDOWAPI"
word_of (kw.Init true) = codes "INITINSTANCE"
word_of (kw.Init false) = codes "INITGLOBAL"
word_of (kw.Term true) = codes "TERMINSTANCE"
word_of (kw.Term false) = codes "TERMGLOBAL"
word_of kw.Class = codes "CLASS"
word_of kw.ResidentName = codes "RESIDENTNAME"
word_of kw.NoData = codes "NODATA"
word_of (kw.Attribute pair on) = attribute_word pair on
word_of kw.NoEffect = codes "NONE"

-- Numbers are written in decimal, texts in single quotes. An identifier that is no keyword has no spelling of its
-- own: it is written as a text.
abbrev pub spelling : Lexeme → List ℕ
spelling (number (Some n)) = decimal n
spelling equals = 61 ∷ []
spelling at = 64 ∷ []
spelling dot = 46 ∷ []
spelling (text bytes) = 39 ∷ bytes ++ 39 ∷ []
spelling (keyword k) = word_of k
spelling _ = []

-- A text that fits between single quotes on one line.
abbrev pub IsQuotable : List ℕ → Type 0
IsQuotable bytes = All (λ b. (b ≢ 39) × (b ≢ 13) × (b ≢ 10)) bytes

-- The token is read again from its spelling.
abbrev pub Spells : Lexeme → Type 0
Spells (number (Some n)) = n < 2 ^ 32
Spells equals = Unit {0}
Spells at = Unit {0}
Spells dot = Unit {0}
Spells (text bytes) = IsQuotable bytes
Spells (keyword k) = Unit {0}
Spells _ = ⊥

-- ---- a line

-- A space stands between two tokens, but none after `@` and none beside a dot.
abbrev pub gap : Lexeme → Lexeme → List ℕ
gap before next = if is_at before || is_dot before || is_dot next then [] else 32 ∷ []

-- Tokens after another of their line.
abbrev pub text_after : Lexeme → List Lexeme → List ℕ
text_after before [] = []
text_after before (t ∷ ts) = gap before t ++ (spelling t ++ text_after t ts)

-- A line of its own.
abbrev pub line_text : List Lexeme → List ℕ
line_text [] = 10 ∷ []
line_text (t ∷ ts) = spelling t ++ (text_after t ts ++ 10 ∷ [])
