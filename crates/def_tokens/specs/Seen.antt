-- Tokens as the program holds them, against those of the bytes.
use Rattle.def_model.specs.Lexemes.{Lexeme, number, equals, at, dot, text, word, keyword, stray, ending}
use Rattle.def_model.specs.Tokens.{Placed}
use Rattle.def_tokens.specs.declared.token.Token.{Token}
use Rattle.def_tokens.specs.declared.token.Token.TheVariants as tokens
use Rattle.def_tokens.specs.declared.token.TokenAt.{TokenAt}

-- A token of the program, without where it lies in memory.
abbrev pub lexeme_of : Token → Lexeme
lexeme_of (tokens.Number value) = number value
lexeme_of tokens.Equals = equals
lexeme_of tokens.At = at
lexeme_of tokens.Dot = dot
lexeme_of (tokens.Text bytes) = text bytes.now
lexeme_of (tokens.Word bytes) = word bytes.now
lexeme_of (tokens.Keyword k) = keyword k
lexeme_of tokens.Stray = stray
lexeme_of tokens.End = ending

abbrev pub placed_of : TokenAt → Placed
placed_of t = record { line = t.line; lexeme = lexeme_of t.token }
