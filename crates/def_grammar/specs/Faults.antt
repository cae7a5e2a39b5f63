-- The first fault of a file: the first token with which no grammatical file begins as this one does, and what is wrong with it.
use Rattle.std.specs.Prelude.{◌≡◌, ◌⊎◌, ℕ, ◌<◌, Bool, true, false, List, [], ◌∷◌, ◌++◌, length, Option, Some, is_some}
use Rattle.obj_types.specs.declared.definition.DefFile.{DefFile}
use Rattle.def_model.specs.declared.keyword.Keyword.{Keyword}
use Rattle.def_model.specs.declared.keyword.Keyword.TheVariants as kw
use Rattle.def_model.specs.Lexemes.{Lexeme, number, text, word, keyword, stray, ending, is_stray, name_of_lexeme, number_of_lexeme}
use Rattle.def_model.specs.Tokens.{Placed}
use Rattle.def_model.specs.declared.refusal.DefKind.{DefKind}
use Rattle.def_model.specs.declared.refusal.DefKind.TheVariants as kinds
use Rattle.def_model.specs.declared.refusal.DefRefusal.{DefRefusal}
use Rattle.def_grammar.specs.Statements.{Statement, statements_then}
use Rattle.def_grammar.specs.Rules.{AreStatements, stands}
use Rattle.def_grammar.specs.Sentences.{Sentence, bare}

-- ---- what files begin with

-- Some grammatical file begins with these tokens.
pub record Begins (tokens : List Lexeme) : Type 0 where
  pub rest : List Lexeme
  pub value : DefFile
  pub sentence : Sentence (tokens ++ rest) value

-- The token may stand after these.
abbrev pub MayStand : List Lexeme → Lexeme → Type 0
MayStand before t = Begins (before ++ t ∷ [])

-- ---- tokens of one sort

-- What a token may have: a number, the bytes of a text or an identifier, or which word of its pair it is.
pub record Value : Type 0 where
  pub amount : Option ℕ
  pub letters : List ℕ
  pub on : Bool

-- A token of the same sort.
abbrev pub alike : Lexeme → Value → Lexeme
alike (number n) v = number v.amount
alike (text bytes) v = text v.letters
alike (word bytes) v = word v.letters
alike (keyword (kw.Attribute pair on)) v = keyword (kw.Attribute pair v.on)
alike (keyword (kw.Init each)) v = keyword (kw.Init v.on)
alike (keyword (kw.Term each)) v = keyword (kw.Term v.on)
alike t v = t

-- Another token of its sort may stand there, or none.
pub record AnotherMay (before : List Lexeme) (t : Lexeme) : Type 0 where
  pub value : Value
  pub may : MayStand before (alike t value)

abbrev pub NoneMay : List Lexeme → Lexeme → Type 0
NoneMay before t = (v : Value) → MayStand before (alike t v) → ⊥

-- ---- what is wrong

-- The keywords of statements that are read.
abbrev pub is_head : Keyword → Bool
is_head kw.Name = true
is_head kw.Library = true
is_head kw.Description = true
is_head kw.Code = true
is_head kw.Data = true
is_head kw.Segments = true
is_head kw.Exports = true
is_head kw.Imports = true
is_head kw.StackSize = true
is_head kw.HeapSize = true
is_head kw.Base = true
is_head kw.ProtMode = true
is_head kw.ExeType = true
is_head _ = false

abbrev pub begins_statement : Lexeme → Bool
begins_statement (keyword k) = is_head k
begins_statement _ = false

abbrev pub is_pair_word : Lexeme → Bool
is_pair_word (keyword (kw.Attribute pair on)) = true
is_pair_word (keyword (kw.Init each)) = true
is_pair_word (keyword (kw.Term each)) = true
is_pair_word _ = false

-- The bytes of a text or an identifier.
pub record HasBytes (t : Lexeme) (P : List ℕ → Type 0) : Type 0 where
  pub bytes : List ℕ
  pub is : name_of_lexeme t ≡ Some bytes
  pub holds : P bytes

-- It is the keyword of a statement that may stand once, and whole statements before it have one such.
pub record StandsAlready (before : List Lexeme) (t : Lexeme) : Type 0 where
  pub begun : Keyword
  pub is : t ≡ keyword begun
  pub statements : List Statement
  pub allowed : AreStatements statements
  pub spelled : before ≡ statements_then statements []
  pub again : stands begun statements ≡ true

-- Why a token may not stand after these:
abbrev pub IsCause : List Lexeme → Lexeme → DefKind → Type 0
-- it is none;
IsCause before t kinds.Token = t ≡ stray
-- a statement may begin there, or the file end; the token begins none, and no token of its sort may stand;
IsCause before t kinds.Statement = MayStand before ending × (begins_statement t ≡ false) × NoneMay before t × (is_stray t ≡ false)
-- the file may not end there, and no token of its sort may stand; or a name may stand, and it is an empty one;
IsCause before t kinds.Expected =
    (is_stray t ≡ false)
    × (((MayStand before ending → ⊥) × NoneMay before t) ⊎ (HasBytes t (λ bytes. bytes ≡ []) × AnotherMay before t))
-- another number may;
IsCause before t kinds.Number = (is_some (number_of_lexeme t) ≡ true) × AnotherMay before t
-- the other word of its pair may;
IsCause before t kinds.Conflict = (is_pair_word t ≡ true) × AnotherMay before t
-- it begins a statement that stands there already;
IsCause before t kinds.Twice = MayStand before ending × StandsAlready before t
-- another name or text may.
IsCause before t kinds.TooLong = HasBytes t (λ bytes. 255 < length bytes) × AnotherMay before t

-- The tokens before it begin a grammatical file, and with it they begin none.
pub record IsFirstFault (tokens : List Placed) (fault : DefRefusal) : Type 0 where
  pub before : List Placed
  pub here : Placed
  pub after : List Placed
  pub are : tokens ≡ before ++ here ∷ after
  pub begins : Begins (bare before)
  pub stops : MayStand (bare before) here.lexeme → ⊥
  pub line : fault.line ≡ here.line
  pub cause : IsCause (bare before) here.lexeme fault.kind
