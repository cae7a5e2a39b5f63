-- The tokens of a definition file, and the value that their statements give.
use Rattle.std.specs.Prelude.{◌≡◌, List, [], ◌∷◌, map}
use Rattle.obj_types.specs.declared.definition.DefFile.{DefFile}
use Rattle.def_model.specs.Lexemes.{Lexeme, ending}
use Rattle.def_model.specs.Tokens.{Placed}
use Rattle.def_model.specs.Meaning.{file_of}
use Rattle.def_grammar.specs.Statements.{Statement, statements_then}
use Rattle.def_grammar.specs.Rules.{AreStatements}
use Rattle.def_grammar.specs.Sayings.{said}

-- Allowed statements, one after the other, up to the file's end.
pub record Sentence (tokens : List Lexeme) (d : DefFile) : Type 0 where
  pub statements : List Statement
  pub allowed : AreStatements statements
  pub spelled : tokens ≡ statements_then statements (ending ∷ [])
  pub means : d ≡ file_of (said statements)

-- Tokens without their lines.
abbrev pub bare : List Placed → List Lexeme
bare tokens = map (λ (t : Placed). t.lexeme) tokens
