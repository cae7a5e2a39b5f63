-- Grammatical files are read.
use Rattle.std.proofs.Common.{◌≡◌, List, [], ◌∷◌, Ok, refl, ap, sym, ◌∙◌}
use Rattle.obj_types.specs.declared.definition.DefFile.{DefFile}
use Rattle.def_model.specs.Lexemes.{Lexeme, ending}
use Rattle.def_model.specs.Tokens.{tokens_of}
use Rattle.def_model.specs.Draft.{fresh}
use Rattle.def_model.specs.Statements.{statement}
use Rattle.def_file.proofs.SaysLaws.{says, run-says}
use Rattle.def_grammar.specs.Laws.{GrammaticalAreRead}
use Rattle.def_grammar.specs.Sentences.{Sentence, bare}
use Rattle.def_grammar.specs.Sayings.{said}
use Rattle.def_grammar.proofs.After.{answered}
use Rattle.def_grammar.proofs.ReadStatements.{statements_read}

pub sentence_read : (tokens : List Lexeme) (d : DefFile) → Sentence tokens d → says fresh tokens ≡ Ok d
unfolding statement
sentence_read tokens d h =
    let found = statements_read h.statements h.allowed in
    ap (says fresh) h.spelled
    ∙ (found.reads (ending ∷ [])
    ∙ (answered found.reading ending [] (statement (said h.statements) ending) refl (found.after ending refl)
    ∙ ap Ok (sym h.means)))

pub grammatical_read : GrammaticalAreRead
grammatical_read bytes d h = run-says fresh (tokens_of bytes) d (sentence_read (bare (tokens_of bytes)) d h)
