use Rattle.std.proofs.Common.{◌∙◌, ap, sym, take}
use Rattle.def_model.specs.Tokens.{front, word_lexeme}
use Rattle.def_tokens.proofs.lexer.word.Goals as goal

pub returns-clause-found : goal.returns-clause-found
returns-clause-found c =
    ap (λ len. front len (word_lexeme (take len c.args.bytes.now))) (sym c.word_len-len.ensures.value)
    ∙ ap (λ lexeme. front c.word_len-len.result lexeme) (sym c.word_token.ensures.found)
