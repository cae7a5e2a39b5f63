use Rattle.std.proofs.Common.{◌∙◌, ap, sym, refl}
use Rattle.def_model.specs.Tokens.{word_front}
use Rattle.def_tokens.proofs.LexemeLaws.{quote-front, word-is_front}
use Rattle.def_tokens.proofs.lexer.token.Goals as goal

pub returns-in-39-clause-found : goal.returns-in-39-clause-found
returns-in-39-clause-found c = quote-front c.args.first c.args.after.now c.in-39.is ∙ c.text.ensures.found

pub returns-in-61-clause-found : goal.returns-in-61-clause-found
returns-in-61-clause-found c = rw (c.in-61.is, c.sign.ensures.len, c.sign.ensures.token) refl

pub returns-in-64-clause-found : goal.returns-in-64-clause-found
returns-in-64-clause-found c = rw (c.in-64.is, c.sign-in-64.ensures.len, c.sign-in-64.ensures.token) refl

pub returns-in-46-clause-found : goal.returns-in-46-clause-found
returns-in-46-clause-found c = rw (c.in-46.is, c.sign-in-46.ensures.len, c.sign-in-46.ensures.token) refl

pub returns-in_default-clause-found : goal.returns-in_default-clause-found
returns-in_default-clause-found c =
    word-is_front c.args.first c.args.after.now (sym c.is_word_byte.ensures ∙ c.if-is_word_byte.true)
    ∙ ap (λ bytes. word_front bytes) (sym c.requires) ∙ c.word.ensures.found
