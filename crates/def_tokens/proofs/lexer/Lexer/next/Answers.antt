use Rattle.std.proofs.Common.{◌∙◌, ap, sym, get_or, take, drop, length, ◌-◌}
use Rattle.def_tokens.specs.Seen.{lexeme_of}
use Rattle.def_model.specs.Tokens.{tokens_from, blank_len}
use Rattle.def_tokens.proofs.TokenLaws.{tokens-next, tokens-end, first-after}
use Rattle.def_tokens.proofs.lexer.Lexer.next.Goals as goal

pub returns-in_default-clause-token : goal.returns-in_default-clause-token
returns-in_default-clause-token c =
    sym c.pass_blanks.ensures.same
    ∙ ap (λ p. tokens_from p) (sym c.self.view_is)
    ∙ tokens-end c.self.inside.line c.self.inside.left.now (tokens_from c.pass_blanks.new.self) c.in_default.len_below

pub returns-clause-token : goal.returns-clause-token
returns-clause-token c =
    let left = c.self.inside.left.now in
    sym c.pass_blanks.ensures.same
    ∙ ap (λ p. tokens_from p) (sym c.self.view_is)
    ∙ tokens-next c.self.inside.line c.token-len.result.len (get_or left 0 0) (take (length left - 1) (drop 1 left)) left
    (lexeme_of c.token-len.result.token) (first-after left c.in-len1-up.len_at_least)
    (ap (λ p. blank_len p.left) c.self.view_is ∙ c.pass_blanks.ensures.none)
    c.token-len.ensures.found c.token-len.ensures.some c.token-len.ensures.not_end
