use Rattle.std.proofs.Common.{◌∙◌}
use Rattle.def_tokens.proofs.TokenLaws.{line-is}
use Rattle.def_tokens.proofs.lexer.comment_len.Goals as goal

pub returns-clause-value : goal.returns-clause-value
returns-clause-value c = c.text_len.ensures.value ∙ line-is c.args.bytes.now
