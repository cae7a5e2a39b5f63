use Rattle.std.proofs.Common.{◌∙◌, ap}
use Rattle.std.specs.Option.{option_map}
use Rattle.def_tokens.proofs.Words.{among-shown}
use Rattle.def_tokens.proofs.keyword.keyword_among.Goals as goal

pub returns-in_err-entry : goal.returns-in_err-entry
returns-in_err-entry c = c.from_residual.ensures ∙ ap (option_map (λ e. e.1)) c.in_err-entry.ensures ∙ among-shown c.args.words.now c.args.word.now

pub returns : goal.returns
returns c = ap (option_map (λ e. e.1)) c.in_ok-entry.ensures ∙ among-shown c.args.words.now c.args.word.now
