use Rattle.std.proofs.Common.{◌∙◌, ap}
use Rattle.def_model.specs.Keywords.{keyword_among}
use Rattle.def_tokens.proofs.Words.{of-len}
use Rattle.def_tokens.proofs.keyword.keyword_of.Goals as goal

pub returns : goal.returns
returns c = c.keyword_among.ensures ∙ ap (λ es. keyword_among es c.args.word.now) c.words_of_len.ensures ∙ of-len c.args.word.now
