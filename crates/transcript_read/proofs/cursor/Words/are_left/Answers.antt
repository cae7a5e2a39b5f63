use Rattle.std.proofs.Common.{rules, ◌∙◌}
use Rattle.transcript_read.proofs.Steps.{left_word}
use Rattle.transcript_read.proofs.cursor.Words.are_left.Goals as goal

pub returns : goal.returns
returns c = c.is_some.ensures ∙ left_word (λ t. t.now) c.args.self.now.left c.args.self.now.stopped (search rules)
