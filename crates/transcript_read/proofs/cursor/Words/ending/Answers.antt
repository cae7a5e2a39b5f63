use Rattle.std.proofs.Common.{rules, sym, ◌∙◌}
use Rattle.transcript_read.proofs.Steps.{ends_all, ends_more}
use Rattle.transcript_read.proofs.cursor.Words.ending.Goals as goal

pub returns-then-is_some : goal.returns-then-is_some
returns-then-is_some g c = ends_more c.args.value (λ t. t.now) c.args.self.left c.args.self.stopped (sym c.is_some.ensures ∙ c.if-is_some.true)

pub returns : goal.returns
returns g c = ends_all c.args.value (λ t. t.now) c.args.self.left c.args.self.stopped (sym c.is_some.ensures ∙ c.if-is_some.false) (search rules)
