use Rattle.std.proofs.Common.{sym, ◌∙◌}
use Rattle.command_line.proofs.Parts.{before_none, before_some}
use Rattle.command_line.proofs.stem.before_dot.Goals as goal

pub returns-in-Some : goal.returns-in-Some
returns-in-Some c = before_some _ _ _ (sym c.dot_in.ensures ∙ c.in-Some.is)

pub returns-in-None : goal.returns-in-None
returns-in-None c = before_none _ _ (sym c.dot_in.ensures ∙ c.in-None.is)
