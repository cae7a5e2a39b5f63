use Rattle.std.proofs.Common.{length, sym, ◌∙◌}
use Rattle.std.proofs.lemmas.Bool.{eqb-true}
use Rattle.session_read.proofs.LineLaws.{none-said}
use Rattle.session_read.proofs.kept.first_kept.Goals as goal

pub returns-clause-lines : goal.returns-clause-lines
returns-clause-lines g c = c.loop-left.invariant.0 ∙ none-said g.T.LineKind.in_line c.loop-left.left.now (eqb-true (length c.loop-left.left.now) 0 (sym c.loop-left-test.ensures))
