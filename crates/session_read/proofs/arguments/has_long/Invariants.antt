use Rattle.std.proofs.Common.{◌≡◌, length}
use Rattle.std.specs.List.{list_any}
use Rattle.session_model.specs.Lines.{words_in}
use Rattle.session_model.specs.Statements.{is_long}
use Rattle.session_read.proofs.arguments.has_long.Given as goal

abbrev pub invariant-loop-cut : goal.invariant-loop-cut
invariant-loop-cut l = list_any is_long (words_in l.left) ≡ list_any is_long (words_in l.line)

abbrev pub decreases-loop-cut : goal.decreases-loop-cut
decreases-loop-cut l = length l.left
