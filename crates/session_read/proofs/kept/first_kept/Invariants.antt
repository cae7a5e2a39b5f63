use Rattle.std.proofs.Common.{◌≡◌, ◌≤◌, length}
use Rattle.session_model.specs.Kept.{said_in}
use Rattle.session_read.proofs.kept.first_kept.Given as goal

-- The lines that were passed over say nothing of the kind.
abbrev pub invariant-loop-left : goal.invariant-loop-left
invariant-loop-left g l = (said_in g.T.LineKind.in_line l.text ≡ said_in g.T.LineKind.in_line l.left) × (length l.left ≤ length l.text)

abbrev pub decreases-loop-left : goal.decreases-loop-left
decreases-loop-left g l = length l.left
