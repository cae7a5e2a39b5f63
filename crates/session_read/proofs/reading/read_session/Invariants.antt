use Rattle.std.proofs.Common.{length}
use Rattle.session_read.proofs.DraftLaws.{Reached}
use Rattle.session_read.proofs.reading.read_session.Given as goal

-- The lines read so far say the draft, and what is wrong is in those that are left.
abbrev pub invariant-loop-left : goal.invariant-loop-left
invariant-loop-left l = Reached l.bytes l.left l.number l.draft

abbrev pub decreases-loop-left : goal.decreases-loop-left
decreases-loop-left l = length l.left
