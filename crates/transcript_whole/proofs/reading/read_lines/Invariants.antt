use Rattle.std.proofs.Common.{length}
use Rattle.transcript_whole.specs.Readings.{SoFar}
use Rattle.transcript_whole.proofs.reading.read_lines.Given as goal

abbrev pub invariant-loop-cut : goal.invariant-loop-cut
invariant-loop-cut l = SoFar l.names l.bytes l.left l.number l.reading

abbrev pub decreases-loop-cut : goal.decreases-loop-cut
decreases-loop-cut l = length l.left
