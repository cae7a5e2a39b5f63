use Rattle.std.proofs.Common.{◌≤◌, ◌-◌, length}
use Rattle.session_read.proofs.threads.script_after.Given as goal

abbrev pub invariant-loop-end : goal.invariant-loop-end
invariant-loop-end l = l.at ≤ length l.bytes

abbrev pub decreases-loop-end : goal.decreases-loop-end
decreases-loop-end l = length l.bytes - l.at
