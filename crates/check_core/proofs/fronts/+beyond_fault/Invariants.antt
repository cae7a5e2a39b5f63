use Rattle.std.proofs.Common.{length}
use Rattle.check_core.proofs.fronts.+beyond_fault.Given as goal

abbrev pub decreases-beyond_fault : goal.decreases-beyond_fault
decreases-beyond_fault l = length l.steady.now
