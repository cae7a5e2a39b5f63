use Rattle.std.proofs.Common.{length}
use Rattle.check_core.proofs.headings.+heading_fault.Given as goal

abbrev pub decreases-heading_fault : goal.decreases-heading_fault
decreases-heading_fault l = length l.steady.now
