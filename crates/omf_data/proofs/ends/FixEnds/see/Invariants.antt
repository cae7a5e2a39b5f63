use Rattle.std.proofs.Common.{length, ◌-◌}
use Rattle.omf_data.specs.Ends.{HaveEnds}
use Rattle.omf_data.proofs.ends.FixEnds.see.Given as goal

abbrev pub invariant-fixes : goal.invariant-fixes
invariant-fixes l = HaveEnds l.self l.fixes

abbrev pub decreases-fixes : goal.decreases-fixes
decreases-fixes l = length l.fixes - l.self.seen
