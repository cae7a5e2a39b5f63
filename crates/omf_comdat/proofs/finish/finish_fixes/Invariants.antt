use Rattle.std.proofs.Common.{◌≡◌, ◌-◌, length}
use Rattle.omf_model.specs.Finished as done
use Rattle.omf_comdat.proofs.Mapped.{mapped}
use Rattle.omf_comdat.proofs.finish.finish_fixes.Given as goal

abbrev pub invariant-fixes : goal.invariant-fixes
invariant-fixes l = l.all.items ≡ mapped (done.fix_for l.segs) l.next l.fn.fixes

abbrev pub decreases-fixes : goal.decreases-fixes
decreases-fixes l = length l.fn.fixes - l.next
