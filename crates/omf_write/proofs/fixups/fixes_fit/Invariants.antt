use Rattle.std.proofs.Common.{take}
use Rattle.std.specs.List.{AllByRecursion}
use Rattle.omf_write.specs.ObjectFits.{FixFits}
use Rattle.omf_write.proofs.fixups.fixes_fit.Given as goal

abbrev pub invariant-loop-fix : goal.invariant-loop-fix
invariant-loop-fix l = AllByRecursion FixFits (take l.fix-index l.fixes)
