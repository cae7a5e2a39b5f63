use Rattle.std.proofs.Common.{◌≡◌, map}
use Rattle.gen_core.proofs.Placed.{stand_of}
use Rattle.gen_core.proofs.placing.bases_of.Given as goal

abbrev pub invariant-loop-new_residence : goal.invariant-loop-new_residence
invariant-loop-new_residence l = l.mods ≡ map stand_of l.yielded
