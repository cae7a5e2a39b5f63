use Rattle.std.proofs.Common.{◌≡◌}
use Rattle.memory_core.specs.Objects.{first_held}
use Rattle.memory_core.proofs.objects.objects_held.Given as goal

abbrev pub invariant-loop-before : goal.invariant-loop-before
invariant-loop-before g l = l.held ≡ first_held l.at.pages l.at.bases.now l.before
