use Rattle.std.proofs.Common.{◌≡◌}
use Rattle.memory_core.specs.Objects.{pages_held}
use Rattle.memory_core.proofs.objects.pages_held.Given as goal

abbrev pub invariant-loop-page : goal.invariant-loop-page
invariant-loop-page g l = l.held ≡ pages_held l.at.pages l.object l.page
