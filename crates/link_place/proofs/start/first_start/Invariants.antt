use Rattle.std.proofs.Common.{◌≡◌}
use Rattle.link_place.proofs.Starts.{first_from}
use Rattle.link_place.proofs.start.first_start.Given as goal

abbrev pub invariant-loop-index : goal.invariant-loop-index
invariant-loop-index l = first_from l.modules l.index ≡ first_from l.modules 0
