use Rattle.omf_data.specs.Begun.{HavePlaces}
use Rattle.std.proofs.Common.{length, ◌-◌}
use Rattle.omf_data.proofs.begun.BegunPlaces.see.Given as goal

abbrev pub invariant-begun : goal.invariant-begun
invariant-begun l = HavePlaces l.self l.begun

abbrev pub decreases-begun : goal.decreases-begun
decreases-begun l = length l.begun - l.self.seen
