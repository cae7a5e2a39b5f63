use Rattle.std.proofs.Common.{◌≡◌, take}
use Rattle.mod_graph.specs.Faults.{met_by}
use Rattle.mod_graph.proofs.health.met_by.Given as goal

-- the faults of the targets so far
abbrev pub invariant-loop-target : goal.invariant-loop-target
invariant-loop-target l = l.met ≡ met_by l.points l.m (take l.target-index l.targets)
