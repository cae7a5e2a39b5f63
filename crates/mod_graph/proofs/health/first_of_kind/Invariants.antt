use Rattle.std.proofs.Common.{◌≡◌, drop}
use Rattle.mod_graph.specs.Faults.{first_of_kind}
use Rattle.mod_graph.proofs.health.first_of_kind.Given as goal

-- the members so far have no fault of the kind
abbrev pub invariant-loop-m : goal.invariant-loop-m
invariant-loop-m l = first_of_kind l.kind l.faults l.order ≡ first_of_kind l.kind l.faults (drop l.m-index l.order)
