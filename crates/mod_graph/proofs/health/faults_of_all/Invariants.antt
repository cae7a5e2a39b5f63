use Rattle.std.proofs.Common.{◌≡◌, map}
use Rattle.std.specs.List.{range_with_len}
use Rattle.mod_graph.specs.Faults.{faults_of}
use Rattle.mod_graph.proofs.health.faults_of_all.Given as goal

abbrev pub invariant-loop-m : goal.invariant-loop-m
invariant-loop-m l = l.faults.items ≡ map (faults_of l.points) (range_with_len 0 l.m)
