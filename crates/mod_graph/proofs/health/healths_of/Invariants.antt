use Rattle.std.proofs.Common.{◌≡◌, map}
use Rattle.std.specs.List.{range_with_len}
use Rattle.lx_model.specs.Reach.{HealthOf}
use Rattle.mod_graph.proofs.health.healths_of.Given as goal

abbrev pub invariant-loop-m : goal.invariant-loop-m
invariant-loop-m l = l.healths.items ≡ map (HealthOf l.points) (range_with_len 0 l.m)
