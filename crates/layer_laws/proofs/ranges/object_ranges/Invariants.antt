use Rattle.std.proofs.Common.{take}
use Rattle.std.specs.List.{All}
use Rattle.layer_laws.specs.Ranges.{ModuleInRange}
use Rattle.layer_laws.proofs.ranges.object_ranges.Given as goal

abbrev pub invariant-loop-object : goal.invariant-loop-object
invariant-loop-object l = All ModuleInRange (take l.object-index l.objects)
