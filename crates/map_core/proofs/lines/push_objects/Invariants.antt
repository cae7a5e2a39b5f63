use Rattle.std.proofs.Common.{◌≡◌, ◌+◌, ◌++◌, drop}
use Rattle.std.specs.List.{flat_map, enumerate_from}
use Rattle.map_model.specs.Lines.{object_line}
use Rattle.map_core.proofs.lines.push_objects.Given as goal

abbrev pub invariant-loop-object : goal.invariant-loop-object
invariant-loop-object l =
    (l.number ≡ l.object-index)
    × (l.out.items ++ flat_map object_line (enumerate_from (l.number + 1) (drop l.object-index l.objects))
    ≡ l.initial.out.items ++ flat_map object_line (enumerate_from 1 l.objects))
