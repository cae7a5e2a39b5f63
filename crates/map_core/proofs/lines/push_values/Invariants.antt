use Rattle.std.proofs.Common.{◌≡◌, ◌++◌, map, drop}
use Rattle.std.specs.List.{flat_map}
use Rattle.map_model.specs.Lines.{constant_line}
use Rattle.map_core.specs.Shown.{by_name}
use Rattle.map_core.proofs.lines.push_values.Given as goal

abbrev pub invariant-loop-value : goal.invariant-loop-value
invariant-loop-value l =
    l.out.items ++ flat_map constant_line (map by_name (drop l.value-index l.values)) ≡ l.initial.out.items ++ flat_map constant_line (map by_name l.values)
