use Rattle.std.proofs.Common.{◌≡◌, ◌++◌, map, drop}
use Rattle.std.specs.List.{flat_map}
use Rattle.map_model.specs.Lines.{public_line}
use Rattle.map_core.specs.Shown.{by_address}
use Rattle.map_core.proofs.lines.push_places.Given as goal

abbrev pub invariant-loop-place : goal.invariant-loop-place
invariant-loop-place l =
    l.out.items ++ flat_map public_line (map by_address (drop l.place-index l.places)) ≡ l.initial.out.items ++ flat_map public_line (map by_address l.places)
