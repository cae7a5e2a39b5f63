use Rattle.std.proofs.Common.{◌≡◌, ◌++◌, map, take}
use Rattle.std.specs.List.{filter_map}
use Rattle.map_core.specs.Shown.{by_address}
use Rattle.map_core.specs.Places.{placed_in}
use Rattle.map_core.proofs.publics.add_placed.Given as goal

abbrev pub invariant-loop-public : goal.invariant-loop-public
invariant-loop-public l = map by_address l.found.items ≡ map by_address l.initial.found.items ++ filter_map (placed_in l.lay l.by) (take l.public-index l.publics)
