use Rattle.std.proofs.Common.{◌≡◌, ◌++◌, map, take}
use Rattle.std.specs.List.{filter_map}
use Rattle.map_core.specs.Shown.{by_name}
use Rattle.map_core.specs.Places.{valued_in}
use Rattle.map_core.proofs.publics.add_valued.Given as goal

abbrev pub invariant-loop-public : goal.invariant-loop-public
invariant-loop-public l = map by_name l.found.items ≡ map by_name l.initial.found.items ++ filter_map (valued_in l.lay l.by) (take l.public-index l.publics)
