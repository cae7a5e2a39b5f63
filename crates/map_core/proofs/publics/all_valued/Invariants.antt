use Rattle.std.proofs.Common.{◌≡◌, map, take}
use Rattle.std.specs.List.{flat_map, enumerate_from}
use Rattle.map_core.specs.Shown.{by_name}
use Rattle.map_core.specs.Places.{valued_in_module}
use Rattle.map_core.proofs.publics.all_valued.Given as goal

abbrev pub invariant-loop-place : goal.invariant-loop-place
invariant-loop-place l = map by_name l.found.items ≡ flat_map (valued_in_module l.lay) (enumerate_from 1 (map (λ m. m.now) (take l.place l.modules)))
