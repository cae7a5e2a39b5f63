use Rattle.std.proofs.Common.{◌≡◌, map, take}
use Rattle.std.specs.List.{flat_map, enumerate_from}
use Rattle.map_core.specs.Shown.{by_address}
use Rattle.map_core.specs.Places.{placed_in_module}
use Rattle.map_core.proofs.publics.all_placed.Given as goal

abbrev pub invariant-loop-place : goal.invariant-loop-place
invariant-loop-place l = map by_address l.found.items ≡ flat_map (placed_in_module l.lay) (enumerate_from 1 (map (λ m. m.now) (take l.place l.modules)))
