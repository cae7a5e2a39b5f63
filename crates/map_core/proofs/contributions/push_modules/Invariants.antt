use Rattle.std.proofs.Common.{◌≡◌, ◌++◌, map, take}
use Rattle.std.specs.List.{flat_map, enumerate_from}
use Rattle.map_core.specs.Places.{module_text}
use Rattle.map_core.proofs.contributions.push_modules.Given as goal

abbrev pub invariant-loop-place : goal.invariant-loop-place
invariant-loop-place l = l.out.items ≡ l.initial.out.items ++ flat_map (module_text l.lay) (enumerate_from 1 (map (λ m. m.now) (take l.place l.modules)))
