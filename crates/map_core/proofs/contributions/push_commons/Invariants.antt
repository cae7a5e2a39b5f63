use Rattle.std.proofs.Common.{◌≡◌, ◌++◌, take}
use Rattle.std.specs.List.{flat_map, enumerate_from}
use Rattle.map_core.specs.Places.{common_text}
use Rattle.map_core.proofs.contributions.push_commons.Given as goal

abbrev pub invariant-loop-place : goal.invariant-loop-place
invariant-loop-place l = l.out.items ≡ l.initial.out.items ++ flat_map (common_text l.lay) (enumerate_from 0 (take l.place l.commons))
