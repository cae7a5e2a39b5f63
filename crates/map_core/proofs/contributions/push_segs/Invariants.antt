use Rattle.std.proofs.Common.{◌≡◌, ◌++◌, take}
use Rattle.std.specs.List.{flat_map, enumerate_from}
use Rattle.map_core.specs.Places.{segment_text}
use Rattle.map_core.proofs.contributions.push_segs.Given as goal

abbrev pub invariant-loop-place : goal.invariant-loop-place
invariant-loop-place l = l.out.items ≡ l.initial.out.items ++ flat_map (segment_text l.lay l.by) (enumerate_from 1 (take l.place l.segs))
