use Rattle.std.proofs.Common.{◌≡◌, map, take}
use Rattle.std.specs.List.{enumerate_from}
use Rattle.seg_parts.specs.Placing.{unplaced_shown}
use Rattle.seg_merge.specs.Ordered.{ordered_shown}
use Rattle.seg_merge.specs.Laid.{unit_at}
use Rattle.seg_merge.proofs.units.units_of.Given as goal

abbrev pub invariant-loop-place : goal.invariant-loop-place
invariant-loop-place l =
    (map (λ u. u.object) l.units.items ≡ take l.place l.objects)
    × (map unplaced_shown l.units.items ≡ map (unit_at l.objects l.stack l.size) (enumerate_from 0 (take l.place (map ordered_shown l.ordered))))
