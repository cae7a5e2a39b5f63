use Rattle.std.proofs.Common.{◌≡◌, map, take}
use Rattle.seg_parts.specs.Placing.{placed_shown}
use Rattle.seg_merge.specs.ByNumber.{row_at}
use Rattle.seg_merge.proofs.by_number.rows_by_number.Given as goal

abbrev pub invariant-loop-places : goal.invariant-loop-places
invariant-loop-places l = map placed_shown l.found.items ≡ map (row_at (map placed_shown l.rows)) (map (λ v. v.items) (take l.places-index l.places-items))
