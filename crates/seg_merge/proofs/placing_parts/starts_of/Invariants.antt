use Rattle.std.proofs.Common.{◌≡◌, map, take}
use Rattle.seg_merge.proofs.placing_parts.starts_of.Given as goal

abbrev pub invariant-loop-row : goal.invariant-loop-row
invariant-loop-row l = l.starts.items ≡ map (λ r. r.start) (take l.row-index l.rows)
