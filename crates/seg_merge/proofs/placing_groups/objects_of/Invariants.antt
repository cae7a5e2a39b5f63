use Rattle.std.proofs.Common.{◌≡◌, ◌+◌, map, take}
use Rattle.seg_merge.proofs.placing_groups.objects_of.Given as goal

abbrev pub invariant-loop-row : goal.invariant-loop-row
invariant-loop-row l = l.objects.items ≡ map (λ r. r.object + 1) (take l.row-index l.rows)
