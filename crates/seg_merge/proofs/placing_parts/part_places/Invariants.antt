use Rattle.seg_merge.proofs.PartWalk.{Walked}
use Rattle.seg_merge.proofs.placing_parts.part_places.Given as goal

abbrev pub invariant-loop-place : goal.invariant-loop-place
invariant-loop-place l = Walked l.segments l.rows l.place l.ends.items l.places.items
