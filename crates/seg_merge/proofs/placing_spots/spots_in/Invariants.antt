use Rattle.seg_merge.proofs.SegmentSpots.{SegsTaken}
use Rattle.seg_merge.proofs.placing_spots.spots_in.Given as goal

abbrev pub invariant-loop-seg : goal.invariant-loop-seg
invariant-loop-seg l = SegsTaken l.segs l.places l.fn.next l.next l.seg-index l.row.items
