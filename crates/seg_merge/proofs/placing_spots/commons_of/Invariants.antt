use Rattle.std.proofs.Common.{map}
use Rattle.seg_parts.specs.Parts.{shown}
use Rattle.seg_merge.proofs.SegmentSpots.{CommonsTaken}
use Rattle.seg_merge.proofs.placing_spots.commons_of.Given as goal

abbrev pub invariant-loop-place : goal.invariant-loop-place
invariant-loop-place l = CommonsTaken (map shown l.parts) l.places l.place l.commons.items
