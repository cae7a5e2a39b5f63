use Rattle.std.proofs.Common.{map}
use Rattle.seg_merge.proofs.SegmentSpots.{ModulesTaken}
use Rattle.seg_merge.proofs.placing_spots.spots_of.Given as goal

abbrev pub invariant-loop-object : goal.invariant-loop-object
invariant-loop-object l = ModulesTaken (map (λ m. m.now) l.modules) l.places l.next l.object-index (map (λ v. v.items) l.spots.items)
