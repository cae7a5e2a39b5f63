use Rattle.base_pick.proofs.Placing.{IsPlaced}
use Rattle.base_pick.proofs.picking.place_each.Given as goal

abbrev pub invariant-loop-object : goal.invariant-loop-object
invariant-loop-object l = IsPlaced l.arena l.occupied l.objects l.object-index l.ranges.items l.bases.items
