use Rattle.std.proofs.Common.{◌≤◌, drop, length}
use Rattle.link_fix.proofs.OrderedFixups.{InOrder}
use Rattle.link_fix.proofs.order.are_in_order.Given as goal

abbrev pub invariant-fixups : goal.invariant-fixups
invariant-fixups l = record {
  within : l.left ≤ length l.fixups;
  ordered : InOrder l.begins (drop l.left l.fixups);
}

abbrev pub decreases-fixups : goal.decreases-fixups
decreases-fixups l = l.left
