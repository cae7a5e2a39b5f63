use Rattle.load_model.proofs.Orders.{orders_nest}
use Rattle.load_model.proofs.Views.{new_stands, stands_on}
use Rattle.load_model.proofs.ViewSteps.{stands_quiet, stands_mapped}
use Rattle.load_model.proofs.ViewWrites.{stands_written}
use Rattle.load_model.proofs.ViewLoads.{stands_entered}
use Rattle.load_model.proofs.ViewLeaving.{stands_left, kept_are_reached, kept_are_touched}
use Rattle.load_model.proofs.laws.views_stand.Goals as goal

pub returns : goal.returns
returns c = record {
  new = new_stands;
  on = stands_on (orders_nest c.order_is_reach.ensures.order c.order_is_reach.ensures.reach);
  quiet = stands_quiet (orders_nest c.order_is_reach.ensures.order c.order_is_reach.ensures.reach);
  mapped = stands_mapped;
  written = stands_written;
  entered = stands_entered (orders_nest c.order_is_reach.ensures.order c.order_is_reach.ensures.reach);
  kept = kept_are_reached;
  touched = kept_are_touched;
  left = stands_left (orders_nest c.order_is_reach.ensures.order c.order_is_reach.ensures.reach);
}
