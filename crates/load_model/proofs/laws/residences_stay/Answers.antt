use Rattle.load_model.proofs.Orders.{orders_nest}
use Rattle.load_model.proofs.Stays.{residence_stays, reach_stays}
use Rattle.load_model.proofs.BasesStay.{bases_seen_stay}
use Rattle.load_model.proofs.laws.residences_stay.Goals as goal

pub returns : goal.returns
returns c = record {
  still = residence_stays;
  reach = reach_stays (orders_nest c.order_is_reach.ensures.order c.order_is_reach.ensures.reach);
  bases = bases_seen_stay (orders_nest c.order_is_reach.ensures.order c.order_is_reach.ensures.reach);
}
