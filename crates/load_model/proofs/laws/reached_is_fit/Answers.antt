use Rattle.load_model.proofs.Orders.{orders_nest}
use Rattle.load_model.proofs.ReachedFit.{fit_is_closed, reached_is_fit}
use Rattle.load_model.proofs.laws.reached_is_fit.Goals as goal

pub returns : goal.returns
returns c = record {
  reached = reached_is_fit (orders_nest c.order_is_reach.ensures.order c.order_is_reach.ensures.reach) c.order_is_reach.ensures.within;
  closed = fit_is_closed (orders_nest c.order_is_reach.ensures.order c.order_is_reach.ensures.reach);
}
