use Rattle.load_model.proofs.Orders.{orders_nest}
use Rattle.load_model.proofs.EntryReach.{spots_are_ordered}
use Rattle.load_model.proofs.Views.{refused_by_view}
use Rattle.load_model.proofs.ViewReplies.{answered_by_view}
use Rattle.load_model.proofs.laws.views_answer.Goals as goal

pub returns : goal.returns
returns c = record {
  refusals = refused_by_view;
  replies = answered_by_view (orders_nest c.order_is_reach.ensures.order c.order_is_reach.ensures.reach) (spots_are_ordered c.order_is_reach.ensures.reach);
}
