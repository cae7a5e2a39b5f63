use Rattle.load_model.proofs.Orders.{orders_nest}
use Rattle.load_model.proofs.EntryReach.{spots_are_ordered}
use Rattle.load_model.proofs.Apart.{others_refuse_alike}
use Rattle.load_model.proofs.Answers.{others_answer_alike}
use Rattle.load_model.proofs.Bytes.{others_bytes_alike}
use Rattle.load_model.proofs.laws.others_change_nothing.Goals as goal

pub returns : goal.returns
returns c = record {
  refusals = others_refuse_alike;
  answers = others_answer_alike (orders_nest c.order_is_reach.ensures.order c.order_is_reach.ensures.reach) (spots_are_ordered c.order_is_reach.ensures.reach);
  bytes = others_bytes_alike (orders_nest c.order_is_reach.ensures.order c.order_is_reach.ensures.reach);
}
