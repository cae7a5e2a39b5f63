use Rattle.load_model.proofs.Apart.{others_leave_alike}
use Rattle.load_model.proofs.Bytes.{bases_are_alike}
use Rattle.load_model.proofs.Orders.{orders_nest}
use Rattle.load_model.proofs.laws.others_leave_alike.Goals as goal

pub returns : goal.returns
returns c = record {
  alike = others_leave_alike;
  bases = bases_are_alike (orders_nest c.order_is_reach.ensures.order c.order_is_reach.ensures.reach);
}
