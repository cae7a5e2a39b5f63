use Rattle.std.proofs.Common.{arith}
use Rattle.std.proofs.lemmas.Grind.{common_steps}
use Rattle.mod_graph.specs.Visiting.{order_in}
use Rattle.mod_graph.proofs.Lists.{table_more}
use Rattle.mod_graph.proofs.order.orders_from.Goals as goal

pub loop-m-preserved : goal.loop-m-preserved
loop-m-preserved c = (
  table_more (order_in c.args.graph.now) c.loop-m.orders.items c.push.new.self.items c.in_ok-order_from.field-0 c.loop-m.m
      c.loop-m.invariant.0 c.in_ok-order_from.ensures.order c.in_ok-push.ensures.items,
  grind (arith, common_steps),
)
