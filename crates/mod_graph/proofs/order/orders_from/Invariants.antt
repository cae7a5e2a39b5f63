use Rattle.std.proofs.Common.{◌≡◌, map, length}
use Rattle.std.specs.List.{range_with_len}
use Rattle.mod_graph.specs.Visiting.{order_in, AreWithin}
use Rattle.mod_graph.proofs.order.orders_from.Given as goal

abbrev pub invariant-loop-m : goal.invariant-loop-m
invariant-loop-m l = (l.orders.items ≡ map (order_in l.graph) (range_with_len 0 l.m)) × AreWithin (length l.graph) l.orders.items
