use Rattle.std.proofs.Common.{◌≡◌, ℕ, List, map, length, ◌∙◌, ap}
use Rattle.std.specs.List.{range_with_len}
use Rattle.std.proofs.lemmas.Result.{IfOk-weaker}
use Rattle.lx_types.specs.declared.parts.Parts.{Parts}
use Rattle.lx_types.proofs.Lists.{map_agree}
use Rattle.lx_model.specs.Reach.{Order, imports_of}
use Rattle.mod_graph.specs.Visiting.{order_in}
use Rattle.mod_graph.proofs.Orders.{order_in-is}
use Rattle.mod_graph.proofs.order.orders_of.Goals as goal

in_library : (lib : List Parts) (graph orders : List (List ℕ)) → graph ≡ map (imports_of lib) (range_with_len 0 (length lib)) → length graph ≡ length lib →
    orders ≡ map (order_in graph) (range_with_len 0 (length graph)) → orders ≡ map (Order lib) (range_with_len 0 (length lib))
in_library lib graph orders graph_is graph_length is =
    is ∙ ap (λ n. map (order_in graph) (range_with_len 0 n)) graph_length
    ∙ map_agree (order_in graph) (Order lib) (order_in-is lib graph graph_is) (range_with_len 0 (length lib))

pub returns-clause-orders : goal.returns-clause-orders
returns-clause-orders c =
    IfOk-weaker c.orders_from.result _ _ (λ orders is. in_library c.args.mods.now c.args.graph.now orders.items c.requires.graph c.requires.graph_length is) c.orders_from.ensures.orders
