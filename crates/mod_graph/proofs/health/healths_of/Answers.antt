use Rattle.std.proofs.Common.{◌≡◌, ℕ, List, ◌∙◌, ap, length, get_or, [], arith}
use Rattle.std.proofs.lemmas.List.FromFn.{get_or-map-range_with_len}
use Rattle.lx_model.specs.Reach.{Order, HealthOf}
use Rattle.mod_graph.specs.declared.health.Faults.{Faults}
use Rattle.mod_graph.specs.Faults.{health_among}
use Rattle.mod_graph.proofs.Lists.{table_more}
use Rattle.mod_graph.proofs.Healths.{health_is}
use Rattle.mod_graph.proofs.health.healths_of.Goals as goal

pub loop-m-preserved : goal.loop-m-preserved
loop-m-preserved c =
    let order : List ℕ = get_or c.args.orders.now c.loop-m.m [] in
    let faults : List Faults = c.in_ok-faults.faults.items in
    let ordered : order ≡ Order c.args.points.now c.loop-m.m =
    ap (λ os. get_or os c.loop-m.m []) c.requires.orders
    ∙ get_or-map-range_with_len (Order c.args.points.now) 0 (length c.args.points.now) c.loop-m.m c.loop-m.m [] (omega (arith, c.loop-m-test.true)) (omega arith) in
    let health : c.health_among.result ≡ HealthOf c.args.points.now c.loop-m.m =
    c.health_among.ensures ∙ ap (λ fs. health_among fs c.list_at.result.now) c.deref.ensures.value ∙ ap (λ o. health_among faults o) c.list_at.ensures
    ∙ health_is c.args.points.now faults order c.loop-m.m c.in_ok-faults.ensures.faults
    (c.requires.orders_within c.loop-m.m [] (omega (arith, c.loop-m-test.true, c.requires.orders_length))) ordered in
    table_more (HealthOf c.args.points.now) c.loop-m.healths.items c.push.new.self.items c.health_among.result c.loop-m.m
    c.loop-m.invariant health c.in_ok-push.ensures.items
