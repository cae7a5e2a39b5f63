use Rattle.process_view.proofs.Words.{ap, length, Order, sym, view_of, ◌∙◌}
use Rattle.process_view.proofs.Enters.{order_within, order_named, row_counted}
use Rattle.load_model.specs.declared.deeds.How.TheVariants as ways
use Rattle.process_view.proofs.view.View.count_in.Goals as goal

pub start-requires-clause-within : goal.start-requires-clause-within
start-requires-clause-within c =
    order_within c.order_is_reach.ensures.within c.self.inside.lib c.args.m (length c.self.inside.counts.reached) c.order.result.now (rw (← c.self.view_is) at c.requires.within)
    c.self.invariant.reached (c.order.ensures ∙ ap (λ l. Order l c.args.m) c.deref.ensures)

pub invariant_of-self : goal.invariant_of-self
invariant_of-self c =
    let p = c.requires.process in
    let lib = c.self.inside.lib in
    let next = c.start.ensures lib p (rw (← c.self.view_is) at c.requires.counts) (order_named lib c.args.m c.order.result.now (c.order.ensures ∙ ap (λ l. Order l c.args.m) c.deref.ensures)) in
    record { process = c.self.invariant.process; loads = next.loads_are; reached = next.reached_are; placed = c.self.invariant.placed; apart = c.self.invariant.apart; found = c.self.invariant.found; mapped = c.self.invariant.mapped }

pub returns-in-Start-clause-counts : goal.returns-in-Start-clause-counts
returns-in-Start-clause-counts c = λ p rows.
    let lib = c.self.inside.lib in
    let order = order_named lib c.args.m c.order.result.now (c.order.ensures ∙ ap (λ l. Order l c.args.m) c.deref.ensures) in
    row_counted c.args.self.now (view_of c.self.inside) c.args.m p c.start.new.self c.args.how ways.Start c.order.result.now c.self.view_is (sym c.in-Start.is) order
    (c.start.ensures lib p (rw (← c.self.view_is) at rows) order)

pub load-requires-clause-within : goal.load-requires-clause-within
load-requires-clause-within c =
    order_within c.order_is_reach.ensures.within c.self.inside.lib c.args.m (length c.self.inside.counts.reached) c.order-in-Load.result.now (rw (← c.self.view_is) at c.requires.within)
    c.self.invariant.reached (c.order-in-Load.ensures ∙ ap (λ l. Order l c.args.m) c.deref-in-Load.ensures)

pub invariant_of-self-in-Load : goal.invariant_of-self-in-Load
invariant_of-self-in-Load c =
    let p = c.requires.process in
    let lib = c.self.inside.lib in
    let next = c.load.ensures lib p (rw (← c.self.view_is) at c.requires.counts) (order_named lib c.args.m c.order-in-Load.result.now (c.order-in-Load.ensures ∙ ap (λ l. Order l c.args.m) c.deref-in-Load.ensures)) in
    record { process = c.self.invariant.process; loads = next.loads_are; reached = next.reached_are; placed = c.self.invariant.placed; apart = c.self.invariant.apart; found = c.self.invariant.found; mapped = c.self.invariant.mapped }

pub returns-in-Load-clause-counts : goal.returns-in-Load-clause-counts
returns-in-Load-clause-counts c = λ p rows.
    let lib = c.self.inside.lib in
    let order = order_named lib c.args.m c.order-in-Load.result.now (c.order-in-Load.ensures ∙ ap (λ l. Order l c.args.m) c.deref-in-Load.ensures) in
    row_counted c.args.self.now (view_of c.self.inside) c.args.m p c.load.new.self c.args.how ways.Load c.order-in-Load.result.now c.self.view_is (sym c.in-Load.is) order
    (c.load.ensures lib p (rw (← c.self.view_is) at rows) order)
