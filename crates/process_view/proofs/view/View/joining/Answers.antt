use Rattle.process_view.proofs.Words.{ap, length, Order, view_of, ◌∙◌}
use Rattle.std.proofs.lemmas.Result.{IfOk-weaker}
use Rattle.process_view.proofs.Enters.{order_named, order_within, joining_is}
use Rattle.process_view.proofs.view.View.joining.Goals as goal

pub unreached-requires : goal.unreached-requires
unreached-requires c =
    order_within c.order_is_reach.ensures.within c.self.inside.lib c.args.m (length c.self.inside.counts.reached) c.order.result.now (rw (← c.self.view_is) at c.requires)
    c.self.invariant.reached (c.order.ensures ∙ ap (λ l. Order l c.args.m) c.deref.ensures)

pub returns : goal.returns
returns c =
    IfOk-weaker c.unreached.result _ _
    (λ modules law b stands.
    joining_is b c.args.self.now (view_of c.self.inside) c.args.m c.order.result.now modules.items c.self.view_is stands
    (order_named c.self.inside.lib c.args.m c.order.result.now (c.order.ensures ∙ ap (λ l. Order l c.args.m) c.deref.ensures)) law)
    c.unreached.ensures
