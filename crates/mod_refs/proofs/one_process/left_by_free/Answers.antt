-- Each module of an order that is held has a count.
use Rattle.std.proofs.Common.{◌<◌, length, sym, subst}
use Rattle.std.specs.Prelude.{All}
use Rattle.std.proofs.lemmas.Result.{IfOk-weaker}
use Rattle.load_model.specs.Leaving.{freeing}
use Rattle.load_model.specs.Modules.{order_of}
use Rattle.mod_refs.proofs.KeptCounts.{held_within, order_counted, left_within}
use Rattle.mod_refs.proofs.one_process.left_by_free.Goals as goal

pub order-requires : goal.order-requires
order-requires c = held_within c.args.lib.now c.args.counts.now c.args.m c.requires.kept c.requires.held

pub left_by_free-requires-clause-counted : goal.left_by_free-requires-clause-counted
left_by_free-requires-clause-counted c =
    order_counted c.loads_are_counted.ensures.counted c.order_is_reach.ensures.within c.args.lib.now c.args.counts.now c.args.m _ c.requires.kept c.requires.held c.order.ensures

pub returns-clause-left : goal.returns-clause-left
unfolding order_of
returns-clause-left c = IfOk-weaker c.left_by_free.result _ _ (λ ms says p is. says c.args.lib.now p is c.order.ensures) c.left_by_free.ensures

pub returns-clause-within : goal.returns-clause-within
unfolding order_of
returns-clause-within c = IfOk-weaker c.left_by_free.result _ _
    (λ ms says.
    let kept = c.requires.kept in
    subst (All (λ k. k < length c.args.lib.now)) (sym (says c.args.lib.now kept.process kept.is c.order.ensures)) (left_within c.args.lib.now (freeing c.args.m kept.process) kept.attached))
    c.left_by_free.ensures
