-- Each module of an order that is held has a count.
use Rattle.load_model.specs.Modules.{order_of}
use Rattle.load_model.specs.State.{nothing_yet}
use Rattle.std.proofs.Common.{[]}
use Rattle.mod_refs.proofs.KeptCounts.{held_within, order_counted, kept_free}
use Rattle.mod_refs.proofs.one_process.free.Goals as goal

pub order-requires : goal.order-requires
order-requires c = held_within c.args.lib.now c.args.counts.now c.args.m c.requires.kept c.requires.held

pub free-requires-clause-counted : goal.free-requires-clause-counted
free-requires-clause-counted c =
    order_counted c.loads_are_counted.ensures.counted c.order_is_reach.ensures.within c.args.lib.now c.args.counts.now c.args.m _ c.requires.kept c.requires.held c.order.ensures

pub returns-clause-left : goal.returns-clause-left
unfolding order_of
returns-clause-left c = λ p e is. c.free.ensures c.args.lib.now p e is c.order.ensures

pub returns-clause-kept : goal.returns-clause-kept
unfolding order_of
returns-clause-kept c =
    let kept = c.requires.kept in
    kept_free c.args.lib.now c.args.counts.now _ (nothing_yet []) c.args.m kept (c.free.ensures c.args.lib.now kept.process (nothing_yet []) kept.is c.order.ensures)
