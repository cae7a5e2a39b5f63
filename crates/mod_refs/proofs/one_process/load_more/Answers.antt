-- A library's order is of the library, and one more can be counted of each of its modules.
use Rattle.std.proofs.Common.{arith}
use Rattle.load_model.specs.declared.deeds.How.TheVariants.{Load}
use Rattle.load_model.specs.Modules.{order_of}
use Rattle.mod_refs.proofs.KeptCounts.{as_entered, order_within, order_has_room, kept_load}
use Rattle.mod_refs.proofs.one_process.load_more.Goals as goal

pub load-requires-clause-within : goal.load-requires-clause-within
load-requires-clause-within c =
    order_within c.order_is_reach.ensures.within c.args.lib.now c.args.m _ _ c.order.ensures c.requires.module c.requires.kept.is.reached_are

pub load-requires-clause-small : goal.load-requires-clause-small
load-requires-clause-small c = order_has_room c.loads_are_counted.ensures.room c.args.lib.now c.args.counts.now _ c.requires.kept (omega (arith, c.len-few.ensures.count, c.len-few.ensures.few))

pub returns-clause-entered : goal.returns-clause-entered
unfolding order_of
returns-clause-entered c = λ p is. as_entered c.args.lib.now Load p _ c.args.m _ c.order.ensures (c.load.ensures c.args.lib.now p is c.order.ensures)

pub returns-clause-kept : goal.returns-clause-kept
unfolding order_of
returns-clause-kept c =
    let kept = c.requires.kept in
    kept_load c.order_is_reach.ensures.within c.args.lib.now c.args.counts.now _ c.args.m kept c.requires.module c.requires.few
    (as_entered c.args.lib.now Load kept.process _ c.args.m _ c.order.ensures (c.load.ensures c.args.lib.now kept.process kept.is c.order.ensures))
