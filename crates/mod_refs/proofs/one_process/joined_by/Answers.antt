-- An order is of the library.
use Rattle.std.proofs.Common.{◌<◌, length, ap, ◌∙◌, sym, subst}
use Rattle.std.specs.Prelude.{All}
use Rattle.std.proofs.lemmas.Result.{IfOk-weaker}
use Rattle.load_model.specs.Modules.{order_of}
use Rattle.load_model.specs.ProcessCounts.{unreached}
use Rattle.mod_refs.proofs.KeptCounts.{order_within, joined_within}
use Rattle.mod_refs.proofs.one_process.joined_by.Goals as goal

pub unreached-requires : goal.unreached-requires
unreached-requires c =
    order_within c.order_is_reach.ensures.within c.args.lib.now c.args.m _ _ c.order.ensures c.requires.module c.requires.kept.is.reached_are

pub returns-clause-joined : goal.returns-clause-joined
unfolding order_of
returns-clause-joined c = IfOk-weaker c.unreached.result _ _ (λ ms says p is. says c.args.lib.now p is ∙ ap (unreached c.args.lib.now p) c.order.ensures) c.unreached.ensures

pub returns-clause-within : goal.returns-clause-within
unfolding order_of
returns-clause-within c = IfOk-weaker c.unreached.result _ _
    (λ ms says.
    let lib = c.args.lib.now in
    let kept = c.requires.kept in
    subst (All (λ k. k < length lib)) (sym (says lib kept.process kept.is ∙ ap (unreached lib kept.process) c.order.ensures))
    (joined_within c.order_is_reach.ensures.within lib kept.process c.args.m c.requires.module))
    c.unreached.ensures
