use Rattle.std.proofs.Common.{[], ap, ◌∙◌}
use Rattle.std.specs.Prelude.{filter_map}
use Rattle.std.proofs.lemmas.List.{take_all}
use Rattle.load_model.specs.Leaving.{term_of}
use Rattle.residence_table.specs.Residences.{residences}
use Rattle.residence_table.specs.Placing.{residences_with, state_with}
use Rattle.residence_table.proofs.CallLists.{push_more}
use Rattle.residence_table.proofs.EntryCalls.{leaving_is}
use Rattle.residence_table.proofs.table.ResidenceTable.leaving_calls.Goals as goal

pub loop-m-preserved : goal.loop-m-preserved
loop-m-preserved g c =
    push_more (term_of c.args.lib.now (state_with (residences_with c.args.self.now [])) c.args.leaving.now.gone.now) c.args.leaving.now.left.now c.loop-m.m-index []
    c.loop-m.calls.items _ c.term_call.result c.loop-m-test.true c.loop-m.invariant c.in_ok-push_call.ensures (c.term_call.ensures c.args.leaving.now.gone.now c.is_among-is_gone.ensures)

pub returns : goal.returns
returns g c = λ e pid p same is.
    c.from_vec.ensures ∙ c.loop-m.invariant
    ∙ ap (filter_map (term_of c.args.lib.now (state_with (residences_with c.args.self.now [])) c.args.leaving.now.gone.now)) (take_all c.loop-m.m-index c.args.leaving.now.left.now c.loop-m-test.false)
    ∙ leaving_is c.args.lib.now e pid p (residences c.args.self.now) c.args.leaving.now.left.now c.args.leaving.now.gone.now same is.left is.gone
