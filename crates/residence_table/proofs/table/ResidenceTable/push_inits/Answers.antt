use Rattle.std.proofs.Common.{map}
use Rattle.load_model.specs.declared.deeds.Fresh.{Fresh}
use Rattle.load_model.specs.Entering.{init_of}
use Rattle.residence_table.specs.Placing.{residences_with, state_with}
use Rattle.residence_table.proofs.CallLists.{push_more}
use Rattle.residence_table.proofs.table.ResidenceTable.push_inits.Goals as goal

pub loop-m-preserved : goal.loop-m-preserved
loop-m-preserved g c =
    push_more (init_of c.args.lib.now (state_with (residences_with c.args.self.now c.args.entering.now.fresh.now)) (map (λ (f : Fresh). f.«module») c.args.entering.now.fresh.now))
    c.args.entering.now.joined.now c.loop-m.m-index c.args.calls.now.items c.loop-m.calls.items _ c.init_call.result c.loop-m-test.true c.loop-m.invariant
    c.in_ok-push_call.ensures c.init_call.ensures
