use Rattle.show_model.specs.Lists.{object_lists}
use Rattle.show_core.proofs.Chains.{member_more}
use Rattle.show_core.proofs.libraries.add_members.Goals as goal

pub loop-m-preserved : goal.loop-m-preserved
loop-m-preserved c =
    member_more object_lists c.args.modules.now c.loop-m.m-index c.m-item.result _ _ _ c.loop-m-test.true c.m-item.is c.in_ok-add_object.ensures c.loop-m.invariant
