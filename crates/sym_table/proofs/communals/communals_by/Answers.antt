use Rattle.std.proofs.Common.{◌∙◌}
use Rattle.sym_table.proofs.CommunalOnes.{communal-more}
use Rattle.sym_table.proofs.communals.communals_by.Goals as goal

pub loop-comdef-preserved : goal.loop-comdef-preserved
loop-comdef-preserved c = (
  λ all are. c.in_ok-add_communal.ensures.list
      ∙ communal-more all c.args.lens.now c.args.comdefs.now c.loop-comdef.comdef-index c.comdef-item.result c.loop-comdef.communals.list are c.loop-comdef-test.true c.comdef-item.is (c.loop-comdef.invariant.0 all are),
  c.in_ok-add_communal.ensures.slots,
)
