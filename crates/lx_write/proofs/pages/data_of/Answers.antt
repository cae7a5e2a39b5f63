use Rattle.std.proofs.Common.{arith}
use Rattle.lx_iter.proofs.Periods.{data_less, data_ends, data_none}
use Rattle.lx_write.proofs.pages.data_of.Goals as goal
use Rattle.lx_write.proofs.pages.data_of.Goals.{then-loop-end-test+else-page-end-eq0, else-loop-end-test}

pub loop-end-preserved : goal.loop-end-preserved
loop-end-preserved c = record {
  within = omega (arith, c.loop-end.invariant.within);
  same = data_less c.args.page.now c.loop-end.end c.loop-end-test.true c.loop-end.invariant.within c.if-page-end-eq0.true c.loop-end.invariant.same;
}

pub returns-clause-same : goal.returns-clause-same
returns-clause-same c =
    elim c.loop-end-test.branch [
      | then-loop-end-test+else-page-end-eq0 w ↦ data_ends c.args.page.now c.loop-end.end w.loop-end-test.true c.loop-end.invariant.within (let ne = w.if-page-end-eq0.false in omega (arith, ne)) c.loop-end.invariant.same
      | else-loop-end-test w ↦ data_none c.args.page.now c.loop-end.end w.loop-end-test.false c.loop-end.invariant.same
    ]
