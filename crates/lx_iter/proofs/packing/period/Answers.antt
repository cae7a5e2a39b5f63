use Rattle.std.proofs.Common.{refl}
use Rattle.lx_model.specs.Packed.{repeats, periods}
use Rattle.lx_iter.proofs.Periods.{passed}
use Rattle.lx_iter.proofs.packing.period.Goals as goal

pub loop-period-preserved : goal.loop-period-preserved
loop-period-preserved c = record { items = refl; left = passed (repeats c.args.bytes.now) periods c.loop-period.period-index _ c.loop-period-test.true c.if-repeats.ensures c.loop-period.invariant.left }
