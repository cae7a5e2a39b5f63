use Rattle.lx_iter.proofs.Periods.{repeats_is}
use Rattle.lx_iter.proofs.packing.repeats.Goals as goal

pub returns-then-bytes-period-eq0 : goal.returns-then-bytes-period-eq0
returns-then-bytes-period-eq0 c = repeats_is c.args.bytes.now c.args.period c.eq.result c.requires.period c.requires.some c.if-bytes-period-eq0.true c.eq.ensures
