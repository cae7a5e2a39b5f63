use Rattle.std.proofs.Common.{get_or}
use Rattle.lx_iter.proofs.Runs.{longest, apart_at, apart_end}
use Rattle.lx_iter.proofs.packing.run_length.Goals as goal

pub returns-else-bytes-len-clause-longest : goal.returns-else-bytes-len-clause-longest
returns-else-bytes-len-clause-longest c =
    let b = get_or c.args.bytes.now 0 0 in
    longest c.args.bytes.now c.loop-len.len b c.loop-len.invariant.some c.loop-len.invariant.same (apart_at c.args.bytes.now c.loop-len.len b c.loop-len-test.true c.if-bytes-len.false)

pub returns-after-loop-len-clause-longest : goal.returns-after-loop-len-clause-longest
returns-after-loop-len-clause-longest c =
    let b = get_or c.args.bytes.now 0 0 in
    longest c.args.bytes.now c.loop-len.len b c.loop-len.invariant.some c.loop-len.invariant.same (apart_end c.args.bytes.now c.loop-len.len b c.loop-len-test.false)
