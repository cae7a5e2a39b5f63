use Rattle.std.proofs.Common.{◌≤◌, arith, length}
use Rattle.std.proofs.Math.Nat.{mul-le-mul_left}
use Rattle.lx_iter.proofs.Repeats.{none_written, written_more}
use Rattle.lx_iter.proofs.expansion.put_times.Goals as goal

pub returns-then-len-eq0 : goal.returns-then-len-eq0
returns-then-len-eq0 c = none_written c.args.times c.args.at c.args.bytes.now c.args.into.now c.if-len-eq0.true

pub loop-preserved : goal.loop-preserved
loop-preserved c =
    let len = length c.args.bytes.now in
    let less : c.loop.counter ≤ c.args.times = (let lt = c.loop-test.true in omega (arith, lt)) in
    let room : c.loop.to ≤ length c.loop.into = omega (arith, c.requires, c.loop.invariant.place, mul-le-mul_left len less) in
    record {
      place = omega (arith, c.loop.invariant.place);
      front = written_more c.loop.counter c.loop.to _ _ c.args.bytes.now c.copy_from_slice.new.self c.loop.into room c.copy_from_slice.ensures.after c.loop.invariant.front;
    }
