use Rattle.std.proofs.Common.{◌+◌, ◌*◌, ◌<◌, ◌≤◌, arith}
use Rattle.lx_model.specs.Reading.{short_at}
use Rattle.lx_read.proofs.TableLoop.{doubleword_wrong, left_good, left_none}
use Rattle.lx_read.proofs.fields.whole_doublewords.Goals as goal

pub returns-in_err-whole : goal.returns-in_err-whole
returns-in_err-whole c =
    doubleword_wrong c.from_residual.result c.args.file.now c.args.at c.args.count c.loop-k.k c.in_err-whole.field-0.0 (let test = c.loop-k-test.true in omega arith)
    c.from_residual.ensures.1 c.in_err-whole.ensures c.loop-k.invariant

pub loop-k-preserved : goal.loop-k-preserved
loop-k-preserved c =
    left_good (λ i. short_at 4 c.args.file.now (c.args.at + 4 * i)) c.args.count c.loop-k.k (let test = c.loop-k-test.true in omega arith) c.in_ok-whole.ensures c.loop-k.invariant

pub returns : goal.returns
returns c = left_none (λ i. short_at 4 c.args.file.now (c.args.at + 4 * i)) c.args.count c.loop-k.k (let test = c.loop-k-test.false in omega arith) c.loop-k.invariant
