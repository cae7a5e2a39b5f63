use Rattle.std.proofs.Common.{arith}
use Rattle.lx_model.specs.RecordFields.{offsets_at}
use Rattle.lx_fixrec.specs.Reads.{refusal}
use Rattle.lx_fixrec.proofs.Offsets.{follows_start, follows_more, follows_wrong, follows_none, skip_said}
use Rattle.lx_fixrec.proofs.record.skip_offsets.Goals as goal

pub loop-init : goal.loop-init
loop-init c = follows_start c.args.count c.args.source c.args.fields.now

pub returns-in_err-offset : goal.returns-in_err-offset
returns-in_err-offset c =
    let r = c.in_err-offset.field-0.0 in
    let all = offsets_at c.args.count c.args.source in
    skip_said c.from_residual.result all c.args.fields.now c.offset.new.fields r c.from_residual.ensures.1
    (follows_wrong c.args.count c.loop.counter c.args.source c.loop.fields (refusal r) (all c.args.fields.now) c.loop-test.true c.in_err-offset.ensures c.loop.invariant)

pub loop-preserved : goal.loop-preserved
loop-preserved c =
    follows_more c.args.count c.loop.counter c.args.source c.loop.fields c.offset.new.fields _ (offsets_at c.args.count c.args.source c.args.fields.now) c.loop-test.true c.in_ok-offset.ensures c.loop.invariant

pub returns : goal.returns
returns c =
    let ended = c.loop-test.false in
    follows_none c.args.count c.loop.counter c.args.source c.loop.fields (offsets_at c.args.count c.args.source c.args.fields.now) (omega (arith, ended)) c.loop.invariant
