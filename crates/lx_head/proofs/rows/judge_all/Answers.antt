use Rattle.std.proofs.Common.{sym, ◌∙◌}
use Rattle.lx_head.specs.Rows.{fault_among}
use Rattle.lx_head.proofs.FieldLoop.{field_good, field_wrong, all_good, refused}
use Rattle.lx_head.proofs.rows.judge_all.Goals as goal

pub returns-in_err-judge : goal.returns-in_err-judge
returns-in_err-judge c =
    let wrong = field_wrong c.args.fields.now c.loop-field.field-index _ c.args.bytes.now c.args.place c.in_err-judge.field-0.0 c.loop-field-test.true c.in_err-judge.ensures in
    refused c.from_residual.result (fault_among c.args.fields.now c.args.bytes.now c.args.place) c.in_err-judge.field-0.0 c.from_residual.ensures.1 (sym c.loop-field.invariant ∙ wrong)

pub loop-field-preserved : goal.loop-field-preserved
loop-field-preserved c = sym (field_good c.args.fields.now c.loop-field.field-index _ c.args.bytes.now c.args.place c.loop-field-test.true c.in_ok-judge.ensures) ∙ c.loop-field.invariant

pub returns : goal.returns
returns c = sym c.loop-field.invariant ∙ all_good c.args.fields.now c.loop-field.field-index c.args.bytes.now c.args.place c.loop-field-test.false
