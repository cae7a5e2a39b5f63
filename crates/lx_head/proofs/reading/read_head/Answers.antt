use Rattle.std.proofs.Common.{◌∙◌}
use Rattle.lx_head.proofs.Places.{misplaced, at_its_place, refused}
use Rattle.lx_head.proofs.Numbers.{header_numbers}
use Rattle.lx_head.proofs.reading.read_head.Goals as goal

pub returns-in_err-place : goal.returns-in_err-place
returns-in_err-place c = refused c.from_residual.result c.args.bytes.now c.in_err-place.field-0.0 c.from_residual.ensures.1 (misplaced c.args.bytes.now c.in_err-place.field-0.0 c.in_err-place.ensures.judged)

pub returns-in_err-judge_fields : goal.returns-in_err-judge_fields
returns-in_err-judge_fields c =
    let place = c.in_ok-place.ensures in
    refused c.from_residual-in_err-judge_fields.result c.args.bytes.now c.in_err-judge_fields.field-0.0 c.from_residual-in_err-judge_fields.ensures.1
    (at_its_place c.args.bytes.now c.in_ok-place.place place.judged place.place ∙ c.in_err-judge_fields.ensures.judged)

pub returns : goal.returns
returns c =
    let place = c.in_ok-place.ensures in
    (at_its_place c.args.bytes.now c.in_ok-place.place place.judged place.place ∙ c.in_ok-judge_fields.ensures.judged, place.place, c.doublewords.ensures ∙ header_numbers c.args.bytes.now c.in_ok-place.place place.place)
