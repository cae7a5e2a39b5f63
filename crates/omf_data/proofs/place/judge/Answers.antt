use Rattle.std.proofs.Common.{◌≡◌, arith, ◌∙◌, sym}
use Rattle.omf_model.specs.Items.{data_so_far}
use Rattle.omf_data.proofs.Placed.{too_many, on_a_fix, good}
use Rattle.omf_data.proofs.place.judge.Goals as goal

pub returns-then-bytes-len-clause-judged : goal.returns-then-bytes-len-clause-judged
returns-then-bytes-len-clause-judged c =
    let total : c.bytes.result ≡ data_so_far c.args.before.now = c.bytes.ensures c.args.before.now c.requires.marks in
    too_many c.args.before.now c.args.at c.args.place.offset_at c.args.place.seg c.args.place.offset c.args.len c.segment-target.result.now
    c.segment-target.ensures c.if-target.false c.if-place-len.false (omega (arith, total, c.if-bytes-len.true))

pub returns-then-on_fix-clause-judged : goal.returns-then-on_fix-clause-judged
returns-then-on_fix-clause-judged c =
    let total : c.bytes.result ≡ data_so_far c.args.before.now = c.bytes.ensures c.args.before.now c.requires.marks in
    on_a_fix c.args.before.now c.args.at c.args.place.offset_at c.args.place.seg c.args.place.offset c.args.len c.segment-target.result.now
    c.segment-target.ensures c.if-target.false c.if-place-len.false (omega (arith, total, c.if-bytes-len.false)) (sym c.in_ok-on_fix.ensures.on ∙ c.if-on_fix.true)

pub returns-clause-judged : goal.returns-clause-judged
returns-clause-judged c =
    let total : c.bytes.result ≡ data_so_far c.args.before.now = c.bytes.ensures c.args.before.now c.requires.marks in
    good c.args.before.now c.args.at c.args.place.offset_at c.args.place.seg c.args.place.offset c.args.len c.segment-target.result.now
    c.segment-target.ensures c.if-target.false c.if-place-len.false (omega (arith, total, c.if-bytes-len.false)) (sym c.in_ok-on_fix.ensures.on ∙ c.if-on_fix.false)
