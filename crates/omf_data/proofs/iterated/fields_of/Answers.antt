use Rattle.std.proofs.Common.{ℕ, ◌+◌, sym, ap, ◌∙◌}
use Rattle.lx_bytes.specs.Cursor.{Cursor}
use Rattle.lx_types.proofs.Answered.{said-yields}
use Rattle.omf_fields.specs.Fields.{index_below, number_at, width}
use Rattle.omf_fields.proofs.SpanLaws.{cursor_is}
use Rattle.omf_model.specs.ReadModule.{is_wide}
use Rattle.omf_model.specs.ReadData.{judge_data, lidata_at}
use Rattle.omf_data.specs.Expanding.{counted_at}
use Rattle.omf_data.proofs.Added.{said-gives}
use Rattle.omf_data.proofs.IteratedRead.{spells, fields_read}
use Rattle.omf_data.proofs.iterated.fields_of.Goals as goal

pub returns-clause-read : goal.returns-clause-read
returns-clause-read c =
    let wide = is_wide c.args.rec.now.ty in
    let seg = said-yields (λ (n : ℕ). n) c.index_below.result c.in_ok-seg.seg (index_below c.args.have) c.of-fields.result c.index_below.new.self c.index_below.ensures.read c.in_ok-seg.ensures in
    let offset = said-yields (λ (n : ℕ). n) c.number.result c.in_ok-offset.offset (number_at (width wide)) c.index_below.new.self c.number.new.self c.number.ensures c.in_ok-offset.ensures in
    let len = said-gives (λ (n : ℕ). n) c.measured.result c.in_ok-len.len (counted_at wide c.number.new.self) c.measured.ensures c.in_ok-len.ensures in
    ap (λ (k : Cursor). lidata_at wide c.args.before.now c.args.rec.now.at k) (cursor_is c.of-fields.result (c.args.rec.now.at + 3) c.args.rec.now.body.now (sym c.of-fields.ensures.place) (sym c.of-fields.ensures.bytes))
    ∙ fields_read wide c.number.new.self c.rest-body.result.now c.in_ok-len.len c.rest-body.ensures.bytes c.rest-body.ensures.read len
    c.args.before.now c.args.rec.now.at c.of-fields.result c.index_below.new.self c.in_ok-seg.seg c.in_ok-offset.offset
    (ap (λ (n : ℕ). index_below n c.of-fields.result) (sym c.requires.have) ∙ seg) offset
    (ap (λ (n : ℕ). judge_data c.args.before.now c.args.rec.now.at n c.in_ok-seg.seg c.in_ok-offset.offset c.in_ok-len.len) (sym c.at-offset_at.ensures) ∙ c.in_ok-judge.ensures.judged)

pub returns-clause-spelled : goal.returns-clause-spelled
returns-clause-spelled c =
    let wide = is_wide c.args.rec.now.ty in
    spells wide c.number.new.self c.rest-body.result.now c.in_ok-len.len c.rest-body.ensures.bytes c.rest-body.ensures.read
    (said-gives (λ (n : ℕ). n) c.measured.result c.in_ok-len.len (counted_at wide c.number.new.self) c.measured.ensures c.in_ok-len.ensures)
