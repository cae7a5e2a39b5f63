use Rattle.std.proofs.Common.{◌≡◌, ℕ, [], Err, refl, sym, ap, ◌∙◌, arith}
use Rattle.std.proofs.lemmas.List.{nil_from_length}
use Rattle.std.proofs.lemmas.Result.{err_from_is_err_and}
use Rattle.obj_types.specs.declared.parts.ObjParts.{ObjParts}
use Rattle.obj_types.specs.declared.refusal.OmfRefusal.TheVariants.{Short}
use Rattle.omf_files.proofs.RecordRead.{turn, begun-next, rest-so, rest-ends, whole-end, no-record, none-left, rest-fails}
use Rattle.omf_files.proofs.objects.add_records.Goals as goal

pub records-init : goal.records-init
records-init c = record {
  begun = c.requires;
  marks = c.new-marks.ensures c.args.parts.now;
  read = refl;
  after = omega arith;
}

pub returns-in-Err-clause-read : goal.returns-in-Err-clause-read
returns-in-Err-clause-read c =
    sym c.records.invariant.read ∙ no-record c.records.parts c.records.cur c.in-Err.refusal c.left.ensures.bytes c.in-Err.ensures.read

pub returns-in_err-add_record-clause-read : goal.returns-in_err-add_record-clause-read
returns-in_err-add_record-clause-read c =
    let p = err_from_is_err_and c.from_residual.result c.from_residual.ensures.1 in
    rw (p.1, p.2)
    (rest-fails (λ (u : Unit {0}). c.records.parts) (λ (u : Unit {0}). (c.records.parts, c.records.cur)) c.in_err-add_record.field-0.0 c.args.parts.now c.records.parts c.args.cur.now c.records.cur c.in-Ok.rec c.record.new.cur
    c.records.invariant.read c.left.ensures.bytes c.in-Ok.ensures.read c.in_err-add_record.ensures.read)

pub returns-then-is_end-clause-read : goal.returns-then-is_end-clause-read
returns-then-is_end-clause-read c =
    let t = turn c.records.parts c.add_record.new.into c.in-Ok.rec c.records.cur c.record.new.cur c.left.ensures.bytes c.in-Ok.ensures.read c.in_ok-add_record.ensures.read in
    sym c.records.invariant.read ∙ rest-ends c.records.parts c.add_record.new.into c.records.cur c.record.new.cur c.in-Ok.rec.ty c.left.ensures.bytes t (sym c.is_end.ensures ∙ c.if-is_end.true)

pub returns-then-is_end-clause-whole : goal.returns-then-is_end-clause-whole
returns-then-is_end-clause-whole c =
    let t = turn c.records.parts c.add_record.new.into c.in-Ok.rec c.records.cur c.record.new.cur c.left.ensures.bytes c.in-Ok.ensures.read c.in_ok-add_record.ensures.read in
    whole-end c.records.parts c.add_record.new.into c.records.cur c.record.new.cur c.in-Ok.rec.ty c.left.ensures.bytes c.records.invariant.begun t (sym c.is_end.ensures ∙ c.if-is_end.true)

pub records-preserved : goal.records-preserved
records-preserved c =
    let t = turn c.records.parts c.add_record.new.into c.in-Ok.rec c.records.cur c.record.new.cur c.left.ensures.bytes c.in-Ok.ensures.read c.in_ok-add_record.ensures.read in
    let open_ended = sym c.is_end.ensures ∙ c.if-is_end.false in
    record {
      begun = begun-next c.records.parts c.add_record.new.into c.records.cur c.record.new.cur c.in-Ok.rec.ty c.left.ensures.bytes c.records.invariant.begun t open_ended;
      marks = c.in_ok-add_record.ensures.marks;
      read = sym (rest-so c.records.parts c.add_record.new.into c.records.cur c.record.new.cur c.in-Ok.rec.ty c.left.ensures.bytes t open_ended) ∙ c.records.invariant.read;
      after = omega (arith, c.in-Ok.ensures.shorter, c.records.invariant.after);
    }

pub returns-clause-read : goal.returns-clause-read
returns-clause-read c =
    let none : c.records.cur.left ≡ [] = nil_from_length c.records.cur.left (omega (arith, c.records-test.false, c.left.ensures.count)) in
    sym c.records.invariant.read ∙ none-left c.records.parts c.records.cur none ∙ ap (λ (at : ℕ). Err (Short at)) (sym c.at.ensures.place)
