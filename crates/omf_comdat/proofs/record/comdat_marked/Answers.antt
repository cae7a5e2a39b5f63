use Rattle.std.proofs.Common.{◌≡◌, sym, ◌∙◌}
use Rattle.std.proofs.lemmas.Result.{err_from_is_err_and}
use Rattle.omf_model.specs.ReadAfter.{contents_at}
use Rattle.omf_model.specs.ReadComdat.{offset_place}
use Rattle.omf_model.specs.ReadModule.{is_wide}
use Rattle.omf_model.proofs.BegunLaws.{begun-whole}
use Rattle.omf_data.proofs.Stay.{read-more}
use Rattle.omf_comdat.specs.declared.fields.ComdatFields.{ComdatFields}
use Rattle.omf_comdat.proofs.RecordRead.{said_ok, after, fields_refused, whole_refused, added}
use Rattle.omf_comdat.proofs.record.comdat_marked.Goals as goal

pub see-requires-clause-limit : goal.see-requires-clause-limit
see-requires-clause-limit c = (begun-whole c.args.into.now c.requires.begun).data_limit

pub judge-requires-clause-limit : goal.judge-requires-clause-limit
judge-requires-clause-limit c = (begun-whole c.args.into.now c.requires.begun).data_limit

pub returns-in_err-d-clause-read : goal.returns-in_err-d-clause-read
returns-in_err-d-clause-read c =
    let p = c.args.into.now in
    let rec = c.args.rec.now in
    let e = err_from_is_err_and c.from_residual-in_err-d.result c.from_residual-in_err-d.ensures.1 in
    rw (e.1, e.2, after rec c.requires.kind p)
    (fields_refused p (is_wide rec.ty) rec.at (contents_at rec.at rec.body.now) c.fields_of.result c.fields_of.ensures.read (λ (u : Unit {0}). p) c.in_err-d.field-0.0 (sym c.said.ensures ∙ c.in_err-d.was))

pub returns-in_err-judge-clause-read : goal.returns-in_err-judge-clause-read
returns-in_err-judge-clause-read c =
    let p = c.args.into.now in
    let rec = c.args.rec.now in
    let at = contents_at rec.at rec.body.now in
    let is = sym c.said.ensures ∙ c.in_ok-d.was in
    let placed : c.in_ok-d.d.offset_at ≡ offset_place at = said_ok (λ (d : ComdatFields). d.offset_at ≡ offset_place at) c.fields_of.result c.in_ok-d.d c.fields_of.ensures.placed is in
    let e = err_from_is_err_and c.from_residual-in_err-judge.result c.from_residual-in_err-judge.ensures.1 in
    rw (e.1, e.2, after rec c.requires.kind p)
    (whole_refused p (is_wide rec.ty) rec.at at c.fields_of.result c.fields_of.ensures.read c.in_ok-d.d is placed (λ (u : Unit {0}). p) c.in_err-judge.field-0.0 c.in_err-judge.ensures.judged)

pub returns-clause-read : goal.returns-clause-read
returns-clause-read c =
    let p = c.args.into.now in
    let rec = c.args.rec.now in
    let at = contents_at rec.at rec.body.now in
    let is = sym c.said.ensures ∙ c.in_ok-d.was in
    let placed : c.in_ok-d.d.offset_at ≡ offset_place at = said_ok (λ (d : ComdatFields). d.offset_at ≡ offset_place at) c.fields_of.result c.in_ok-d.d c.fields_of.ensures.placed is in
    after rec c.requires.kind p
    ∙ added p (is_wide rec.ty) rec.at at c.fields_of.result c.fields_of.ensures.read c.in_ok-d.d is placed c.in_ok-judge.field-0 c.add.new.into c.in_ok-judge.ensures.judged c.in_ok-add.ensures

pub returns-clause-marks : goal.returns-clause-marks
returns-clause-marks c = read-more c.judge.new.marks c.args.into.now _ c.args.rec.now c.requires.begun (returns-clause-read c) c.in_ok-judge.ensures.marks.marks
