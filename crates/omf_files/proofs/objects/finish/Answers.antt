use Rattle.std.proofs.Common.{◌≡◌, sym, ap, ◌∙◌}
use Rattle.std.proofs.lemmas.Result.{err_from_is_err_and}
use Rattle.obj_types.specs.declared.object.ObjModule.{ObjModule}
use Rattle.obj_types.specs.declared.parts.ObjParts.{ObjParts}
use Rattle.omf_files.proofs.RecordRead.{finished-fails, finished-so, read_module}
use Rattle.omf_files.proofs.objects.finish.Goals as goal

pub returns-in_err-add_records-clause-read : goal.returns-in_err-add_records-clause-read
returns-in_err-add_records-clause-read c =
    let p = err_from_is_err_and c.from_residual.result c.from_residual.ensures.1 in
    rw (p.1, p.2)
    (finished-fails (λ (u : Unit {0}). (c.add_records.new.parts, c.add_records.new.cur)) (λ (m : ObjModule). (m, c.add_records.new.cur)) c.in_err-add_records.field-0.0 c.args.begun c.args.cur.now c.in_err-add_records.ensures.read)

pub returns-clause-read : goal.returns-clause-read
returns-clause-read c =
    finished-so c.args.begun c.add_records.new.parts c.args.cur.now c.add_records.new.cur c.in_ok-add_records.ensures.read
    ∙ ap (λ (m : ObjModule). read_module m c.add_records.new.cur) (sym c.in_ok-finished.ensures)
