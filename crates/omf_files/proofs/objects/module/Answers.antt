use Rattle.std.proofs.lemmas.Result.{err_from_is_err_and}
use Rattle.obj_types.specs.declared.object.ObjModule.{ObjModule}
use Rattle.obj_types.specs.declared.parts.ObjParts.{ObjParts}
use Rattle.omf_files.proofs.BeginRead.{module-goes, module-fails}
use Rattle.omf_files.proofs.objects.module.Goals as goal

pub returns-in_err-parts-clause-read : goal.returns-in_err-parts-clause-read
returns-in_err-parts-clause-read c =
    let p = err_from_is_err_and c.from_residual.result c.from_residual.ensures.1 in
    rw (p.1, p.2) (module-fails (λ (q : ObjParts). (q, c.begin.new.cur)) (λ (m : ObjModule). (m, c.begin.new.cur)) c.in_err-parts.field-0.0 c.args.cur.now c.begin.ensures.bytes c.in_err-parts.ensures.read)

pub returns-clause-read : goal.returns-clause-read
returns-clause-read c = rw (module-goes c.args.cur.now c.in_ok-parts.parts c.begin.new.cur c.begin.ensures.bytes c.in_ok-parts.ensures.read) c.finish.ensures.read
