use Rattle.std.proofs.Common.{List, sym, ◌∙◌}
use Rattle.std.proofs.lemmas.Result.{err_from_is_err_and}
use Rattle.obj_types.specs.declared.object.ObjModule.{ObjModule}
use Rattle.omf_files.proofs.LibraryRead.{modules-fail, module-more, modules-end}
use Rattle.omf_files.proofs.libraries.modules.Goals as goal

pub returns-in_err-read : goal.returns-in_err-read
returns-in_err-read c =
    let p = err_from_is_err_and c.from_residual.result c.from_residual.ensures.1 in
    rw (p.1, p.2)
    (modules-fail (λ (m : ObjModule). (m, c.module.new.cur)) (λ (ms : List ObjModule). ms) c.in_err-read.field-0.0 c.args.size c.modules.modules c.modules.cur c.args.cur.now c.modules.invariant c.ends.ensures.bytes (sym c.ends.ensures.end ∙ c.modules-test.true) c.in_err-read.ensures.read)

pub modules-preserved : goal.modules-preserved
modules-preserved c =
    module-more c.args.size c.modules.modules c.push.new.self c.modules.cur c.args.cur.now c.module.new.cur c.to_page.new.cur c.in_ok-read.read c.modules.invariant c.ends.ensures.bytes (sym c.ends.ensures.end ∙ c.modules-test.true) c.in_ok-read.ensures.read c.in_ok-push.ensures c.in_ok-to_page.ensures

pub returns : goal.returns
returns c = modules-end c.args.size c.modules.modules c.modules.cur c.args.cur.now c.modules.invariant c.ends.ensures.bytes (sym c.ends.ensures.end ∙ c.modules-test.false)
