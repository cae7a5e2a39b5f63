use Rattle.std.proofs.Common.{Ok, ap, sym, subst, ◌∙◌}
use Rattle.answer_model.specs.Outcome.{kept}
use Rattle.answer_model.specs.Says.{said_after}
use Rattle.answer_model.specs.declared.said.Said.{Said}
use Rattle.file_commands.specs.Doing.{DoesOutcome}
use Rattle.file_commands.proofs.Saved.{kept_after, unkept}
use Rattle.file_commands.proofs.saving.keep.Goals as goal

pub returns-in-Ok : goal.returns-in-Ok
returns-in-Ok g c =
    let name = c.args.name.now in
    let outcome = kept name c.args.bytes.now c.args.text in
    let P : Said → Type 0 = λ said. DoesOutcome outcome (g.F.Files.state c.args.files.now) (g.F.Files.state c.save.new.self) (Ok said) in
    subst P (sym c.done.ensures) (kept_after _ _ name c.args.bytes.now c.args.text c.save.result _ c.save.ensures.saved c.save.ensures.others c.save.ensures.call (ap (λ r. said_after outcome name r) (sym c.in-Ok.is)))

pub returns-in-Err : goal.returns-in-Err
returns-in-Err g c =
    let name = c.args.name.now in
    let outcome = kept name c.args.bytes.now c.args.text in
    kept_after _ _ name c.args.bytes.now c.args.text c.save.result _ c.save.ensures.saved c.save.ensures.others c.save.ensures.call
    (c.in_ok-failed.ensures ∙ ap (λ r. said_after outcome name r) (sym c.in-Err.is))

pub returns-in_err-failed : goal.returns-in_err-failed
returns-in_err-failed g c = unkept _ _ c.from_residual.result c.from_residual.ensures.0
