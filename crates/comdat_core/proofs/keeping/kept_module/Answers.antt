use Rattle.std.proofs.Common.{◌∙◌}
use Rattle.std.proofs.lemmas.Result.{IfOk-weaker}
use Rattle.comdat_core.proofs.Segments.{without_set}
use Rattle.comdat_core.proofs.keeping.kept_module.Goals as goal

pub returns : goal.returns
returns c =
    IfOk-weaker c.module_without.result _ _ (λ kept h. h ∙ without_set c.args.object.now c.args.taken.now c.in_ok-gone.gone c.in_ok-gone.ensures) c.module_without.ensures
