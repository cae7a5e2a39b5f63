-- What leaves was attached.
use Rattle.std.proofs.Common.{◌<◌, length, sym, subst}
use Rattle.std.specs.Prelude.{All}
use Rattle.std.proofs.lemmas.Result.{IfOk-weaker}
use Rattle.load_model.specs.Leaving.{exiting}
use Rattle.mod_refs.proofs.KeptCounts.{left_within}
use Rattle.mod_refs.proofs.one_process.left_by.Goals as goal

pub returns-in-All-clause-within : goal.returns-in-All-clause-within
returns-in-All-clause-within c = IfOk-weaker c.left_by_exit.result _ _
    (λ ms says.
    let kept = c.requires.kept in
    subst (All (λ k. k < length c.args.lib.now)) (sym (says c.args.lib.now kept.process kept.is)) (left_within c.args.lib.now (exiting kept.process) kept.attached))
    c.left_by_exit.ensures
