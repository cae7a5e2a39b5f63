use Rattle.std.proofs.Common.{[], ◌∷◌, sym, subst}
use Rattle.check_model.specs.Places.{summary}
use Rattle.check_core.specs.Judged.{IsJudged}
use Rattle.check_core.specs.ToldRun.{told_of}
use Rattle.check_core.proofs.LastLines.{summary_judged}
use Rattle.check_core.proofs.summary.summary_fault.Goals as goal

pub returns : goal.returns
returns c j scripts done =
    subst (λ r. IsJudged j (told_of c.args.told) (record { number = c.args.line; what = summary } ∷ []) r) (sym c.summary_by.ensures)
    (summary_judged j (told_of c.args.told) c.args.line c.args.scripts.now c.args.done.now scripts done c.all_done-none_left.result c.are_counts-counted.result c.all_done-none_left.ensures c.are_counts-counted.ensures)
