use Rattle.check_model.proofs.RightRuns.{nothing_wrong_is_run}
use Rattle.check_model.proofs.laws.nothing_wrong_is_a_run.Goals as goal

pub returns : goal.returns
returns c = nothing_wrong_is_run
