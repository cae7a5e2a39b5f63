use Rattle.load_model.proofs.FailedLoads.{failing_stays, failed_leaves_nothing}
use Rattle.load_model.proofs.FailedCalls.{failed_calls_told}
use Rattle.load_model.proofs.laws.failed_loads_leave_nothing.Goals as goal

pub returns : goal.returns
returns c = record { fixed = failing_stays; nothing = failed_leaves_nothing; called = failed_calls_told }
