use Rattle.merge_laws.proofs.OwnStates.{touched_goes_on}
use Rattle.merge_laws.proofs.Steps.{account_goes_on, touch_goes_on}
use Rattle.merge_laws.proofs.laws.account_goes_on.Goals as goal

pub returns : goal.returns
returns c = record { account = account_goes_on; midst = touch_goes_on; touched = touched_goes_on }
