use Rattle.check_core.proofs.PlaceStates.{entries_by_history}
use Rattle.check_core.proofs.laws.entries_are_the_historys.Goals as goal

pub returns : goal.returns
returns c = entries_by_history
