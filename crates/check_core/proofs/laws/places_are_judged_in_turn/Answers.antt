use Rattle.check_core.proofs.Judged.{judged_in_turn}
use Rattle.check_core.proofs.laws.places_are_judged_in_turn.Goals as goal

pub returns : goal.returns
returns c = judged_in_turn
