use Rattle.load_model.proofs.Accepted.{accepted_may_ask}
use Rattle.load_model.proofs.Retouched.{touched_is_apart}
use Rattle.load_model.proofs.ToldOutcomes.{accepted_follows}
use Rattle.load_model.proofs.laws.commands_are_asked.Goals as goal

pub returns : goal.returns
returns c = record { accepted = accepted_may_ask; touched = touched_is_apart; follows = accepted_follows }
