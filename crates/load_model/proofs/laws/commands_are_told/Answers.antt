use Rattle.load_model.proofs.ToldOutcomes.{refused_is_told, accepted_is_told}
use Rattle.load_model.proofs.laws.commands_are_told.Goals as goal

pub returns : goal.returns
returns c = record { refused = refused_is_told; accepted = accepted_is_told }
