use Rattle.load_model.proofs.Outcomes.{names_are_known}
use Rattle.load_model.proofs.laws.names_are_known.Goals as goal

pub returns : goal.returns
returns c = names_are_known
