use Rattle.link_model.proofs.OneChoice.{chosen_once}
use Rattle.link_model.proofs.laws.modules_are_chosen_once.Goals as goal

pub returns : goal.returns
returns c = chosen_once
