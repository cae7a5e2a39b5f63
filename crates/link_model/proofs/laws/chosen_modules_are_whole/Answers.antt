use Rattle.link_model.proofs.ExportsStay.{chosen_are_whole}
use Rattle.link_model.proofs.laws.chosen_modules_are_whole.Goals as goal

pub returns : goal.returns
returns c = chosen_are_whole
