use Rattle.link_model.proofs.LiveFixups.{patches_stand}
use Rattle.link_model.proofs.laws.patches_stand_at_all_bases.Goals as goal

pub returns : goal.returns
returns c = patches_stand
