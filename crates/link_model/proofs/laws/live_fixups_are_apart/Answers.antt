use Rattle.link_model.proofs.LiveFixups.{live_apart}
use Rattle.link_model.proofs.laws.live_fixups_are_apart.Goals as goal

pub returns : goal.returns
returns c = live_apart
