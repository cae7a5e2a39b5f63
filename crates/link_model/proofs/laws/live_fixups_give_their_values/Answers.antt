use Rattle.link_model.proofs.LiveMeans.{live_fixups_mean}
use Rattle.link_model.proofs.laws.live_fixups_give_their_values.Goals as goal

pub returns : goal.returns
returns c = live_fixups_mean
