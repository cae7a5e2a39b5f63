use Rattle.layer_laws.proofs.PairsReach.{pairs_reach}
use Rattle.layer_laws.proofs.laws.pairs_reach_exports.Goals as goal

pub returns : goal.returns
returns c = pairs_reach
