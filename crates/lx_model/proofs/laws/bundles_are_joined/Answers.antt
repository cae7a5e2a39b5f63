use Rattle.lx_model.proofs.JoinedBundles.{bundles_joined}
use Rattle.lx_model.proofs.laws.bundles_are_joined.Goals as goal

pub returns : goal.returns
returns c = bundles_joined
