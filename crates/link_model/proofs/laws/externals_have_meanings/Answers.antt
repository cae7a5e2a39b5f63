use Rattle.link_model.proofs.ExternalsMean.{externals_mean}
use Rattle.link_model.proofs.laws.externals_have_meanings.Goals as goal

pub returns : goal.returns
returns c = externals_mean
