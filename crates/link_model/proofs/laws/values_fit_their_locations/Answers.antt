use Rattle.link_model.proofs.ValueLengths.{values_fit}
use Rattle.link_model.proofs.laws.values_fit_their_locations.Goals as goal

pub returns : goal.returns
returns c = values_fit
