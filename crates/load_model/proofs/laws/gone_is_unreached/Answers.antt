use Rattle.load_model.proofs.Residents.{gone_is_unreached}
use Rattle.load_model.proofs.laws.gone_is_unreached.Goals as goal

pub returns : goal.returns
returns c = gone_is_unreached
