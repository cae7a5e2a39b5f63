use Rattle.check_model.proofs.Firsts.{first_wrong_is_one}
use Rattle.check_model.proofs.laws.first_wrong_is_one.Goals as goal

pub returns : goal.returns
returns c = first_wrong_is_one
