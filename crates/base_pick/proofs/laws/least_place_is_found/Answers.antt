use Rattle.base_pick.proofs.Least.{least_is_found}
use Rattle.base_pick.proofs.laws.least_place_is_found.Goals as goal

pub returns : goal.returns
returns c = least_is_found
