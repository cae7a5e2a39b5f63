use Rattle.session_model.proofs.HeldMerges.{held_merges_alike}
use Rattle.session_model.proofs.laws.agreement_is_enough.Goals as goal

pub returns : goal.returns
returns c = held_merges_alike
