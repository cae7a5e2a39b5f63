use Rattle.session_model.proofs.Firsts.{means_one, means_or_fails, fault_means_none, fault_is_first}
use Rattle.session_model.proofs.laws.sessions_are_one.Goals as goal

pub returns : goal.returns
returns c = record { one = means_one; either = means_or_fails; not_both = fault_means_none; first = fault_is_first }
