use Rattle.session_model.proofs.Bounded.{sessions_are_bounded}
use Rattle.session_model.proofs.laws.sessions_are_bounded.Goals as goal

pub returns : goal.returns
returns c = sessions_are_bounded
