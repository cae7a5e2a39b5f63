use Rattle.session_files.proofs.Short.{sessions_are_short}
use Rattle.session_files.proofs.laws.sessions_are_short.Goals as goal

pub returns : goal.returns
returns c = sessions_are_short
