use Rattle.session_model.proofs.Bounded.{sessions_are_bounded}
use Rattle.session_text.proofs.Readable.{session-writable}
use Rattle.session_text.proofs.laws.sessions_are_writable.Goals as goal

pub returns : goal.returns
returns c = λ bytes s ses. session-writable bytes s ses (sessions_are_bounded bytes s ses)
