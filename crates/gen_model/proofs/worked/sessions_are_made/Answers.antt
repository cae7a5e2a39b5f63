use Rattle.std.proofs.Common.{refl}
use Rattle.std.specs.Fmt.{digits}
use Rattle.session_model.specs.Spelling.{session_bytes}
use Rattle.gen_model.specs.Sessions.{gen_session}
use Rattle.gen_model.proofs.worked.sessions_are_made.Goals as goal

pub returns : goal.returns
unfolding digits session_bytes gen_session
returns c = record { one = refl; two = refl; objects = refl; definitions = refl; session = refl }
