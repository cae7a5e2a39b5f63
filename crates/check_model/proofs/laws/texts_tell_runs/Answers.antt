use Rattle.std.proofs.Common.{refl}
use Rattle.session_model.specs.Transcript.{Transcript}
use Rattle.check_model.specs.Told.{told_text}
use Rattle.check_model.proofs.laws.texts_tell_runs.Goals as goal

pub returns : goal.returns
unfolding told_text Transcript
returns c = λ lib run. refl
