use Rattle.std.proofs.Common.{refl}
use Rattle.std.specs.Fmt.{digits}
use Rattle.answer_model.proofs.worked.check_is_told.Goals as goal

pub returns : goal.returns
unfolding digits
returns c = record { words = refl; no_transcript = refl; three_files = refl; other = refl; no_run = refl; no_command = refl; ok = refl; touch = refl; long = refl }
