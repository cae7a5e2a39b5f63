use Rattle.std.proofs.Common.{refl}
use Rattle.std.specs.Fmt.{digits}
use Rattle.session_model.specs.Merging.{merge_of, state_after_items}
use Rattle.session_model.specs.Transcript.{entry_text, line_text, Transcript}
use Rattle.session_model.proofs.worked.lines_are_written.Goals as goal

pub returns : goal.returns
unfolding digits merge_of state_after_items entry_text line_text Transcript
returns c = record { start = refl; load = refl; full = refl; free = refl; exit = refl; fault = refl; write = refl; shared = refl; touch = refl; query = refl; refused = refl; ended = refl }
