-- How the program ends.
use Rattle.std.specs.Prelude.{ℕ, List, Option}
use Rattle.lx_ports.specs.Files.{FilesState}
use Rattle.lx_ports.specs.Sinks.{SinkState}
use Rattle.session_model.specs.Runs.{Run}
use Rattle.answer_model.specs.RunEnds.{MainEnds}

-- It ends as a call with this status does. What ran, if the words are those of a session, is let go.
pub record EndsWith (words : List (List ℕ)) (files files_now : FilesState) (out out_now : SinkState) (status : ℕ) : Type 0 where
  pub ran : Option Run
  pub ends : MainEnds words files files_now out out_now status ran
