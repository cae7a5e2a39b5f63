-- From how the call ended to how the program ends.
use Rattle.std.proofs.Common.{◌≡◌, ℕ, List, Option, sym, subst}
use Rattle.lx_ports.specs.Files.{FilesState}
use Rattle.lx_ports.specs.Sinks.{SinkState}
use Rattle.session_model.specs.Runs.{Run}
use Rattle.answer_model.specs.RunEnds.{MainEnds}
use Rattle.lx_start.specs.Ending.{EndsWith}

-- What is told after the call changes no file, and the program's status is that of the call.
pub ends_with : (words : List (List ℕ)) (files files_now files_after : FilesState) (out out_now : SinkState) (status code : ℕ) (ran : Option Run) → files_after ≡ files_now → code ≡ status
    → MainEnds words files files_now out out_now status ran → EndsWith words files files_after out out_now code
ends_with words files files_now files_after out out_now status code ran same is ends =
    let P : FilesState → Type 0 = λ s. MainEnds words files s out out_now code ran in
    let Q : ℕ → Type 0 = λ n. MainEnds words files files_now out out_now n ran in
    record { ran = ran; ends = subst P (sym same) (subst Q (sym is) ends) }
