use Rattle.std.proofs.Common.{◌≡◌, ℕ, List, ◌∷◌, [], Vec, subst, sym}
use Rattle.std.specs.Prelude.{IfOk}
use Rattle.std.specs.Global.{Global}
use Rattle.answer_model.specs.Items.{Item, raw, raw_file}
use Rattle.answer_model.specs.Outcome.{says_only}
use Rattle.answer_model.specs.ShowAnswer.{ShowsFile}
use Rattle.answer_model.specs.Words.{show}
use Rattle.tool_read.specs.Readings.{asked}
use Rattle.tool_read.proofs.Walk.{one_load}
use Rattle.file_commands.proofs.Commands.{not_read, show_done}
use Rattle.file_commands.proofs.OneLoad.{one_read, one_refused}
use Rattle.file_commands.proofs.ComesTo.{if_said}
use Rattle.file_commands.proofs.show.show.Goals as goal

pub returns-in-Ok : goal.returns-in-Ok
returns-in-Ok g c =
    let name = c.args.file.now in
    let read = c.in-Ok.ensures.read in
    let Raw : Vec ℕ Global → Item = λ v. raw v.items in
    show_done name c.in-Ok.bytes _ _ _ _ (one_load name read.0 _ _ read.1) (one_read Raw (asked raw_file name) read.0 c.in-Ok.bytes read.2)
    (if_said (λ said. ShowsFile name c.in-Ok.bytes.items (says_only said)) c.shown.result c.shown.ensures)

pub returns-in-Err : goal.returns-in-Err
returns-in-Err g c =
    let name = c.args.file.now in
    let read = c.in-Err.ensures.read in
    let Gives : Vec ℕ Global → List Item → Type 0 = λ v items. items ≡ raw v.items ∷ [] in
    not_read Gives (show name) _ _ _ c.in-Err.why _ (one_load name read.0 _ _ read.1) (one_refused Gives (asked raw_file name) read.0 c.in-Err.why read.2) c.in_full.ensures
