use Rattle.std.proofs.Common.{◌≡◌, List, ◌∷◌, []}
use Rattle.obj_types.specs.declared.object.ObjModule.{ObjModule}
use Rattle.answer_model.specs.Items.{Item, object, object_file}
use Rattle.answer_model.specs.Words.{image}
use Rattle.tool_read.specs.Readings.{asked}
use Rattle.tool_read.proofs.Walk.{one_load}
use Rattle.file_commands.proofs.Commands.{image_done, not_read}
use Rattle.file_commands.proofs.OneLoad.{one_read, one_refused}
use Rattle.file_commands.proofs.ComesTo.{if_said}
use Rattle.answer_model.specs.ImageAnswer.{ShowsObject}
use Rattle.answer_model.specs.Outcome.{says_only}
use Rattle.file_commands.proofs.image.image.Goals as goal

pub returns-in-Ok : goal.returns-in-Ok
returns-in-Ok g c =
    let name = c.args.object.now in
    let read = c.in-Ok.ensures.read in
    image_done name c.args.base c.in-Ok.module _ _ _ _ (one_load name read.0 _ _ read.1) (one_read object (asked object_file name) read.0 c.in-Ok.module read.2)
    (if_said (λ said. ShowsObject c.args.base c.in-Ok.module (says_only said)) c.shown.result c.shown.ensures)

pub returns-in-Err : goal.returns-in-Err
returns-in-Err g c =
    let name = c.args.object.now in
    let read = c.in-Err.ensures.read in
    let Gives : ObjModule → List Item → Type 0 = λ v items. items ≡ object v ∷ [] in
    not_read Gives (image name c.args.base) _ _ _ c.in-Err.why _ (one_load name read.0 _ _ read.1) (one_refused Gives (asked object_file name) read.0 c.in-Err.why read.2) c.in_full.ensures
