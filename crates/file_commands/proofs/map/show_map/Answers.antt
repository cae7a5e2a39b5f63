use Rattle.std.proofs.Common.{◌≡◌, List}
use Rattle.refusal_text.specs.declared.refused.LinkFiles.{LinkFiles}
use Rattle.answer_model.specs.LinkAnswer.{input_with}
use Rattle.answer_model.specs.MapAnswer.{NAME, MapsInput}
use Rattle.answer_model.specs.Items.{Item}
use Rattle.file_commands.proofs.Commands.{not_read}
use Rattle.file_commands.proofs.Mapped.{map_done}
use Rattle.file_commands.proofs.ComesTo.{if_said}
use Rattle.answer_model.specs.Outcome.{says_only}
use Rattle.file_commands.proofs.map.show_map.Goals as goal

pub returns-in-Ok : goal.returns-in-Ok
returns-in-Ok g c = map_done _ _ c.in-Ok.read c.in-Ok.ensures.read.calls _ _ _ c.in-Ok.ensures.read.loads c.in-Ok.ensures.read.reads
    (if_said (λ said. MapsInput c.in-Ok.read.input (says_only said)) c.mapped.result c.mapped.ensures)

pub returns-in-Err : goal.returns-in-Err
returns-in-Err g c =
    let Gives : LinkFiles → List Item → Type 0 = λ read items. read.input ≡ input_with NAME items in
    not_read Gives _ c.in-Err.ensures.read.calls _ _ c.in-Err.why _ c.in-Err.ensures.read.loads c.in-Err.ensures.read.reads c.in_full.ensures
