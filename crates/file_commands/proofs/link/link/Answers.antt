use Rattle.std.proofs.Common.{◌≡◌, List}
use Rattle.refusal_text.specs.declared.refused.LinkFiles.{LinkFiles}
use Rattle.answer_model.specs.LinkAnswer.{input_of}
use Rattle.answer_model.specs.Items.{Item}
use Rattle.file_commands.proofs.Commands.{link_done, not_read}
use Rattle.file_commands.proofs.link.link.Goals as goal

pub returns-in-Ok : goal.returns-in-Ok
returns-in-Ok g c = link_done _ _ _ c.in-Ok.read c.in-Ok.ensures.read.calls _ _ _ _ c.in-Ok.ensures.read.loads c.in-Ok.ensures.read.reads c.link_input.ensures

pub returns-in-Err : goal.returns-in-Err
returns-in-Err g c =
    let Gives : LinkFiles → List Item → Type 0 = λ read items. read.input ≡ input_of c.args.out.now items in
    not_read Gives _ c.in-Err.ensures.read.calls _ _ c.in-Err.why _ c.in-Err.ensures.read.loads c.in-Err.ensures.read.reads c.in_full.ensures
