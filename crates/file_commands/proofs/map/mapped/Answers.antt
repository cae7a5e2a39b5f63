use Rattle.std.proofs.Common.{subst, sym}
use Rattle.answer_model.specs.MapAnswer.{MapsInput}
use Rattle.answer_model.specs.Outcome.{says_only}
use Rattle.answer_model.specs.declared.said.Said.{Said}
use Rattle.file_commands.proofs.Mapped.{map_shown, map_refused}
use Rattle.file_commands.proofs.ComesTo.{if_told}
use Rattle.file_commands.proofs.map.mapped.Goals as goal

pub returns-in-Ok : goal.returns-in-Ok
returns-in-Ok c =
    let P : Said → Type 0 = λ s. MapsInput c.args.read.input (says_only s) in
    subst P (sym c.map.ensures) (map_shown c.args.read.input _ _ c.in-Ok.ensures.mapped c.from_vec.ensures)

pub returns-in-Err : goal.returns-in-Err
returns-in-Err c =
    let P : Said → Type 0 = λ s. MapsInput c.args.read.input (says_only s) in
    if_told P c.unlinked.result (map_refused _ c.args.read.input c.in-Err.why _ c.in-Err.ensures.mapped c.unlinked.ensures)
