use Rattle.std.proofs.Common.{List, subst}
use Rattle.std.specs.Prelude.{IfOk}
use Rattle.lx_types.specs.declared.parts.Parts.{Parts}
use Rattle.lx_model.specs.Gathering.{LibraryFault}
use Rattle.answer_model.specs.MemoryAnswer.{ShowsModules}
use Rattle.answer_model.specs.Outcome.{says_only}
use Rattle.answer_model.specs.declared.said.Said.{Said}
use Rattle.file_commands.proofs.ComesTo.{if_told}
use Rattle.file_commands.proofs.HeldMemory.{gather_refused}
use Rattle.file_commands.proofs.memory.shown.Goals as goal

pub held-requires : goal.held-requires
held-requires c = c.in-Ok.ensures.accepted.faultless

pub returns-in-Ok : goal.returns-in-Ok
returns-in-Ok c =
    let P : List Parts → Type 0 = λ mods. IfOk c.held.result (λ told. ShowsModules c.args.name.now mods (LibraryFault mods) (says_only told.said)) in
    subst P c.in-Ok.ensures.gathered c.held.ensures

pub returns-in-Err : goal.returns-in-Err
returns-in-Err c =
    let mods = c.args.«modules».items in
    let name = c.args.name.now in
    let P : Said → Type 0 = λ said. ShowsModules name mods (LibraryFault mods) (says_only said) in
    if_told P c.ungathered.result (gather_refused name mods c.in-Err.refused.why _ c.in-Err.ensures.refused c.ungathered.ensures)
