use Rattle.std.proofs.Common.{List, subst, sym, ap, ◌∙◌}
use Rattle.std.specs.Prelude.{All}
use Rattle.lx_model.specs.Gathering.{LibraryFault}
use Rattle.memory_model.specs.declared.held.ModuleMemory.{ModuleMemory}
use Rattle.memory_core.specs.Addresses.{AreAddressed}
use Rattle.answer_model.specs.MemoryAnswer.{ShowsModules, memory_text}
use Rattle.answer_model.specs.Outcome.{says_only}
use Rattle.answer_model.specs.declared.said.Said.{Said}
use Rattle.file_commands.proofs.ComesTo.{if_told}
use Rattle.file_commands.proofs.HeldMemory.{held_shown, load_refused}
use Rattle.file_commands.proofs.memory.held.Goals as goal

pub held_text-requires : goal.held_text-requires
held_text-requires c =
    let P : List ModuleMemory → Type 0 = λ held. All AreAddressed held in
    subst P (sym c.deref.ensures.value) c.in-Ok.ensures.addressed

pub returns-in_ok-held_text-in-Ok : goal.returns-in_ok-held_text-in-Ok
returns-in_ok-held_text-in-Ok c =
    let lib = c.args.library in
    let name = c.args.name.now in
    let P : Said → Type 0 = λ said. ShowsModules name lib (LibraryFault lib) (says_only said) in
    subst P (sym c.done.ensures)
    (held_shown name lib c.in-Ok.held.items c.in_ok-held_text-in-Ok.field-0 c.requires c.in-Ok.ensures.answer
    (c.in_ok-held_text-in-Ok.ensures ∙ ap (λ (held : List ModuleMemory). memory_text held) c.deref.ensures.value))

pub returns-in-Err : goal.returns-in-Err
returns-in-Err c =
    let lib = c.args.library in
    let name = c.args.name.now in
    let P : Said → Type 0 = λ said. ShowsModules name lib (LibraryFault lib) (says_only said) in
    if_told P c.unloaded.result (load_refused _ name lib c.in-Err.why _ c.requires c.in-Err.ensures.answer c.unloaded.ensures)
