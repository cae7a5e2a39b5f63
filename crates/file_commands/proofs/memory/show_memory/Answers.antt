use Rattle.std.proofs.Common.{ℕ, List, map, subst}
use Rattle.std.specs.Prelude.{IfOk, string_bytes}
use Rattle.lx_model.specs.Gathering.{LibraryFault}
use Rattle.answer_model.specs.MemoryAnswer.{ShowsModules, first_name}
use Rattle.answer_model.specs.Outcome.{says_only}
use Rattle.file_commands.proofs.Commands.{not_read}
use Rattle.file_commands.proofs.ComesTo.{if_said}
use Rattle.file_commands.proofs.HeldMemory.{GivesModules, memory_done}
use Rattle.file_commands.proofs.memory.show_memory.Goals as goal

pub returns-in-Ok : goal.returns-in-Ok
returns-in-Ok g c =
    let read = c.in-Ok.ensures.read in
    let mods = c.in-Ok.read.items in
    let P : List ℕ → Type 0 = λ name. IfOk c.shown.result (λ told. ShowsModules name mods (LibraryFault mods) (says_only told.said)) in
    memory_done (map string_bytes c.args.«modules».now) c.in-Ok.read read.calls _ _ _ read.loads read.reads
    (if_said (λ said. ShowsModules (first_name (map string_bytes c.args.«modules».now)) mods (LibraryFault mods) (says_only said)) c.shown.result (subst P c.first_of.ensures c.shown.ensures))

pub returns-in-Err : goal.returns-in-Err
returns-in-Err g c = not_read GivesModules _ c.in-Err.ensures.read.calls _ _ c.in-Err.why _ c.in-Err.ensures.read.loads c.in-Err.ensures.read.reads c.in_full.ensures
