use Rattle.std.proofs.Common.{◌≡◌, List, ◌∷◌, []}
use Rattle.lx_types.specs.declared.parts.Parts.{Parts}
use Rattle.answer_model.specs.Items.{Item, linked, module_file}
use Rattle.answer_model.specs.Words.{dump}
use Rattle.tool_read.specs.Readings.{asked}
use Rattle.tool_read.proofs.Walk.{one_load}
use Rattle.file_commands.proofs.Commands.{dump_done, not_read}
use Rattle.file_commands.proofs.OneLoad.{one_read, one_refused}
use Rattle.file_commands.proofs.ComesTo.{if_said}
use Rattle.dump_model.specs.Dumps.{Dump}
use Rattle.dump_model.specs.Listings.{listing_of}
use Rattle.file_commands.proofs.dump.dump.Goals as goal

pub returns-in-Ok : goal.returns-in-Ok
returns-in-Ok g c =
    let name = c.args.file.now in
    let read = c.in-Ok.ensures.read in
    dump_done name c.in-Ok.module _ _ _ _ (one_load name read.0 _ _ read.1) (one_read linked (asked module_file name) read.0 c.in-Ok.module read.2)
    (if_said (λ said. said ≡ record { status = 0; text = Dump (listing_of c.in-Ok.module) }) c.dumped.result c.dumped.ensures)

pub returns-in-Err : goal.returns-in-Err
returns-in-Err g c =
    let name = c.args.file.now in
    let read = c.in-Err.ensures.read in
    let Gives : Parts → List Item → Type 0 = λ v items. items ≡ linked v ∷ [] in
    not_read Gives (dump name) _ _ _ c.in-Err.why _ (one_load name read.0 _ _ read.1) (one_refused Gives (asked module_file name) read.0 c.in-Err.why read.2) c.in_full.ensures
