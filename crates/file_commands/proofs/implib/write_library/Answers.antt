use Rattle.std.proofs.Common.{ℕ, List, map, subst}
use Rattle.answer_model.specs.ImplibAnswer.{all_imports}
use Rattle.answer_model.specs.Outcome.{kept}
use Rattle.answer_model.specs.Stem.{stem_of}
use Rattle.tool_read.specs.Readings.{exporter_item}
use Rattle.file_commands.specs.Doing.{DoesOutcome}
use Rattle.file_commands.specs.Refusals.{said_in}
use Rattle.file_commands.specs.ImportLibraries.{IsLibraryOf, IsTooLong}
use Rattle.file_commands.proofs.Commands.{library_kept, library_refused}
use Rattle.file_commands.proofs.Imports.{refusal_has}
use Rattle.file_commands.proofs.implib.write_library.Goals as goal

pub returns-in-Ok : goal.returns-in-Ok
returns-in-Ok g c =
    let out = c.args.out.now in
    let items = map exporter_item c.args.exporters.now in
    let library = c.in-Ok.library in
    let line = c.in_ok-line-in-Ok.line in
    let before = g.F.Files.state c.args.files.now in
    let now = g.F.Files.state c.keep.new.files in
    let P : List ℕ → Type 0 = λ stem. IsLibraryOf library (all_imports stem items) in
    let Q : List ℕ → Type 0 = λ bytes. DoesOutcome (kept out bytes line) before now (said_in c.keep.result) in
    library_kept out (all_imports (stem_of out) items) library line before now (said_in c.keep.result) (subst P c.in_ok-stem.ensures.stem c.in-Ok.ensures)
    c.in_ok-line-in-Ok.ensures (subst Q c.deref.ensures.value c.keep.ensures)

pub returns : goal.returns
returns g c =
    let out = c.args.out.now in
    let items = map exporter_item c.args.exporters.now in
    let why = c.in-Err.why in
    let P : List ℕ → Type 0 = λ stem. IsTooLong (all_imports stem items) in
    library_refused out (all_imports (stem_of out) items) why (g.F.Files.state c.args.files.now) (said_in c.refused.result)
    (λ refusal same. subst P c.in_ok-stem.ensures.stem (refusal_has why _ (IsTooLong (all_imports c.in_ok-stem.stem items)) c.in-Err.ensures refusal same)) c.refused.ensures
