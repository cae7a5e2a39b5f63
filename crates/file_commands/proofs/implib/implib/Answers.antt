use Rattle.std.proofs.Common.{◌≡◌, List, Vec, map, ap, sym, ◌∙◌}
use Rattle.std.specs.Global.{Global}
use Rattle.std.specs.Prelude.{string_bytes}
use Rattle.answer_model.specs.ImplibAnswer.{all_imports, implib_outcome}
use Rattle.answer_model.specs.Items.{Item}
use Rattle.answer_model.specs.Stem.{stem_of}
use Rattle.tool_read.specs.Readings.{exporter_item}
use Rattle.tool_read.specs.declared.exporters.Exporter.{Exporter}
use Rattle.file_commands.proofs.Commands.{implib_done, not_read}
use Rattle.file_commands.proofs.implib.implib.Goals as goal

abbrev Gives : Vec Exporter Global → List Item → Type 0
Gives v items = items ≡ map exporter_item v.items

pub returns-in-Ok : goal.returns-in-Ok
returns-in-Ok g c =
    let out = c.args.out.now in
    let all = c.in-Ok.ensures.read.reads in
    let same : map exporter_item c.deref.result.now ≡ all.items = ap (λ (xs : List Exporter). map exporter_item xs) c.deref.ensures.value ∙ sym all.given in
    implib_done out (map string_bytes c.args.inputs.now) (all_imports (stem_of out) (map exporter_item c.deref.result.now)) c.in-Ok.ensures.read.calls all.items _ _ _ _ c.in-Ok.ensures.read.loads all.read
    (ap (λ (items : List Item). implib_outcome out (all_imports (stem_of out) items)) same) c.write_library.ensures

pub returns-in-Err : goal.returns-in-Err
returns-in-Err g c = not_read Gives _ c.in-Err.ensures.read.calls _ _ c.in-Err.why _ c.in-Err.ensures.read.loads c.in-Err.ensures.read.reads c.in_full.ensures
