use Rattle.std.proofs.Common.{◌≡◌, List, ap, length, map, ◌∙◌, take}
use Rattle.std.proofs.lemmas.List.{take_all}
use Rattle.std.specs.List.{flat_map}
use Rattle.implib_model.specs.Library.{library_bytes, library_len}
use Rattle.omf_write.specs.Joined.{modules_together}
use Rattle.answer_model.specs.ImplibAnswer.{all_imports}
use Rattle.answer_model.specs.Loading.{file_limit}
use Rattle.std.specs.Prelude.{◌<◌}
use Rattle.tool_read.specs.Readings.{exporter_item}
use Rattle.tool_read.specs.declared.exporters.Exporter.{Exporter}
use Rattle.file_commands.specs.ImportLibraries.{IsTooLong}
use Rattle.file_commands.proofs.Imports.{all_too_long, each_of, joined_are, joined_too_long, own_imports, passed_on}
use Rattle.file_commands.proofs.library.joined.Goals as goal

pub returns-in-Err : goal.returns-in-Err
returns-in-Err c =
    let stem = c.args.stem.now in
    let xs = c.args.exporters.now in
    let x = c.exporter-item.result in
    passed_on c.in-Err.why _ _ (IsTooLong (own_imports stem x)) (IsTooLong (all_imports stem (map exporter_item xs)))
    (all_too_long stem xs c.loop-exporter.exporter-index x c.loop-exporter-test.true c.exporter-item.is) c.in-Err.ensures

pub returns-in-Ok-join : goal.returns-in-Ok-join
returns-in-Ok-join c =
    let stem = c.args.stem.now in
    let xs = c.args.exporters.now in
    let all : take c.loop-exporter.exporter-index xs ≡ xs = take_all c.loop-exporter.exporter-index xs c.loop-exporter-test.false in
    let libraries : c.deref.result.now ≡ map library_bytes (each_of stem xs) =
    c.deref.ensures.value ∙ c.loop-exporter.invariant.libraries ∙ ap (λ (ys : List Exporter). map library_bytes (each_of stem ys)) all in
    let both = c.in-Ok-join.ensures (each_of stem xs) libraries in
    joined_are stem xs (record { bytes = c.in-Ok-join.bytes; imports = c.loop-exporter.imports }) both.0 both.1
    (c.loop-exporter.invariant.imports ∙ ap (λ (ys : List Exporter). length (flat_map (own_imports stem) ys)) all)

pub returns : goal.returns
returns c =
    let stem = c.args.stem.now in
    let xs = c.args.exporters.now in
    let all : take c.loop-exporter.exporter-index xs ≡ xs = take_all c.loop-exporter.exporter-index xs c.loop-exporter-test.false in
    let libraries : c.deref.result.now ≡ map library_bytes (each_of stem xs) =
    c.deref.ensures.value ∙ c.loop-exporter.invariant.libraries ∙ ap (λ (ys : List Exporter). map library_bytes (each_of stem ys)) all in
    passed_on c.in-Err-join.why _ _ (file_limit < library_len (modules_together (each_of stem xs))) (IsTooLong (all_imports stem (map exporter_item xs)))
    (joined_too_long stem xs) (c.in-Err-join.ensures (each_of stem xs) libraries)
