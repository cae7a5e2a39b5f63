use Rattle.std.proofs.Common.{◌≡◌, length, map, take}
use Rattle.std.specs.List.{flat_map}
use Rattle.implib_model.specs.Library.{library_bytes}
use Rattle.implib_model.specs.Imports.{modules_of}
use Rattle.answer_model.specs.ImplibAnswer.{imports_of}
use Rattle.tool_read.specs.Readings.{exporter_item}
use Rattle.file_commands.proofs.library.joined.Given as goal

abbrev pub invariant-loop-exporter : goal.invariant-loop-exporter
invariant-loop-exporter l = record {
  libraries : l.libraries.items ≡ map library_bytes (map (λ x. modules_of (imports_of l.stem (exporter_item x))) (take l.exporter-index l.exporters));
  imports : l.imports ≡ length (flat_map (λ x. imports_of l.stem (exporter_item x)) (take l.exporter-index l.exporters));
}
