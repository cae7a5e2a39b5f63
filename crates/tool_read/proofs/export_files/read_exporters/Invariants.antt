use Rattle.std.proofs.Common.{◌≡◌, take, map}
use Rattle.std.specs.Prelude.{string_bytes}
use Rattle.std.specs.List.{All}
use Rattle.answer_model.specs.Says.{asked_exporters}
use Rattle.tool_read.specs.Readings.{WholeExporter, exporter_item}
use Rattle.tool_read.proofs.Walk.{ReadSoFar}
use Rattle.tool_read.proofs.export_files.read_exporters.Given as goal

abbrev pub invariant-loop-name : goal.invariant-loop-name
invariant-loop-name g l = record {
  read : ReadSoFar (λ v items. items ≡ map exporter_item v.items) (asked_exporters (map string_bytes (take l.name-index l.names))) (g.F.Files.state l.initial.files) (g.F.Files.state l.files) l.read;
  whole : All WholeExporter l.read.items;
}
