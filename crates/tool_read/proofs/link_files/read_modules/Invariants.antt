use Rattle.std.proofs.Common.{take, map}
use Rattle.std.specs.Prelude.{string_bytes}
use Rattle.answer_model.specs.AskedFiles.{asked_inputs}
use Rattle.tool_read.specs.Steps.{AreModulesOf, AreWhole}
use Rattle.tool_read.proofs.Walk.{ReadSoFar}
use Rattle.tool_read.proofs.link_files.read_modules.Given as goal

abbrev pub invariant-loop-name : goal.invariant-loop-name
invariant-loop-name g l = record {
  read : ReadSoFar AreModulesOf (asked_inputs (map string_bytes (take l.name-index l.names))) (g.F.Files.state l.initial.files) (g.F.Files.state l.files) l.modules;
  whole : AreWhole l.modules;
}
