use Rattle.std.proofs.Common.{◌≡◌, take, map}
use Rattle.std.specs.Prelude.{string_bytes}
use Rattle.std.specs.List.{All}
use Rattle.answer_model.specs.AskedFiles.{asked_modules}
use Rattle.answer_model.specs.Items.{linked}
use Rattle.lx_model.specs.Module.{IsRead}
use Rattle.tool_read.proofs.Walk.{ReadSoFar}
use Rattle.tool_read.proofs.module_files.read_modules.Given as goal

abbrev pub invariant-loop-name : goal.invariant-loop-name
invariant-loop-name g l = record {
  read : ReadSoFar (λ v items. items ≡ map linked v.items) (asked_modules (map string_bytes (take l.name-index l.names))) (g.F.Files.state l.initial.files) (g.F.Files.state l.files) l.read;
  whole : All IsRead l.read.items;
}
