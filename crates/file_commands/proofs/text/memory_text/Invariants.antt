use Rattle.std.proofs.Common.{◌≡◌, take}
use Rattle.std.specs.List.{flat_map}
use Rattle.file_commands.specs.Rows.{row_text}
use Rattle.file_commands.proofs.text.memory_text.Given as goal

abbrev pub invariant-loop-object : goal.invariant-loop-object
invariant-loop-object l = l.text.items ≡ flat_map row_text (take l.object-index l.rows)
