use Rattle.std.proofs.Common.{◌≡◌, ◌++◌}
use Rattle.std.specs.List.{flat_map, range_with_len}
use Rattle.answer_model.specs.ImageText.{line_of}
use Rattle.file_commands.proofs.text.push_image.Given as goal

abbrev pub invariant-loop-number : goal.invariant-loop-number
invariant-loop-number l = l.text.items ≡ l.initial.text.items ++ flat_map (line_of l.base l.bytes) (range_with_len 0 l.number)
