use Rattle.std.proofs.Common.{◌≡◌, take}
use Rattle.std.specs.List.{flat_map}
use Rattle.answer_model.specs.MemoryAnswer.{module_text}
use Rattle.file_commands.proofs.held.held_text.Given as goal

abbrev pub invariant-loop-one : goal.invariant-loop-one
invariant-loop-one l = l.text.items ≡ flat_map module_text (take l.one-index l.held)
