use Rattle.std.proofs.Common.{◌≡◌, ◌++◌, take}
use Rattle.std.specs.List.{flat_map}
use Rattle.answer_model.specs.MemoryAnswer.{object_text}
use Rattle.file_commands.proofs.held.push_module.Given as goal

abbrev pub invariant-loop-object : goal.invariant-loop-object
invariant-loop-object l = l.text.items ≡ l.initial.text.items ++ flat_map (object_text l.held.name) (take l.object-index l.held.objects)
