use Rattle.std.proofs.Common.{◌≡◌, ◌++◌, drop}
use Rattle.std.specs.List.{flat_map}
use Rattle.show_model.specs.Outlines.{part_text}
use Rattle.show_core.proofs.printing.push_parts.Given as goal

abbrev pub invariant-loop-part : goal.invariant-loop-part
invariant-loop-part l = l.out.items ++ flat_map part_text (drop l.part-index l.parts) ≡ l.initial.out.items ++ flat_map part_text l.parts
