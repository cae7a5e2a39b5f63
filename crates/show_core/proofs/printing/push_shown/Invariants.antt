use Rattle.std.proofs.Common.{◌≡◌, ◌++◌, drop}
use Rattle.std.specs.List.{flat_map}
use Rattle.show_model.specs.Outlines.{shown_byte}
use Rattle.show_core.proofs.printing.push_shown.Given as goal

abbrev pub invariant-loop-byte : goal.invariant-loop-byte
invariant-loop-byte l = l.out.items ++ flat_map shown_byte (drop l.byte-index l.bytes) ≡ l.initial.out.items ++ flat_map shown_byte l.bytes
