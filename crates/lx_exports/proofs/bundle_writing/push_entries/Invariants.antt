use Rattle.std.proofs.Common.{◌≡◌, ◌++◌, drop}
use Rattle.std.specs.List.{flat_map}
use Rattle.lx_exports.specs.Slots.{entry_bytes}
use Rattle.lx_exports.proofs.bundle_writing.push_entries.Given as goal

abbrev pub invariant-loop-slot : goal.invariant-loop-slot
invariant-loop-slot l = l.out.items ++ flat_map entry_bytes (drop l.slot-index l.slots) ≡ l.initial.out.items ++ flat_map entry_bytes l.slots
