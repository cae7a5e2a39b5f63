use Rattle.std.proofs.Common.{◌≡◌, map, ◌++◌, length}
use Rattle.std.specs.Prelude.{◌+◌}
use Rattle.std.specs.List.{AllByRecursion}
use Rattle.lx_exports.specs.Exports.{ExportFits, with_ordinals}
use Rattle.lx_exports.specs.Slots.{shown, greatest_of, slots_to}
use Rattle.lx_exports.proofs.SlotsFilled.{Filled}
use Rattle.lx_exports.proofs.slots.slots_of.Given as goal

abbrev pub invariant-loop-export : goal.invariant-loop-export
invariant-loop-export l = Filled l.exports l.ordinals l.export-iterator.a.rest.now l.export-iterator.b.rest.now l.slots.items
