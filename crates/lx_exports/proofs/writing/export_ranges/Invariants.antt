use Rattle.std.proofs.Common.{take}
use Rattle.std.specs.List.{AllByRecursion}
use Rattle.lx_exports.specs.Writing.{HasRange}
use Rattle.lx_exports.proofs.writing.export_ranges.Given as goal

abbrev pub invariant-loop-export : goal.invariant-loop-export
invariant-loop-export l = AllByRecursion HasRange (take l.export-index l.exports)
