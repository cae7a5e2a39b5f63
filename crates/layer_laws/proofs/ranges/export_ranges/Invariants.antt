use Rattle.std.proofs.Common.{take}
use Rattle.std.specs.List.{All}
use Rattle.layer_laws.specs.Ranges.{ExportInRange}
use Rattle.layer_laws.proofs.ranges.export_ranges.Given as goal

abbrev pub invariant-loop-export : goal.invariant-loop-export
invariant-loop-export l = All ExportInRange (take l.export-index l.exports)
