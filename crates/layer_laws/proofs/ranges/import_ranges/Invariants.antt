use Rattle.std.proofs.Common.{take}
use Rattle.std.specs.List.{All}
use Rattle.layer_laws.specs.Ranges.{ImportInRange}
use Rattle.layer_laws.proofs.ranges.import_ranges.Given as goal

abbrev pub invariant-loop-import : goal.invariant-loop-import
invariant-loop-import l = All ImportInRange (take l.import-index l.imports)
