use Rattle.std.proofs.Common.{take}
use Rattle.std.specs.List.{AllByRecursion}
use Rattle.lx_exports.specs.Exports.{ExportFits}
use Rattle.writable_images.proofs.exports.exports_fit.Given as goal

abbrev pub invariant-loop-export : goal.invariant-loop-export
invariant-loop-export l = AllByRecursion ExportFits (take l.export-index l.exports)
