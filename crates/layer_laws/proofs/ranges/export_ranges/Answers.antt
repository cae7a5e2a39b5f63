use Rattle.std.specs.List.{All}
use Rattle.std.proofs.Common.{subst}
use Rattle.std.proofs.lemmas.List.{take_all}
use Rattle.std.proofs.lemmas.List.Elements.{All-more}
use Rattle.layer_laws.specs.Ranges.{ExportInRange}
use Rattle.layer_laws.proofs.ranges.export_ranges.Goals as goal

pub loop-export-preserved : goal.loop-export-preserved
loop-export-preserved c = All-more ExportInRange c.args.exports.now c.loop-export.export-index c.export-item.result c.loop-export-test.true c.loop-export.invariant (subst ExportInRange c.export-item.is c.export_range.ensures)

pub returns : goal.returns
returns c = subst (All ExportInRange) (take_all c.loop-export.export-index c.args.exports.now c.loop-export-test.false) c.loop-export.invariant
