use Rattle.std.specs.List.{All}
use Rattle.std.proofs.Common.{subst}
use Rattle.std.proofs.lemmas.List.{take_all}
use Rattle.std.proofs.lemmas.List.Elements.{All-more}
use Rattle.layer_laws.specs.Ranges.{ImportInRange}
use Rattle.layer_laws.proofs.ranges.import_ranges.Goals as goal

pub loop-import-preserved : goal.loop-import-preserved
loop-import-preserved c = All-more ImportInRange c.args.imports.now c.loop-import.import-index c.import-item.result c.loop-import-test.true c.loop-import.invariant (subst ImportInRange c.import-item.is c.import_range.ensures)

pub returns : goal.returns
returns c = subst (All ImportInRange) (take_all c.loop-import.import-index c.args.imports.now c.loop-import-test.false) c.loop-import.invariant
