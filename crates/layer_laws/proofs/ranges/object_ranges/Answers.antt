use Rattle.std.specs.List.{All}
use Rattle.std.proofs.Common.{subst}
use Rattle.std.proofs.lemmas.List.{take_all}
use Rattle.std.proofs.lemmas.List.Elements.{All-more}
use Rattle.layer_laws.specs.Ranges.{ModuleInRange}
use Rattle.layer_laws.proofs.ranges.object_ranges.Goals as goal

pub loop-object-preserved : goal.loop-object-preserved
loop-object-preserved c = All-more ModuleInRange c.args.objects.now c.loop-object.object-index c.object-item.result c.loop-object-test.true c.loop-object.invariant (subst ModuleInRange c.object-item.is c.object_range.ensures)

pub returns : goal.returns
returns c = subst (All ModuleInRange) (take_all c.loop-object.object-index c.args.objects.now c.loop-object-test.false) c.loop-object.invariant
