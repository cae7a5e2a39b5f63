use Rattle.std.specs.List.{All}
use Rattle.std.proofs.Common.{subst}
use Rattle.std.proofs.lemmas.List.Elements.{All-more}
use Rattle.link_core.specs.Ranges.{HasRange}
use Rattle.std.proofs.lemmas.List.{take_all}
use Rattle.link_core.proofs.ranges.page_ranges.Goals as goal

pub loop-fix-preserved : goal.loop-fix-preserved
loop-fix-preserved c = All-more HasRange c.args.fixes.now c.loop-fix.fix-index _ c.loop-fix-test.true c.loop-fix.invariant c.fix_range.ensures

pub returns : goal.returns
returns c = subst (All HasRange) (take_all c.loop-fix.fix-index c.args.fixes.now c.loop-fix-test.false) c.loop-fix.invariant
