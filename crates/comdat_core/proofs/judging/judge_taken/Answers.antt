use Rattle.std.proofs.Common.{◌∙◌, sym}
use Rattle.link_model.specs.Clash.{all_modules}
use Rattle.comdat_core.specs.Judging.{clash_by}
use Rattle.comdat_core.specs.ModuleData.{AreAt}
use Rattle.comdat_core.proofs.Clashes.{all_at, none_at, none_after}
use Rattle.comdat_core.proofs.judging.judge_taken.Goals as goal

pub loop-one-preserved : goal.loop-one-preserved
loop-one-preserved c = λ input picks numbers has are.
    let before = c.loop-one.invariant input picks numbers has are in
    let here = all_at (AreAt (all_modules input) c.args.chosen.place) c.args.taken.now c.loop-one.one-index _ c.one-item.result c.loop-one-test.true c.one-item.is are in
    let seen = c.in_ok-clash.ensures input picks numbers before.1 here in
    (none_at (clash_by input picks c.args.chosen.number) c.args.taken.now c.loop-one.one-index c.one-item.result c.loop-one-test.true c.one-item.is (sym seen.0 ∙ c.in_default.is) ∙ before.0, seen.1)

pub returns : goal.returns
returns c = λ input picks numbers has are.
    let before = c.loop-one.invariant input picks numbers has are in
    (sym before.0 ∙ none_after (clash_by input picks c.args.chosen.number) c.args.taken.now c.loop-one.one-index c.loop-one-test.false, before.1)
