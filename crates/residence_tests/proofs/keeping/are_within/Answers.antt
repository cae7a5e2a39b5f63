use Rattle.std.proofs.Common.{◌<◌, subst}
use Rattle.std.specs.Prelude.{All}
use Rattle.std.proofs.lemmas.List.{take_all}
use Rattle.std.proofs.lemmas.List.Elements.{All-more}
use Rattle.residence_tests.proofs.keeping.are_within.Goals as goal

pub loop-m-preserved : goal.loop-m-preserved
loop-m-preserved c = All-more (λ m. m < c.len-count.result) c.args.modules.now c.loop-m.m-index 0 c.loop-m-test.true c.loop-m.invariant c.if-m-count.false

pub returns : goal.returns
returns c = λ yes.
    subst (λ n. All (λ m. m < n) c.args.modules.now) c.len-count.ensures.count
    (subst (All (λ m. m < c.len-count.result)) (take_all c.loop-m.m-index c.args.modules.now c.loop-m-test.false) c.loop-m.invariant)
