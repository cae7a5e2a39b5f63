use Rattle.std.proofs.Common.{◌≡◌, ◌∙◌, ◌+◌, ap, arith, rules}
use Rattle.module_pages.specs.Placed.{PlacedModule}
use Rattle.gen_core.specs.Fixing.{object_words, total}
use Rattle.gen_core.proofs.Words.{module_is, total_further}
use Rattle.gen_core.proofs.fixing.sum_of_module.Goals as goal

pub loop-before-preserved : goal.loop-before-preserved
loop-before-preserved g c =
    let lib = c.args.lib.now in
    let bases = c.args.bases.now in
    let m = c.args.number in
    let before = c.loop-before.before in
    let number : 1 + before ≡ before + 1 = omega arith in
    let more = c.in_ok-sum.ensures ∙ ap (λ (p : PlacedModule). total (object_words p.library p.bases p.«module» (before + 1))) c.of-pages.ensures in
    total_further (object_words lib bases m) 1 before (before + 1) c.loop-before.sum c.in_ok-sum.field-0 number c.loop-before.invariant more

pub returns : goal.returns
returns g c =
    module_is c.args.lib.now c.args.bases.now c.args.number c.loop-before.before c.loop-before.sum c.loop-before.invariant (search rules)
