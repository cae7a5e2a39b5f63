use Rattle.std.proofs.Common.{◌∙◌, subst, List}
use Rattle.std.specs.List.{All}
use Rattle.std.proofs.lemmas.List.Elements.{All-more}
use Rattle.lx_types.specs.declared.fix.Fix.{Fix}
use Rattle.link_core.specs.Ranges.{HasRange}
use Rattle.std.proofs.lemmas.List.{take_all}
use Rattle.link_core.proofs.ranges.object_ranges.Goals as goal

pub loop-page-preserved : goal.loop-page-preserved
loop-page-preserved c =
    All-more (λ (page : List Fix). All HasRange page) c.args.pages.now c.loop-page.page-index c.page-item.result c.loop-page-test.true c.loop-page.invariant
    (subst (λ (page : List Fix). All HasRange page) (c.as_slice.ensures ∙ c.page-item.is) c.page_ranges.ensures)

pub returns : goal.returns
returns c = subst (All (All HasRange)) (take_all c.loop-page.page-index c.args.pages.now c.loop-page-test.false) c.loop-page.invariant
