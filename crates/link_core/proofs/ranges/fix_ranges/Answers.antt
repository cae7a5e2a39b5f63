use Rattle.std.proofs.Common.{◌∙◌, subst, List}
use Rattle.std.specs.List.{All}
use Rattle.std.proofs.lemmas.List.Elements.{All-more}
use Rattle.lx_types.specs.declared.fix.Fix.{Fix}
use Rattle.link_core.specs.Ranges.{HasRange}
use Rattle.std.proofs.lemmas.List.{take_all}
use Rattle.link_core.proofs.ranges.fix_ranges.Goals as goal

pub loop-pages-preserved : goal.loop-pages-preserved
loop-pages-preserved c =
    All-more (λ (pages : List (List Fix)). All (All HasRange) pages) c.args.objects.now c.loop-pages.pages-index c.pages-item.result c.loop-pages-test.true c.loop-pages.invariant
    (subst (λ (pages : List (List Fix)). All (All HasRange) pages) (c.as_slice.ensures ∙ c.pages-item.is) c.object_ranges.ensures)

pub returns : goal.returns
returns c = subst (All (All (All HasRange))) (take_all c.loop-pages.pages-index c.args.objects.now c.loop-pages-test.false) c.loop-pages.invariant
