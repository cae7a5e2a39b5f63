use Rattle.std.proofs.Common.{◌∙◌, refl}
use Rattle.std.specs.Prelude.{All}
use Rattle.writable_images.proofs.SourcesApart.{no_by}
use Rattle.writable_images.specs.Named.{PageFits}
use Rattle.writable_images.proofs.Asked.{more, ended, item}
use Rattle.writable_images.proofs.images.fixes_fit.Goals as goal

pub returns-then-not-pages_fit : goal.returns-then-not-pages_fit
returns-then-not-pages_fit c =
    no_by c.pages_fit.result c.if-not-pages_fit.true (λ all.
    c.pages_fit.ensures.1 (item (All (PageFits c.args.named.now)) c.args.objects.now c.loop-pages.pages-index _ _ c.loop-pages-test.true (c.as_slice.ensures ∙ c.pages-item.is) all))

pub loop-pages-preserved : goal.loop-pages-preserved
loop-pages-preserved c =
    more (All (PageFits c.args.named.now)) c.args.objects.now c.loop-pages.pages-index _ _ c.loop-pages-test.true (c.as_slice.ensures ∙ c.pages-item.is) c.loop-pages.invariant
    (c.pages_fit.ensures.0 c.if-not-pages_fit.false)

pub returns : goal.returns
returns c = (λ _. ended (All (PageFits c.args.named.now)) c.args.objects.now c.loop-pages.pages-index c.loop-pages-test.false c.loop-pages.invariant, λ _. refl)
