use Rattle.std.proofs.Common.{◌∙◌, refl}
use Rattle.writable_images.proofs.SourcesApart.{no_by}
use Rattle.writable_images.specs.Named.{PageFits}
use Rattle.writable_images.proofs.Asked.{more, ended, item}
use Rattle.writable_images.proofs.images.pages_fit.Goals as goal

pub returns-then-not-page_fits : goal.returns-then-not-page_fits
returns-then-not-page_fits c =
    no_by c.page_fits.result c.if-not-page_fits.true (λ all.
    c.page_fits.ensures.1 (item (PageFits c.args.named.now) c.args.pages.now c.loop-page.page-index _ _ c.loop-page-test.true (c.as_slice.ensures ∙ c.page-item.is) all))

pub loop-page-preserved : goal.loop-page-preserved
loop-page-preserved c =
    more (PageFits c.args.named.now) c.args.pages.now c.loop-page.page-index _ _ c.loop-page-test.true (c.as_slice.ensures ∙ c.page-item.is) c.loop-page.invariant
    (c.page_fits.ensures.0 c.if-not-page_fits.false)

pub returns : goal.returns
returns c = (λ _. ended (PageFits c.args.named.now) c.args.pages.now c.loop-page.page-index c.loop-page-test.false c.loop-page.invariant, λ _. refl)
