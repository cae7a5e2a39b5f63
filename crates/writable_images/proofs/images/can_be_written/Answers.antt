use Rattle.std.proofs.Common.{subst, sym}
use Rattle.std.specs.Prelude.{All}
use Rattle.writable_images.proofs.SourcesApart.{no_by}
use Rattle.writable_images.specs.Named.{PageFits}
use Rattle.writable_images.proofs.Asked.{by_parts, parts_of, fixes_of}
use Rattle.writable_images.proofs.images.can_be_written.Goals as goal

pub returns-then-not-parts_fit : goal.returns-then-not-parts_fit
returns-then-not-parts_fit c = no_by c.parts_fit.result c.if-not-parts_fit.true (λ can. c.parts_fit.ensures.1 (parts_of c.args.image.now can))

pub returns : goal.returns
returns c = (
  λ yes. by_parts c.args.image.now c.in_ok-named.named c.in_ok-named.ensures (c.parts_fit.ensures.0 c.if-not-parts_fit.false)
      (subst (All (All (PageFits c.in_ok-named.named))) c.as_slice.ensures (c.fixes_fit.ensures.0 yes)),
  λ can. c.fixes_fit.ensures.1 (subst (All (All (PageFits c.in_ok-named.named))) (sym c.as_slice.ensures) (fixes_of c.args.image.now c.in_ok-named.named c.in_ok-named.ensures can)),
)
