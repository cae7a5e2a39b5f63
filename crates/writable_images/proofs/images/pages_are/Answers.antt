use Rattle.std.proofs.Common.{◌∙◌, ap, sym, length, arith}
use Rattle.std.proofs.lemmas.Bool.{false≢true}
use Rattle.link_model.specs.Records.{page_count}
use Rattle.writable_images.proofs.Asked.{alike_at}
use Rattle.writable_images.proofs.images.pages_are.Goals as goal

pub returns-then-as_slice-page_count : goal.returns-then-as_slice-page_count
returns-then-as_slice-page_count c = (
  λ e. absurd (false≢true e),
  λ same. absurd (c.if-as_slice-page_count.true
      (ap length c.as_slice.ensures ∙ ap length c.index-fixes-place.is
      ∙ alike_at length (λ o. page_count o.size) c.args.fixes.now c.args.objects.now c.loop-place.place _ _ c.loop-place-test.true
      (let there = c.loop-place-test.true in let as_many = c.if-fixes-objects.false in omega (arith, there, as_many)) same
      ∙ sym c.page_count.ensures)),
)
