use Rattle.std.proofs.Common.{◌∙◌, ap, length, arith}
use Rattle.std.proofs.lemmas.Bool.{false≢true}
use Rattle.writable_images.proofs.Asked.{alike_at}
use Rattle.writable_images.proofs.images.sizes_are.Goals as goal

pub returns-then-as_slice-objects : goal.returns-then-as_slice-objects
returns-then-as_slice-objects c = (
  λ e. absurd (false≢true e),
  λ same. absurd (c.if-as_slice-objects.true
      (ap length c.as_slice.ensures ∙ ap length c.index-bytes-place.is
      ∙ alike_at length (λ o. o.size) c.args.bytes.now c.args.objects.now c.loop-place.place _ _ c.loop-place-test.true
      (let there = c.loop-place-test.true in let as_many = c.if-bytes-objects.false in omega (arith, there, as_many)) same)),
)
