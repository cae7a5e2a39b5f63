use Rattle.std.proofs.Common.{◌≡◌, true, false, ◌∙◌, arith}
use Rattle.std.specs.Prelude.{nat_le}
use Rattle.std.proofs.lemmas.Bool.Decides.{nat_tests}
use Rattle.check_play.proofs.FaultResidences.{covers_by}
use Rattle.check_play.proofs.faults.covers.Goals as goal

pub returns-then-span-p : goal.returns-then-span-p
returns-then-span-p c =
    let before : nat_le c.span_of-span.result.first c.args.p.page ≡ true = grind (arith, nat_tests, c.if-span-p.true) in
    covers_by c.args.place.now c.args.p c.span_of-span.result.first c.span_of-span.result.end true c.if-place-p.false c.span_of-span.ensures.pages c.span_of-span.ensures.order before

pub returns-else-span-p : goal.returns-else-span-p
returns-else-span-p c =
    let past : nat_le c.span_of-span.result.first c.args.p.page ≡ false = grind (arith, nat_tests, c.if-span-p.false) in
    past
    ∙ covers_by c.args.place.now c.args.p c.span_of-span.result.first c.span_of-span.result.end false c.if-place-p.false c.span_of-span.ensures.pages c.span_of-span.ensures.order past
