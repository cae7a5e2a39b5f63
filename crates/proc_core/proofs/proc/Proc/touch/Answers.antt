use Rattle.proc_core.proofs.Words.{◌-◌, arith, err_from_is_err_and, subst, sym, ℕ, ◌≡◌, nowhere}
use Rattle.proc_core.proofs.TouchedTo.{TouchedTo, to_none, to_end}
use Rattle.proc_core.proofs.TouchLoop.{round_page, round_few, round_next, round_want}
use Rattle.proc_core.proofs.proc.Proc.touch.Goals as goal

pub loop-number-init : goal.loop-number-init
loop-number-init g c =
    let to = to_none c.args.self.now c.args.place.now c.args.steps.now c.in-Ok.ensures.residence.0 c.touched_in.ensures.holds.stands.stands.front in
    (subst (λ (n : ℕ). TouchedTo c.args.self.now c.args.self.now c.args.place.now n c.args.steps.now c.args.steps.now) (omega arith) to, c.requires.loader)

pub touch_page-requires-clause-few : goal.touch_page-requires-clause-few
touch_page-requires-clause-few g c =
    round_few c.residences_stand.ensures.fit c.args.self.now c.loop-number.self c.args.place.now c.in-Ok.residence c.touched_in.ensures.holds c.in-Ok.ensures.residence.0 c.in-Ok.ensures.residence.1
    c.span_of-span.result.first c.span_of-span.result.end c.loop-number.number c.args.steps.now c.loop-number.steps c.span_of-span.ensures.pages c.loop-number.auto.number c.loop-number-test.true
    (c.span_of-span.ensures.within c.loop-number.number c.loop-number-test.true) c.loop-number.invariant.0

pub touch_page-requires-clause-page : goal.touch_page-requires-clause-page
touch_page-requires-clause-page g c =
    round_page c.residences_stand.ensures.fit c.args.self.now c.loop-number.self c.args.place.now c.in-Ok.residence c.touched_in.ensures.holds c.in-Ok.ensures.residence.0 c.in-Ok.ensures.residence.1
    c.span_of-span.result.first c.span_of-span.result.end c.loop-number.number c.args.steps.now c.loop-number.steps c.span_of-span.ensures.pages c.loop-number.auto.number c.loop-number-test.true
    (c.span_of-span.ensures.within c.loop-number.number c.loop-number-test.true) c.loop-number.invariant.0

pub loop-number-preserved : goal.loop-number-preserved
loop-number-preserved g c = (
  round_next c.residences_stand.ensures.fit c.args.self.now c.loop-number.self c.args.place.now c.in-Ok.residence c.touched_in.ensures.holds c.in-Ok.ensures.residence.0 c.in-Ok.ensures.residence.1
      c.span_of-span.result.first c.span_of-span.result.end c.loop-number.number c.args.steps.now c.loop-number.steps c.span_of-span.ensures.pages c.loop-number.auto.number c.loop-number-test.true
      (c.span_of-span.ensures.within c.loop-number.number c.loop-number-test.true) c.loop-number.invariant.0
      c.touch_page.new.self c.touch_page.new.steps nowhere (c.touch_page.ensures.turns nowhere) (c.in_ok-touch_page.ensures.page nowhere),
  c.touch_page.ensures.loader,
)

pub returns-in_err-touch_page-clause-answer : goal.returns-in_err-touch_page-clause-answer
returns-in_err-touch_page-clause-answer g c =
    let step = c.in_err-touch_page.ensures.page nowhere in
    let none = err_from_is_err_and c.from_residual.result c.from_residual.ensures.1 in
    rw (none.1, none.2)
    (round_want c.residences_stand.ensures.fit c.args.self.now c.loop-number.self c.args.place.now c.in-Ok.residence c.touched_in.ensures.holds c.in-Ok.ensures.residence.0 c.in-Ok.ensures.residence.1
    c.span_of-span.result.first c.span_of-span.result.end c.loop-number.number c.args.steps.now c.loop-number.steps c.span_of-span.ensures.pages c.loop-number.auto.number c.loop-number-test.true
    (c.span_of-span.ensures.within c.loop-number.number c.loop-number-test.true) c.loop-number.invariant.0
    c.touch_page.new.self c.touch_page.new.steps nowhere (c.touch_page.ensures.turns nowhere) step.0 step.1)

pub returns-clause-answer : goal.returns-clause-answer
returns-clause-answer g c =
    let long : c.loop-number.number - c.span_of-span.result.first ≡ c.span_of-span.result.end - c.span_of-span.result.first = omega arith in
    to_end c.args.self.now c.loop-number.self c.args.place.now c.span_of-span.result.first (c.span_of-span.result.end - c.span_of-span.result.first) c.args.steps.now c.loop-number.steps (sym c.span_of-span.ensures.pages)
    (subst (λ (n : ℕ). TouchedTo c.args.self.now c.loop-number.self c.args.place.now n c.args.steps.now c.loop-number.steps) long c.loop-number.invariant.0)
