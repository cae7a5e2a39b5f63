use Rattle.stepped_runs.proofs.Onward.{mapped_none, mapped_further, can_still}
use Rattle.stepped_runs.proofs.Pages.{page_of_place, page_still}
use Rattle.load_model.specs.Memory.{page}
use Rattle.load_model.specs.ViewAnswers.{view_refusal}
use Rattle.stepped_runs.proofs.mapping.touch.Goals as goal

pub loop-number-init : goal.loop-number-init
loop-number-init g c = mapped_none c.args.board.now c.args.view.now c.requires.stands

pub touch_page-requires-clause-stands : goal.touch_page-requires-clause-stands
touch_page-requires-clause-stands g c = can_still c.args.board.now c.loop-number.board c.args.view.now c.loop-number.view c.requires.stands c.loop-number.invariant.went

pub touch_page-requires-clause-page : goal.touch_page-requires-clause-page
unfolding view_refusal
touch_page-requires-clause-page g c =
    page_still c.args.board.now c.loop-number.board c.args.view.now c.loop-number.view c.in-Ok.residence (page c.args.place.now.object c.loop-number.number) c.loop-number.invariant
    (page_of_place c.residences_stand.ensures.fit c.args.board.now c.args.view.now c.args.place.now c.in-Ok.residence c.span_of-span.result.first c.span_of-span.result.end c.loop-number.number c.history.ensures.legal c.requires.stands
    c.in-Ok.ensures.0 c.in-Ok.ensures.1 c.span_of-span.ensures.pages c.loop-number.auto.number c.loop-number-test.true (c.span_of-span.ensures.within c.loop-number.number c.loop-number-test.true))

pub loop-number-preserved : goal.loop-number-preserved
loop-number-preserved g c =
    mapped_further c.args.board.now c.loop-number.board c.touch_page.new.board c.args.view.now c.loop-number.view c.touch_page.new.view c.loop-number.invariant c.touch_page.ensures

pub returns-in_err-touch_page : goal.returns-in_err-touch_page
returns-in_err-touch_page g c =
    (mapped_further c.args.board.now c.loop-number.board c.touch_page.new.board c.args.view.now c.loop-number.view c.touch_page.new.view c.loop-number.invariant c.touch_page.ensures).went
