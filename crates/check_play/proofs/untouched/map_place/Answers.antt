use Rattle.std.proofs.Common.{◌≡◌, ℕ, None, Some, ap, ◌∙◌, arith}
use Rattle.load_model.specs.declared.commands.Command.TheVariants as commands
use Rattle.load_model.specs.declared.commands.Place.{Place}
use Rattle.load_model.specs.Memory.{page}
use Rattle.load_model.specs.Views.{Holding}
use Rattle.load_model.specs.ViewAnswers.{view_refusal}
use Rattle.process_view.specs.ProcessViews.{ProcessView}
use Rattle.check_play.specs.Mapping.{IsPageIn}
use Rattle.check_play.proofs.MappedPlaces.{among_pages, page_of_place, still_in}
use Rattle.check_play.proofs.UntouchedReads.{none_yet, one_further}
use Rattle.check_play.proofs.UntouchedPlaces.{going, may_touch, is_touchable, shared_page, shared_still, accepted_then}
use Rattle.check_play.proofs.untouched.map_place.Goals as goal

pub unreachable-requires : goal.unreachable-requires
unreachable-requires g c =
    let fine : view_refusal c.args.view.now.library c.args.view.now.holding (commands.Touch c.args.place.now) ≡ None =
    is_touchable c.args.view.now c.args.place.now c.requires.untouched.0 c.requires.untouched.1 in
    let said : view_refusal c.args.view.now.library c.args.view.now.holding (commands.Touch c.args.place.now) ≡ Some c.in-Err.field-0 = c.in-Err.ensures in cc

pub loop-number-init : goal.loop-number-init
loop-number-init g c = none_yet c.args.board.now c.args.view.now _ c.args.place.now.object c.span_of-span.result.first c.requires.stands

pub map_page-requires-clause-going : goal.map_page-requires-clause-going
map_page-requires-clause-going g c =
    ap (λ (h : Holding). h.ended) c.loop-number.invariant.same.holding ∙ going c.args.view.now c.args.place.now c.requires.untouched.0 c.requires.untouched.1

pub map_page-requires-clause-page : goal.map_page-requires-clause-page
map_page-requires-clause-page g c =
    let v : ProcessView = c.args.view.now in
    let at : Place = c.args.place.now in
    let same = c.loop-number.invariant.same in
    still_in v c.loop-number.view _ (page at.object c.loop-number.number) same.library same.residences
    (page_of_place c.residences_stand.ensures.fit c.args.board.now v at _ c.history.ensures.legal c.requires.stands (may_touch v at c.requires.untouched.0 c.requires.untouched.1) c.in-Ok.ensures.1 c.loop-number.number
    (among_pages at c.span_of-span.result.first c.span_of-span.result.end c.loop-number.number c.span_of-span.ensures.pages c.loop-number.auto.number c.loop-number-test.true))

pub map_page-requires-clause-shared : goal.map_page-requires-clause-shared
map_page-requires-clause-shared g c = λ d.
    let v : ProcessView = c.args.view.now in
    let at : Place = c.args.place.now in
    let n : ℕ = c.loop-number.number in
    let same = c.loop-number.invariant.same in
    let there : IsPageIn v _ (page at.object n) =
    page_of_place c.residences_stand.ensures.fit c.args.board.now v at _ c.history.ensures.legal c.requires.stands (may_touch v at c.requires.untouched.0 c.requires.untouched.1) c.in-Ok.ensures.1 n
    (among_pages at c.span_of-span.result.first c.span_of-span.result.end n c.span_of-span.ensures.pages c.loop-number.auto.number c.loop-number-test.true) in
    shared_still v c.loop-number.view _ (page at.object n) d same.library same.residences (shared_page v at c.requires.untouched.0 _ n c.requires.untouched.1 c.in-Ok.ensures.1 there d)

pub loop-number-preserved : goal.loop-number-preserved
loop-number-preserved g c =
    one_further c.args.board.now c.loop-number.board c.map_page.new.board c.args.view.now c.loop-number.view c.map_page.new.view _ c.args.place.now.object c.span_of-span.result.first c.loop-number.number
    c.loop-number.invariant c.in_ok-map_page.ensures

pub returns-clause-accepted : goal.returns-clause-accepted
returns-clause-accepted g c =
    let same = c.loop-number.invariant.same in
    accepted_then c.args.view.now c.loop-number.view c.args.place.now c.requires.untouched.0 _ c.span_of-span.result.first c.span_of-span.result.end c.requires.untouched.1 c.in-Ok.ensures.1 same.library same.holding
    c.span_of-span.ensures.pages (λ d i low high. c.loop-number.invariant.there d i low (omega (arith, high, c.loop-number-test.false)))
