use Rattle.std.proofs.Common.{◌≡◌, ℕ, ◌-◌, List, sym, ap, ◌∙◌, subst, arith}
use Rattle.std.specs.List.{range_with_len}
use Rattle.page_frames.specs.Residences.{ResidenceFor}
use Rattle.load_model.specs.Memory.{page}
use Rattle.process_view.proofs.Words.{nowhere}
use Rattle.check_play.specs.Mapping.{residence_at, HasMore}
use Rattle.check_play.proofs.MappedPlaces.{among_pages, still_in, none_more, next_more, up_to_next, up_to_first}
use Rattle.check_play.proofs.touches.map_place.Goals as goal

pub loop-number-init : goal.loop-number-init
loop-number-init g c = λ d.
    let r : ResidenceFor = residence_at c.args.view.now c.args.residence d in
    subst (λ (ns : List ℕ). HasMore c.args.view.now c.args.view.now r c.args.place.now.object ns) (sym (up_to_first c.span_of-span.result.first)) (none_more c.args.view.now r c.args.place.now.object)

pub map_page-requires : goal.map_page-requires
map_page-requires g c =
    let more = c.loop-number.invariant nowhere in
    still_in c.args.view.now c.loop-number.view c.args.residence (page c.args.place.now.object c.loop-number.number) more.library more.residences
    (c.requires c.loop-number.number
    (among_pages c.args.place.now c.span_of-span.result.first c.span_of-span.result.end c.loop-number.number c.span_of-span.ensures.pages c.loop-number.auto.number c.loop-number-test.true))

pub loop-number-preserved : goal.loop-number-preserved
loop-number-preserved g c = λ d.
    let r : ResidenceFor = residence_at c.args.view.now c.args.residence d in
    subst (λ (ns : List ℕ). HasMore c.args.view.now c.map_page.new.view r c.args.place.now.object ns) (sym (up_to_next c.span_of-span.result.first c.loop-number.number c.loop-number.auto.number))
    (next_more c.args.view.now c.loop-number.view c.map_page.new.view c.args.residence c.args.place.now.object c.loop-number.number
    (range_with_len c.span_of-span.result.first (c.loop-number.number - c.span_of-span.result.first)) d (c.loop-number.invariant d) (c.in_ok-map_page.ensures d))

pub returns : goal.returns
returns g c = λ d.
    let r : ResidenceFor = residence_at c.args.view.now c.args.residence d in
    let long : c.loop-number.number - c.span_of-span.result.first ≡ c.span_of-span.result.end - c.span_of-span.result.first = omega arith in
    subst (λ (ns : List ℕ). HasMore c.args.view.now c.loop-number.view r c.args.place.now.object ns) (ap (range_with_len c.span_of-span.result.first) long ∙ c.span_of-span.ensures.pages)
    (c.loop-number.invariant d)
