use Rattle.process_view.proofs.Words.{ap, arith, Bool, false, list_any, page, sym, true, ℕ, ◌∙◌}
use Rattle.process_view.proofs.Insides.{any_first, none_left, bytes_inside, page_inside}
use Rattle.load_model.specs.Modules as modules
use Rattle.process_view.proofs.spans.covers_invalid.Goals as goal

pub is_invalid-requires-clause-object : goal.is_invalid-requires-clause-object
is_invalid-requires-clause-object c = (bytes_inside c.args.lib.now c.args.m c.args.place.now.object c.args.place.now.offset c.args.place.now.len c.requires.inside).there

pub is_invalid-requires-clause-page : goal.is_invalid-requires-clause-page
is_invalid-requires-clause-page c =
    page_inside c.args.lib.now c.args.m c.args.place.now.object c.args.place.now.offset c.args.place.now.len c.loop-page.page
    (bytes_inside c.args.lib.now c.args.m c.args.place.now.object c.args.place.now.offset c.args.place.now.len c.requires.inside)
    (c.span_of-span.ensures.within c.loop-page.page c.loop-page-test.true)

pub returns-then-is_invalid : goal.returns-then-is_invalid
returns-then-is_invalid c =
    let p : ℕ → Bool = λ n. modules.is_invalid c.args.lib.now c.args.m (page c.args.place.now.object n) in
    sym (any_first p c.loop-page.page c.span_of-span.result.end true c.loop-page-test.true (sym c.is_invalid.ensures ∙ c.if-is_invalid.true)) ∙ c.loop-page.invariant
    ∙ ap (list_any p) c.span_of-span.ensures.pages

pub loop-page-preserved : goal.loop-page-preserved
loop-page-preserved c =
    let p : ℕ → Bool = λ n. modules.is_invalid c.args.lib.now c.args.m (page c.args.place.now.object n) in
    sym (any_first p c.loop-page.page c.span_of-span.result.end false c.loop-page-test.true (sym c.is_invalid.ensures ∙ c.if-is_invalid.false)) ∙ c.loop-page.invariant

pub returns : goal.returns
returns c =
    let p : ℕ → Bool = λ n. modules.is_invalid c.args.lib.now c.args.m (page c.args.place.now.object n) in
    sym (ap (list_any p) (none_left c.loop-page.page c.span_of-span.result.end (omega arith))) ∙ c.loop-page.invariant ∙ ap (list_any p) c.span_of-span.ensures.pages
