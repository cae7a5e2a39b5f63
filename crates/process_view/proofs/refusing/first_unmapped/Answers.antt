use Rattle.process_view.proofs.Words.{ap, arith, Bool, false, find, is_none, is_some, None, not, Option, page, place_in, refl, Some, sym, true, ℕ, ◌∙◌, ◌≡◌}
use Rattle.process_view.proofs.Insides.{find_first, none_left}
use Rattle.process_view.proofs.refusing.first_unmapped.Goals as goal

none_by : (o p : Option ℕ) (r : Bool) → o ≡ p → is_some o ≡ not r → is_none p ≡ r
none_by None None true f e = refl
none_by (Some k) (Some j) false f e = refl
none_by o p r f e = absurd cc

pub returns-then-is_none : goal.returns-then-is_none
returns-then-is_none c =
    let p : ℕ → Bool = λ n. is_none (place_in c.args.places.now (page c.args.object n)) in
    sym (find_first p c.loop-page.page c.args.span.end true c.loop-page-test.true (none_by c.get.result _ true c.get.ensures (c.is_none.ensures ∙ ap not c.if-is_none.true))) ∙ c.loop-page.invariant

pub loop-page-preserved : goal.loop-page-preserved
loop-page-preserved c =
    let p : ℕ → Bool = λ n. is_none (place_in c.args.places.now (page c.args.object n)) in
    sym (find_first p c.loop-page.page c.args.span.end false c.loop-page-test.true (none_by c.get.result _ false c.get.ensures (c.is_none.ensures ∙ ap not c.if-is_none.false))) ∙ c.loop-page.invariant

pub returns : goal.returns
returns c =
    let p : ℕ → Bool = λ n. is_none (place_in c.args.places.now (page c.args.object n)) in
    sym (ap (find p) (none_left c.loop-page.page c.args.span.end (omega arith))) ∙ c.loop-page.invariant
