use Rattle.std.proofs.Common.{rules, ◌≡◌, ℕ, ◌==◌, ◌++◌, ◌∷◌, [], cond, filter, get_or, ap, ◌∙◌}
use Rattle.std.proofs.lemmas.List.{take_all}
use Rattle.mod_refs.proofs.Counts.{filtered_more}
use Rattle.mod_refs.proofs.counting.uncounted.Goals as goal

pub loop-k-preserved : goal.loop-k-preserved
loop-k-preserved c =
    let reached = c.args.reached.now in
    let order = c.args.order.now in
    let k = get_or order c.loop-k.k-index 0 in
    let modules = c.loop-k.modules.items in
    let is : c.if-reached-k-eq0.modules.items ≡ cond (get_or reached k 0 == 0) (modules ++ k ∷ []) modules = search rules in
    filtered_more (λ (m : ℕ). get_or reached m 0 == 0) order c.loop-k.k-index 0 modules _ c.loop-k-test.true c.loop-k.invariant is

pub returns : goal.returns
returns c = c.loop-k.invariant ∙ ap (filter (λ (m : ℕ). get_or c.args.reached.now m 0 == 0)) (take_all c.loop-k.k-index c.args.order.now c.loop-k-test.false)
