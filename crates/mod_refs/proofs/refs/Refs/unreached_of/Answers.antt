use Rattle.std.proofs.Common.{rules, ◌≡◌, ℕ, ◌++◌, ◌∷◌, [], cond, not, get_or, sym, ap, ◌∙◌, Bool, List}
use Rattle.load_model.specs.State.{is_reached}
use Rattle.mod_refs.proofs.Counts.{filtered_more}
use Rattle.mod_refs.proofs.refs.Refs.unreached_of.Goals as goal

pub loop-k-preserved : goal.loop-k-preserved
loop-k-preserved c = λ lib e are.
    let modules = c.args.modules.now in
    let k = get_or modules c.loop-k.k-index 0 in
    let unreached = c.loop-k.unreached.items in
    let is : c.if-not-resident.unreached.items ≡ cond (not c.resident.result) (unreached ++ k ∷ []) unreached = search rules in
    filtered_more (λ (m : ℕ). not (is_reached lib e m)) modules c.loop-k.k-index 0 unreached _ c.loop-k-test.true (c.loop-k.invariant lib e are)
    (is ∙ ap (λ (b : Bool). cond (not b) (unreached ++ k ∷ []) unreached) (c.resident.ensures lib e are))
