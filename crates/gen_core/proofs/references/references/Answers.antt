use Rattle.std.proofs.Common.{◌≡◌, ◌++◌, ◌∷◌, ◌∙◌, [], List, map, sym, ap, zero-add, rules}
use Rattle.std.specs.List.{range_with_len}
use Rattle.std.proofs.lemmas.List.FromFn.{map-range_with_len_more}
use Rattle.obj_types.specs.declared.object.FixAt.{FixAt}
use Rattle.gen_model.specs.Modules.{reference}
use Rattle.gen_core.proofs.references.references.Goals as goal
use Rattle.gen_model.specs.declared.numbers.TheConstants.{REFERENCES}

pub loop-i-preserved : goal.loop-i-preserved
loop-i-preserved c =
    let k = c.args.k in
    let i = c.loop-i.i in
    c.in_ok-push.ensures
    ∙ ap (λ (fixes : List FixAt). fixes ++ c.reference.result ∷ []) c.loop-i.invariant
    ∙ ap (λ (f : FixAt). map (reference k) (range_with_len 0 i) ++ f ∷ []) c.reference.ensures
    ∙ sym (map-range_with_len_more (reference k) 0 i i (zero-add i))

pub returns : goal.returns
returns c =
    let last : c.loop-i.i ≡ REFERENCES = search rules in
    c.loop-i.invariant ∙ ap (λ n. map (reference c.args.k) (range_with_len 0 n)) last
