use Rattle.std.proofs.Common.{◌≡◌, ◌+◌, ◌∙◌, ◌++◌, ◌∷◌, [], Bool, List, map, sym, ap, arith}
use Rattle.std.specs.List.{range_with_len}
use Rattle.std.proofs.lemmas.List.FromFn.{map-range_with_len_more}
use Rattle.page_fix.specs.Rights.{fixable_row}
use Rattle.page_fix.proofs.rights.rows_of.Goals as goal

pub loop-before-preserved : goal.loop-before-preserved
loop-before-preserved c =
    let row = fixable_row c.args.m.now in
    let before = c.loop-before.before in
    let number : 1 + before ≡ before + 1 = omega arith in
    c.in_ok-push.ensures.ok
    ∙ ap (λ (rows : List (List Bool)). rows ++ c.in_ok-of.field-0 ∷ []) c.loop-before.invariant
    ∙ ap (λ (r : List Bool). map row (range_with_len 1 before) ++ r ∷ []) c.in_ok-of.ensures
    ∙ sym (map-range_with_len_more row 1 before (before + 1) number)
