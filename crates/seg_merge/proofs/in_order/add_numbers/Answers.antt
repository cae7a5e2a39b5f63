use Rattle.std.specs.Prelude.{◌≡◌, ℕ, suc, ◌+◌, ◌-◌, ◌≤◌, List, [], ◌∷◌, ◌++◌}
use Rattle.std.specs.List.{range_with_len}
use Rattle.std.proofs.Common.{ap, sym, ◌∙◌, arith, append_assoc}
use Rattle.lx_types.proofs.Lists.{range-push}
use Rattle.seg_merge.proofs.in_order.add_numbers.Goals as goal

numbers-more : (init now next : List ℕ) (from n : ℕ) → from ≤ n → now ≡ init ++ range_with_len from (n - from) → next ≡ now ++ n ∷ [] → next ≡ init ++ range_with_len from (n + 1 - from)
numbers-more init now next from n low so_far grown =
    let last : n ≡ from + (n - from) = omega (arith, low) in
    let long : suc (n - from) ≡ n + 1 - from = omega (arith, low) in
    grown ∙ ap (λ (t : List ℕ). t ++ n ∷ []) so_far ∙ append_assoc init (range_with_len from (n - from)) (n ∷ [])
    ∙ ap (λ (k : ℕ). init ++ (range_with_len from (n - from) ++ k ∷ [])) last
    ∙ ap (λ (t : List ℕ). init ++ t) (sym (range-push from (n - from)) ∙ ap (range_with_len from) long)

pub loop-number-preserved : goal.loop-number-preserved
loop-number-preserved c =
    numbers-more _ c.loop-number.order.items c.push.new.self.items c.args.from c.loop-number.number (omega arith) c.loop-number.invariant c.in_ok-push.ensures.items
