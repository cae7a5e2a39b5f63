use Rattle.std.proofs.Common.{◌≡◌, Bool, true, false, List, nat_cmp, is_le, rules, sym}
use Rattle.std.specs.List.{IsAllAdjacentAnswer}
use Rattle.std.specs.List.Sorted.{IsNonDecreasingBy}
use Rattle.std.proofs.lemmas.List.Sorted.{IsNonDecreasingBy-from_all_adjacent, answers_always}
use Rattle.std.proofs.lemmas.Map.Keys.{le_from_is_le}
use Rattle.base_pick.specs.declared.occupied.AddressRange.{AddressRange}
use Rattle.base_pick.proofs.picking.are_in_order.Goals as goal

-- each range begins no later than the next
rising : (ranges : List AddressRange) (r : Bool) → IsAllAdjacentAnswer (λ (x y : AddressRange) b. b ≡ is_le (nat_cmp x.from y.from)) ranges r → r ≡ true →
    IsNonDecreasingBy (λ (range : AddressRange). range.from) ranges
rising ranges true each is = IsNonDecreasingBy-from_all_adjacent (λ (range : AddressRange). range.from) ranges (λ k d below. le_from_is_le _ _ (sym (each k d below)))
rising ranges false each is = cc

pub returns : goal.returns
returns c = rising c.args.ranges.now c.is_sorted_by_key.result (c.is_sorted_by_key.ensures.cases (λ (range : AddressRange). range.from) (answers_always _ _ _ (λ f a r g h. search rules)))
