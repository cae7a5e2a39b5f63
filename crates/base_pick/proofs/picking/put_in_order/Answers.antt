use Rattle.std.proofs.Common.{rules}
use Rattle.std.proofs.lemmas.List.Sorted.{IsNonDecreasingBy-from_sort, answers_always}
use Rattle.base_pick.specs.declared.occupied.AddressRange.{AddressRange}
use Rattle.base_pick.proofs.picking.put_in_order.Goals as goal

pub returns-then-not-are_in_order-clause-rising : goal.returns-then-not-are_in_order-clause-rising
returns-then-not-are_in_order-clause-rising c =
    IsNonDecreasingBy-from_sort (λ (range : AddressRange). range.from) _
    (c.sort_unstable_by_key.ensures.sorted (λ (range : AddressRange). range.from) (answers_always _ _ _ (λ f a r g h. search rules)))
