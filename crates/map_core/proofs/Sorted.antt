-- What is sorted, as it is shown.
use Rattle.std.proofs.Common.{◌≡◌, ◌∙◌, ap, sym, List, [], ◌∷◌, map}
use Rattle.std.specs.Prelude.{IsPermutation, IsSorted}
use Rattle.std.specs.declared.cmp.Ordering.{Ordering}
use Rattle.std.specs.Ordering.{is_lt}
use Rattle.std.proofs.Common.{subst}
use Rattle.std.proofs.lemmas.List.Sorted.{IsPermutation-map}
use Rattle.map_model.specs.Listed.{Listed}
use Rattle.map_model.specs.Maps.{AreInOrder}
use Rattle.map_model.proofs.Sorting.{Ascends, ascends-from_sorted, sorted-from_ascends}

ascends-shown : {X Y : Type 0} (f : X → Y) (cmp : X → X → Ordering) (order : Y → Y → Ordering) → ((a b : X) → cmp a b ≡ order (f a) (f b)) → (xs : List X)
    → Ascends cmp xs → Ascends order (map f xs)
ascends-shown f cmp order same [] h = tt
ascends-shown f cmp order same (x ∷ []) h = tt
ascends-shown f cmp order same (x ∷ y ∷ xs) h = (sym (ap is_lt (same y x)) ∙ h.0, ascends-shown f cmp order same (y ∷ xs) h.1)

-- Sorted items are in order, as they are shown.
pub in_order-shown : {X : Type 0} (f : X → Listed) (cmp : X → X → Ordering) (order : Listed → Listed → Ordering) → ((a b : X) → cmp a b ≡ order (f a) (f b))
    → (items : List Listed) (xs ys : List X) → map f xs ≡ items → IsPermutation xs ys → IsSorted cmp ys → AreInOrder order items (map f ys)
in_order-shown {X} f cmp order same items xs ys e p s = record {
  same = subst (λ (zs : List Listed). IsPermutation zs (map f ys)) e (IsPermutation-map f xs ys p);
  ascend = sorted-from_ascends order (map f ys) (ascends-shown f cmp order same ys (ascends-from_sorted cmp ys s));
}
