-- The places of numbers are those of the list.
use Rattle.std.specs.Prelude.{◌≡◌, ℕ, ◌+◌, ◌<◌, ◌≤◌, ◌==◌, List, [], ◌∷◌, map, filter, length, get_or}
use Rattle.std.specs.List.{All, enumerate_from, range_with_len}
use Rattle.std.proofs.Common.{ap, sym, subst, ◌∙◌, arith}
use Rattle.std.proofs.lemmas.List.{length-map, get_or-map}
use Rattle.std.proofs.lemmas.List.Elements.{All-map, All-cons, All-filter}
use Rattle.seg_parts.specs.Order.{places_with, gathered}

numbered_below : (s most : ℕ) (ns : List ℕ) → s + length ns ≤ most → All (λ (q : ℕ × ℕ). q.0 < most) (enumerate_from s ns)
numbered_below s most [] within = λ i d lt. absurd (omega (arith, lt))
numbered_below s most (n ∷ ns) within =
    let q : ℕ × ℕ = (s, n) in
    All-cons (λ (p : ℕ × ℕ). p.0 < most) q (enumerate_from (s + 1) ns) (omega (arith, within)) (numbered_below (s + 1) most ns (omega (arith, within)))

places_below : (order : List ℕ) (n : ℕ) → All (λ (p : ℕ). p < length order) (places_with order n)
places_below order n =
    All-map (λ (p : ℕ). p < length order) (λ (q : ℕ × ℕ). q.0) (filter (λ q. q.1 == n) (enumerate_from 0 order))
    (All-filter (λ (q : ℕ × ℕ). q.1 == n) (λ (q : ℕ × ℕ). q.0 < length order) (enumerate_from 0 order) (numbered_below 0 (length order) order (omega arith)))

pub gathered-below : (order : List ℕ) (count i : ℕ) → i < length (gathered order count) → All (λ (p : ℕ). p < length order) (get_or (gathered order count) i [])
gathered-below order count i lt =
    let under : i < length (range_with_len 0 count) = omega (arith, lt, length-map (range_with_len 0 count) (places_with order)) in
    subst (λ (t : List ℕ). All (λ (p : ℕ). p < length order) t) (sym (get_or-map (places_with order) (range_with_len 0 count) i 0 [] under)) (places_below order (get_or (range_with_len 0 count) i 0))

pub list-at : {V : Type 0} (items : V → List ℕ) (vs us : List V) (gs : List (List ℕ)) (i : ℕ) (v : V) (ns : List ℕ) → us ≡ vs → map items vs ≡ gs → i < length us → v ≡ get_or us i v → ns ≡ items v → (i < length gs) × (ns ≡ get_or gs i [])
list-at items vs us gs i v ns same e lt is own =
    let all : map items us ≡ gs = ap (map items) same ∙ e in (
      omega (arith, lt, ap length all, length-map us items),
      own ∙ ap items is ∙ sym (get_or-map items us i v [] lt) ∙ ap (λ (t : List (List ℕ)). get_or t i []) all,
    )
