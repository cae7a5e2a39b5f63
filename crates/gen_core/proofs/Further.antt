-- One piece of text more, of those of numbers in their order.
use Rattle.std.proofs.Common.{◌≡◌, ℕ, ◌+◌, List, ◌++◌, map, sym, ◌∙◌, ap}
use Rattle.std.proofs.lemmas.List.{flat_map_more}
use Rattle.std.proofs.lemmas.List.Folds.{flat_map-map}
use Rattle.std.proofs.lemmas.List.FromFn.{map-range_with_len_more}
use Rattle.std.specs.List.{flat_map, range_with_len}

pub lines_further : {A B : Type 0} (g : B → List A) (v : ℕ → B) (a n j : ℕ) → a + n ≡ j → (start out : List A)
    → out ≡ start ++ flat_map g (map v (range_with_len a n)) → out ++ g (v j) ≡ start ++ flat_map g (map v (range_with_len a (n + 1)))
lines_further {A} {B} g v a n j number start out before =
    ap (λ (o : List A). o ++ g (v j)) before
    ∙ flat_map_more g start (map v (range_with_len a n)) (v j)
    ∙ ap (λ (items : List B). start ++ flat_map g items) (sym (map-range_with_len_more v a n j number))

pub flat_map_further : {A : Type 0} (f : ℕ → List A) (a n j : ℕ) → a + n ≡ j → (start out : List A)
    → out ≡ start ++ flat_map f (range_with_len a n) → out ++ f j ≡ start ++ flat_map f (range_with_len a (n + 1))
flat_map_further {A} f a n j number start out before =
    let own : List A → List A = λ items. items in
    let together = λ (m : ℕ). flat_map-map own f (range_with_len a m) in
    lines_further own f a n j number start out (before ∙ ap (λ (items : List A). start ++ items) (sym (together n)))
    ∙ ap (λ (items : List A). start ++ items) (together (n + 1))
