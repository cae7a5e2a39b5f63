-- The names of files, at a place in their list.
use Rattle.std.proofs.Common.{◌≡◌, ℕ, zero, suc, ◌+◌, ◌<◌, List, [], ◌∷◌, ◌++◌, length, map, take, drop, get_or, ◌∙◌, ap, sym, arith}
use Rattle.std.proofs.lemmas.List.{map-append, map_more}

pub split_at : {X Y Z : Type 0} (g : Y → Z) (f : X → Y) (xs : List X) (k : ℕ) (x : X) → k < length xs → x ≡ get_or xs k x
    → map g (map f xs) ≡ map g (map f (take k xs)) ++ g (f x) ∷ map g (map f (drop (suc k) xs))
split_at g f [] k x within at = absurd (omega (arith, within))
split_at g f (y ∷ xs) zero x within at = ap (λ z. g (f z) ∷ map g (map f xs)) (sym at)
split_at g f (y ∷ xs) (suc k) x within at = ap (λ t. g (f y) ∷ t) (split_at g f xs k x (omega (arith, within)) at)

pub more_at : {X Y Z : Type 0} (g : Y → Z) (f : X → Y) (xs : List X) (k : ℕ) (x : X) → k < length xs → x ≡ get_or xs k x
    → map g (map f (take k xs)) ++ g (f x) ∷ [] ≡ map g (map f (take (k + 1) xs))
more_at g f xs k x within at =
    ap (λ z. map g (map f (take k xs)) ++ g (f z) ∷ []) at
    ∙ sym (ap (λ t. map g t) (map_more f xs k x within) ∙ map-append g (map f (take k xs)) (f (get_or xs k x) ∷ []))
