-- Items of lists by their places.
use Rattle.std.specs.Prelude.{◌≡◌, ℕ, zero, suc, ◌<◌, List, [], ◌∷◌, ◌++◌, Some, map, length, get_or, slice_get, refl}
use Rattle.std.proofs.Common.{ap, sym, ◌∙◌, arith}
use Rattle.std.proofs.lemmas.List.{get_or-map}
use Rattle.std.proofs.lemmas.Option.{slice_get_within}

pub mapped-get : {X Y : Type 0} (f : X → Y) (xs : List X) (k : ℕ) (x : X) (d : Y) → slice_get xs k ≡ Some x → get_or (map f xs) k d ≡ f x
mapped-get f [] k x d e = absurd (cc)
mapped-get f (y ∷ ys) zero x d e =
    let same : y ≡ x = cc in ap f same
mapped-get f (y ∷ ys) (suc k) x d e = mapped-get f ys k x d e

pub get-after : {X : Type 0} (xs ys : List X) (x : X) → slice_get (xs ++ x ∷ ys) (length xs) ≡ Some x
get-after [] ys x = refl
get-after (z ∷ xs) ys x = get-after xs ys x

-- Where these numbers give these items, what the numbers give is what the items give.
pub pointwise : {X Y : Type 0} (f : ℕ → Y) (g : X → Y) (xs : List X) → ((k : ℕ) (x : X) → slice_get xs k ≡ Some x → f k ≡ g x) → (order : List ℕ) (items : List X) → map (slice_get xs) order ≡ map (λ x. Some x) items → map f order ≡ map g items
pointwise f g xs each [] [] e = refl
pointwise f g xs each [] (x ∷ items) e = absurd (cc)
pointwise f g xs each (k ∷ order) [] e = absurd (cc)
pointwise {X} {Y} f g xs each (k ∷ order) (x ∷ items) e =
    let first : slice_get xs k ≡ Some x = cc in
    let rest : map (slice_get xs) order ≡ map (λ (y : X). Some y) items = cc in
    ap (λ (y : Y). y ∷ map f order) (each k x first) ∙ ap (λ (t : List Y). g x ∷ t) (pointwise f g xs each order items rest)

-- The numbers are places of the list.
pub each-below : {X : Type 0} (xs : List X) (order : List ℕ) (items : List X) → map (slice_get xs) order ≡ map (λ x. Some x) items → (i d : ℕ) → i < length order → get_or order i d < length xs
each-below xs [] items e i d lt = absurd (omega (arith, lt))
each-below xs (k ∷ order) [] e i d lt = absurd (cc)
each-below xs (k ∷ order) (x ∷ items) e zero d lt =
    let first : slice_get xs k ≡ Some x = cc in slice_get_within xs k x first
each-below {X} xs (k ∷ order) (x ∷ items) e (suc i) d lt =
    let rest : map (slice_get xs) order ≡ map (λ (y : X). Some y) items = cc in
    each-below xs order items rest i d (omega (arith, lt))

pub shown-at : {X Y : Type 0} (f : X → Y) (xs : List X) (i : ℕ) (x : X) → i < length xs → x ≡ get_or xs i x → f x ≡ get_or (map f xs) i (f x)
shown-at f xs i x lt is = ap f is ∙ sym (get_or-map f xs i x (f x) lt)
