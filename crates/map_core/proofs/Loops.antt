-- Steps of loops over items that are numbered, and over items of which some are taken.
use Rattle.std.proofs.Common.{◌≡◌, ◌∙◌, ℕ, ◌+◌, ◌<◌, List, [], ◌∷◌, ◌++◌, Option, length, map, take, get_or, ap, sym, arith, append_assoc}
use Rattle.std.specs.Prelude.{option_to_list}
use Rattle.std.specs.Borrow.{Bor}
use Rattle.std.specs.List.{flat_map, filter_map, enumerate_from}
use Rattle.std.proofs.Math.Nat.{add-zero}
use Rattle.std.proofs.lemmas.List.{append-nil, map-append, take_more, length-take-le, length-map}
use Rattle.std.proofs.lemmas.List.Elements.{filter_map-append}
use Rattle.link_fix.proofs.PagedFixes.{one_option}

-- What the last of some numbered items gives comes last.
numbered-last : {X Y : Type 0} (text : ℕ × X → List Y) (b : ℕ) (xs : List X) (x : X)
    → flat_map text (enumerate_from b (xs ++ x ∷ [])) ≡ flat_map text (enumerate_from b xs) ++ text (b + length xs, x)
numbered-last {X} text b [] x = append-nil (text (b, x)) ∙ ap (λ n. text (n, x)) (sym (add-zero b))
numbered-last {X} {Y} text b (y ∷ xs) x =
    let one : b + 1 + length xs ≡ b + length (y ∷ xs) = omega arith in
    ap (λ (t : List Y). text (b, y) ++ t) (numbered-last text (b + 1) xs x ∙ ap (λ n. flat_map text (enumerate_from (b + 1) xs) ++ text (n, x)) one)
    ∙ sym (append_assoc (text (b, y)) (flat_map text (enumerate_from (b + 1) xs)) (text (b + length (y ∷ xs), x)))

pushed-after : {X Y : Type 0} (text : ℕ × X → List Y) (b n : ℕ) (ys : List X) (y : X) (start old new : List Y) → n ≡ b + length ys
    → old ≡ start ++ flat_map text (enumerate_from b ys) → new ≡ old ++ text (n, y) → new ≡ start ++ flat_map text (enumerate_from b (ys ++ y ∷ []))
pushed-after {X} {Y} text b n ys y start old new at was made =
    made ∙ ap (λ (t : List Y). t ++ text (n, y)) was
    ∙ append_assoc start (flat_map text (enumerate_from b ys)) (text (n, y))
    ∙ ap (λ (k : ℕ). start ++ (flat_map text (enumerate_from b ys) ++ text (k, y))) at
    ∙ ap (λ (t : List Y). start ++ t) (sym (numbered-last text b ys y))

up-to : {X : Type 0} (xs : List X) (i : ℕ) (x : X) → i < length xs → x ≡ get_or xs i x → take i xs ++ x ∷ [] ≡ take (i + 1) xs
up-to {X} xs i x h is = ap (λ (y : X). take i xs ++ y ∷ []) is ∙ sym (take_more xs i x h)

-- A loop's step: the item at i, by its number, after those before it.
pub numbered-pushed : {X Y : Type 0} (text : ℕ × X → List Y) (b n : ℕ) (xs : List X) (i : ℕ) (x : X) (start old new : List Y) → i < length xs → x ≡ get_or xs i x
    → n ≡ i + b → old ≡ start ++ flat_map text (enumerate_from b (take i xs)) → new ≡ old ++ text (n, x)
    → new ≡ start ++ flat_map text (enumerate_from b (take (i + 1) xs))
numbered-pushed {X} {Y} text b n xs i x start old new h is number was made =
    let long = length-take-le i xs (omega (arith, h)) in
    pushed-after text b n (take i xs) x start old new (omega (arith, number, long, h)) was made
    ∙ ap (λ (ys : List X). start ++ flat_map text (enumerate_from b ys)) (up-to xs i x h is)

-- The same over items that are lent.
pub lent-pushed : {X Y : Type 0} (text : ℕ × X → List Y) (b n : ℕ) (xs : List (Bor X)) (i : ℕ) (x : Bor X) (start old new : List Y) → i < length xs
    → x ≡ get_or xs i x → n ≡ i + b → old ≡ start ++ flat_map text (enumerate_from b (map (λ y. y.now) (take i xs))) → new ≡ old ++ text (n, x.now)
    → new ≡ start ++ flat_map text (enumerate_from b (map (λ y. y.now) (take (i + 1) xs)))
lent-pushed {X} {Y} text b n xs i x start old new h is number was made =
    let long = length-map (take i xs) (λ (y : Bor X). y.now) ∙ length-take-le i xs (omega (arith, h)) in
    pushed-after text b n (map (λ y. y.now) (take i xs)) x.now start old new (omega (arith, number, long, h)) was made
    ∙ ap (λ (ys : List X). start ++ flat_map text (enumerate_from b ys)) (sym (map-append (λ (y : Bor X). y.now) (take i xs) (x ∷ [])) ∙ ap (map (λ (y : Bor X). y.now)) (up-to xs i x h is))

-- A loop's step: what is taken of the item at i.
pub taken-pushed : {X Y : Type 0} (f : X → Option Y) (xs : List X) (i : ℕ) (x : X) (o : Option Y) (start old new : List Y) → i < length xs → x ≡ get_or xs i x
    → o ≡ f x → old ≡ start ++ filter_map f (take i xs) → new ≡ old ++ option_to_list o → new ≡ start ++ filter_map f (take (i + 1) xs)
taken-pushed {X} {Y} f xs i x o start old new h is gives was made =
    made ∙ ap (λ (t : List Y). t ++ option_to_list o) was
    ∙ append_assoc start (filter_map f (take i xs)) (option_to_list o)
    ∙ ap (λ (t : Option Y). start ++ (filter_map f (take i xs) ++ option_to_list t)) gives
    ∙ ap (λ (t : List Y). start ++ (filter_map f (take i xs) ++ t)) (sym (one_option (f x)))
    ∙ ap (λ (t : List Y). start ++ t) (sym (filter_map-append f (take i xs) (x ∷ [])))
    ∙ ap (λ (ys : List X). start ++ filter_map f ys) (up-to xs i x h is)
