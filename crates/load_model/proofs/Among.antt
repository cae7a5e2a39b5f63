-- Which elements lists have: joined, filtered, turned round and mapped.
use Rattle.std.proofs.Common.{◌≡◌, ℕ, ◌==◌, Bool, true, false, cond, not, ◌&&◌, ◌||◌, List, [], ◌∷◌, ◌++◌, filter, find, reverse, Some, is_some, refl, sym, ◌∙◌, ap}
use Rattle.std.proofs.lemmas.List.{reverse-append}
use Rattle.std.specs.List.{list_any}
use Rattle.std.proofs.lemmas.Bool.{eqb-true}
use Rattle.std.proofs.Math.Bool.{or_assoc}
use Rattle.load_model.specs.State.{is_among}
use Rattle.load_model.proofs.Bools.{or_swap, and_false}

pub any_append : {X : Type 0} (f : X → Bool) (xs ys : List X) → list_any f (xs ++ ys) ≡ list_any f xs || list_any f ys
any_append f [] ys = refl
any_append f (x ∷ xs) ys = ap (λ b. f x || b) (any_append f xs ys) ∙ sym (or_assoc (f x) (list_any f xs) (list_any f ys))

pub any_same : {X : Type 0} (f g : X → Bool) → ((x : X) → f x ≡ g x) → (xs : List X) → list_any f xs ≡ list_any g xs
any_same f g e [] = refl
any_same f g e (x ∷ xs) = ap (λ b. b || list_any f xs) (e x) ∙ ap (λ b. g x || b) (any_same f g e xs)

filter_step : {X : Type 0} (f g : X → Bool) (x : X) (b : Bool) (xs : List X) → list_any f (cond b (x ∷ filter g xs) (filter g xs)) ≡ (b && f x) || list_any f (filter g xs)
filter_step f g x true xs = refl
filter_step f g x false xs = refl

pub any_filter : {X : Type 0} (f g : X → Bool) (xs : List X) → list_any f (filter g xs) ≡ list_any (λ x. g x && f x) xs
any_filter f g [] = refl
any_filter f g (x ∷ xs) = filter_step f g x (g x) xs ∙ ap (λ b. (g x && f x) || b) (any_filter f g xs)

and_or : (a b c : Bool) → (a && c) || (b && c) ≡ (a || b) && c
and_or true true true = refl
and_or true true false = refl
and_or true false true = refl
and_or true false false = refl
and_or false b c = refl

pub any_and : {X : Type 0} (f : X → Bool) (c : Bool) (xs : List X) → list_any (λ x. f x && c) xs ≡ list_any f xs && c
any_and f c [] = refl
any_and f c (x ∷ xs) = ap (λ b. (f x && c) || b) (any_and f c xs) ∙ and_or (f x) (list_any f xs) c

-- a test that depends on a number alone, which is this one
and_at : (g : ℕ → Bool) (n m : ℕ) (b : Bool) → (n == m) ≡ b → g n && b ≡ b && g m
and_at g n m false e = and_false (g n)
and_at g n m true e = let same : n ≡ m = eqb-true n m e in both (g n) (g m) (ap g same)
  where
    both : (a b : Bool) → a ≡ b → a && true ≡ b
    both true b e = e
    both false b e = e

pub any_filter_at : {X : Type 0} (of : X → ℕ) (g : ℕ → Bool) (m : ℕ) (xs : List X) → list_any (λ x. of x == m) (filter (λ x. g (of x)) xs) ≡ list_any (λ x. of x == m) xs && g m
any_filter_at of g m xs =
    any_filter (λ x. of x == m) (λ x. g (of x)) xs
    ∙ any_same (λ x. g (of x) && (of x == m)) (λ x. (of x == m) && g m) (λ x. and_at g (of x) m (of x == m) refl) xs
    ∙ any_and (λ x. of x == m) (g m) xs

pub among_append : (xs ys : List ℕ) (m : ℕ) → is_among (xs ++ ys) m ≡ is_among xs m || is_among ys m
among_append xs ys m = any_append (λ other. other == m) xs ys

pub among_filter : (g : ℕ → Bool) (xs : List ℕ) (m : ℕ) → is_among (filter g xs) m ≡ is_among xs m && g m
among_filter g xs m = any_filter_at (λ x. x) g m xs

pub some_find : {X : Type 0} (f : X → Bool) (xs : List X) → is_some (find f xs) ≡ list_any f xs
some_find f [] = refl
some_find f (x ∷ xs) = step (f x) ∙ ap (λ b. f x || b) (some_find f xs)
  where
    step : (b : Bool) → is_some (cond b (Some x) (find f xs)) ≡ b || is_some (find f xs)
    step true = refl
    step false = refl

or_turned : (a b : Bool) → a || (b || false) ≡ b || a
or_turned true true = refl
or_turned true false = refl
or_turned false true = refl
or_turned false false = refl

pub any_reverse : {X : Type 0} (f : X → Bool) (xs : List X) → list_any f (reverse xs) ≡ list_any f xs
any_reverse f [] = refl
any_reverse f (x ∷ xs) =
    ap (list_any f) (reverse-append (x ∷ []) xs) ∙ any_append f (reverse xs) (x ∷ []) ∙ or_turned (list_any f (reverse xs)) (f x)
    ∙ ap (λ b. f x || b) (any_reverse f xs)

-- ---- one element apart

absorbed : (a b c : Bool) → b ≡ a → b || c ≡ a || (b || c)
absorbed true b c e = cc
absorbed false b c e = refl

member : (f : ℕ → Bool) (k : ℕ) (xs : List ℕ) → is_among xs k ≡ true → list_any f xs ≡ f k || list_any f xs
member f k [] there = cc
member f k (x ∷ xs) there = step (x == k) refl (λ t. member f k xs t) there
  where
    step : (b : Bool) → (x == k) ≡ b → (is_among xs k ≡ true → list_any f xs ≡ f k || list_any f xs) → b || is_among xs k ≡ true →
        f x || list_any f xs ≡ f k || (f x || list_any f xs)
    step true e h t = absorbed (f k) (f x) (list_any f xs) (ap f (eqb-true x k e))
    step false e h t = ap (λ b. f x || b) (h t) ∙ or_swap (f x) (f k) (list_any f xs)

cover_same : (a b c d : Bool) → b ≡ a → a || c ≡ a || d → a || (b || c) ≡ a || d
cover_same true b c d e h = refl
cover_same false true c d e h = cc
cover_same false false c d e h = h

cover_other : (a b c d : Bool) → a || c ≡ a || d → a || (b || c) ≡ a || (b || d)
cover_other true b c d h = refl
cover_other false true c d h = refl
cover_other false false c d h = h

covers : (f : ℕ → Bool) (k : ℕ) (xs : List ℕ) → f k || list_any f xs ≡ f k || list_any (λ q. not (q == k) && f q) xs
covers f k [] = refl
covers f k (x ∷ xs) = step (x == k) refl (covers f k xs)
  where
    step : (b : Bool) → (x == k) ≡ b → f k || list_any f xs ≡ f k || list_any (λ q. not (q == k) && f q) xs →
        f k || (f x || list_any f xs) ≡ f k || ((not b && f x) || list_any (λ q. not (q == k) && f q) xs)
    step true e h = cover_same (f k) (f x) (list_any f xs) (list_any (λ q. not (q == k) && f q) xs) (ap f (eqb-true x k e)) h
    step false e h = cover_other (f k) (f x) (list_any f xs) (list_any (λ q. not (q == k) && f q) xs) h

-- an element that is there, and the others
pub any_split : (f : ℕ → Bool) (k : ℕ) (xs : List ℕ) → is_among xs k ≡ true → list_any f xs ≡ f k || list_any (λ q. not (q == k) && f q) xs
any_split f k xs there = member f k xs there ∙ covers f k xs
