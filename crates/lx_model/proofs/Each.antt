-- What holds of each item of a list, by recursion, through the words that the definitions use.
use Rattle.std.proofs.Common.{◌≡◌, ℕ, zero, suc, ◌+◌, ◌<◌, ◌≤◌, Bool, true, false, cond, List, [], ◌∷◌, map, Option, None, refl, arith}
use Rattle.std.specs.Prelude.{filter}
use Rattle.std.specs.List.{flat_map, range_with_len, AllByRecursion as Each}
use Rattle.lx_types.proofs.Lists.{all_joined}
use Rattle.lx_model.specs.Reading.{first}
use Rattle.lx_model.proofs.Firsts.{first_cons_none}

pub each_flat_map : {A X : Type 0} (P : X → Type 0) (f : A → List X) (xs : List A) → Each (λ a. Each P (f a)) xs → Each P (flat_map f xs)
each_flat_map P f [] h = tt
each_flat_map P f (x ∷ xs) h = all_joined P (f x) (flat_map f xs) h.0 (each_flat_map P f xs h.1)

pub each_map : {A X : Type 0} (P : X → Type 0) (f : A → X) (xs : List A) → Each (λ a. P (f a)) xs → Each P (map f xs)
each_map P f [] h = tt
each_map P f (x ∷ xs) h = (h.0, each_map P f xs h.1)

pub each_more : {X : Type 0} (P Q : X → Type 0) (xs : List X) → ((x : X) → P x → Q x) → Each P xs → Each Q xs
each_more P Q [] f h = tt
each_more P Q (x ∷ xs) f h = (f x h.0, each_more P Q xs f h.1)

each_filter_by : {X : Type 0} (P : X → Type 0) (p : X → Bool) (x : X) (rest : List X) (b : Bool) → p x ≡ b → P x → Each (λ y. P y × (p y ≡ true)) rest → Each (λ y. P y × (p y ≡ true)) (cond b (x ∷ rest) rest)
each_filter_by P p x rest true e h others = ((h, e), others)
each_filter_by P p x rest false e h others = others

-- a filter keeps items that pass
pub each_filter : {X : Type 0} (P : X → Type 0) (p : X → Bool) (xs : List X) → Each P xs → Each (λ y. P y × (p y ≡ true)) (filter p xs)
each_filter P p [] h = tt
each_filter P p (x ∷ xs) h = each_filter_by P p x (filter p xs) (p x) refl h.0 (each_filter P p xs h.1)

pub each_first : {X A : Type 0} (f : X → Option A) (xs : List X) → first (map f xs) ≡ None → Each (λ x. f x ≡ None) xs
each_first f [] e = tt
each_first f (x ∷ xs) e = let parts = first_cons_none (f x) (map f xs) e in (parts.0, each_first f xs parts.1)

pub each_in_range : (P : ℕ → Type 0) (a n : ℕ) → ((k : ℕ) → a ≤ k → k < a + n → P k) → Each P (range_with_len a n)
each_in_range P a zero h = tt
each_in_range P a (suc n) h = (h a (omega arith) (omega arith), each_in_range P (a + 1) n (λ k low high. h k (omega arith) (omega arith)))
