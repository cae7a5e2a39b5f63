-- The offsets of the places at which a number stands; and a fix at each.
use Rattle.std.proofs.Common.{◌≡◌, ℕ, zero, suc, ◌+◌, ◌<◌, ◌≤◌, Bool, false, List, [], ◌∷◌, ◌++◌, length, map, drop, Option, None, Some, refl, sym, ap, ◌∙◌, arith, append_assoc}
use Rattle.std.specs.Prelude.{IsSomeAnd, slice_index, ◌||◌}
use Rattle.std.specs.List.{All, list_any}
use Rattle.std.proofs.lemmas.List.{append-nil}
use Rattle.obj_types.specs.declared.object.Seg.{Seg}

-- a place in a segment
pub each-fits : (places : List ℕ) (start next : ℕ) (o : Option Seg) → next < length places → IsSomeAnd o (λ (s : Seg). All (λ x. start + x ≤ s.len) places) → IsSomeAnd o (λ (s : Seg). start + slice_index places next ≤ s.len)
each-fits places start next None lt h = absurd h
each-fits places start next (Some s) lt h = h next 0 lt

-- what is still to be done
pub rest-first : (xs : List ℕ) (n : ℕ) → n < length xs → drop n xs ≡ slice_index xs n ∷ drop (n + 1) xs
rest-first [] n lt = absurd (omega (arith, lt))
rest-first (x ∷ xs) zero lt = refl
rest-first (x ∷ xs) (suc n) lt =
    let more : suc n + 1 ≡ suc (n + 1) = omega arith in
    rest-first xs n (omega (arith, lt)) ∙ ap (λ (k : ℕ). slice_index xs n ∷ drop k (x ∷ xs)) (sym more)

pub drop-all : (xs : List ℕ) (n : ℕ) → length xs ≤ n → drop n xs ≡ []
drop-all [] zero h = refl
drop-all [] (suc n) h = refl
drop-all (x ∷ xs) zero h = absurd (omega (arith, h))
drop-all (x ∷ xs) (suc n) h = drop-all xs n (omega (arith, h))

-- whether one that is still to be looked at passes a test
pub any-next : (p : ℕ → Bool) (xs : List ℕ) (n : ℕ) → n < length xs → list_any p (drop n xs) ≡ (p (slice_index xs n) || list_any p (drop (n + 1) xs))
any-next p xs n lt = ap (list_any p) (rest-first xs n lt)

pub any-none : (p : ℕ → Bool) (xs : List ℕ) (n : ℕ) → length xs ≤ n → list_any p (drop n xs) ≡ false
any-none p xs n high = ap (list_any p) (drop-all xs n high)

module _ {A : Type 0} (f : ℕ → A) (xs : List ℕ) where
  pub pushed_more : (now new all : List A) (next : ℕ) → now ++ map f (drop next xs) ≡ all → next < length xs → new ≡ now ++ f (slice_index xs next) ∷ [] → new ++ map f (drop (next + 1) xs) ≡ all
  pushed_more now new all next so lt is =
      (λ i. is i ++ map f (drop (next + 1) xs)) ∙ append_assoc now (f (slice_index xs next) ∷ []) (map f (drop (next + 1) xs))
      ∙ ap (λ (ys : List ℕ). now ++ map f ys) (sym (rest-first xs next lt)) ∙ so

  pub pushed_all : (now all : List A) (next : ℕ) → now ++ map f (drop next xs) ≡ all → length xs ≤ next → now ≡ all
  pushed_all now all next so high = sym (append-nil now) ∙ ap (λ (ys : List ℕ). now ++ map f ys) (sym (drop-all xs next high)) ∙ so

  pub any-map : (p : A → Bool) (ys : List ℕ) → list_any p (map f ys) ≡ list_any (λ x. p (f x)) ys
  any-map p [] = refl
  any-map p (y ∷ ys) = ap (λ (b : Bool). p (f y) || b) (any-map p ys)
