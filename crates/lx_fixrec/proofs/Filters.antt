-- Filters of lists whose items all pass, or none.
use Rattle.std.proofs.Common.{◌≡◌, ℕ, zero, suc, Bool, true, false, cond, List, [], ◌∷◌, ◌++◌, take, refl, sym, ap, ◌∙◌}
use Rattle.std.specs.Prelude.{filter}
use Rattle.std.specs.List.{AllByRecursion as Each}
use Rattle.std.proofs.lemmas.List.Elements.{filter-append}

module _ {X : Type 0} (p : X → Bool) where
  pub dropped : (x : X) (xs : List X) → p x ≡ false → filter p (x ∷ xs) ≡ filter p xs
  dropped x xs is = ap (λ (b : Bool). cond b (x ∷ filter p xs) (filter p xs)) is

  pub passed : (x : X) (xs : List X) → p x ≡ true → filter p (x ∷ xs) ≡ x ∷ filter p xs
  passed x xs is = ap (λ (b : Bool). cond b (x ∷ filter p xs) (filter p xs)) is

  pub none_pass : (xs : List X) → Each (λ x. p x ≡ false) xs → filter p xs ≡ []
  none_pass [] each = refl
  none_pass (x ∷ xs) each = dropped x xs each.0 ∙ none_pass xs each.1

  pub all_pass : (xs : List X) → Each (λ x. p x ≡ true) xs → filter p xs ≡ xs
  all_pass [] each = refl
  all_pass (x ∷ xs) each = passed x xs each.0 ∙ ap (λ (ys : List X). x ∷ ys) (all_pass xs each.1)

  pub filter_passes : (xs : List X) → Each (λ x. p x ≡ true) (filter p xs)
  filter_passes [] = tt
  filter_passes (x ∷ xs) = by (p x) refl (filter_passes xs)
    where
      by : (b : Bool) → p x ≡ b → Each (λ y. p y ≡ true) (filter p xs) → Each (λ y. p y ≡ true) (cond b (x ∷ filter p xs) (filter p xs))
      by true is rest = (is, rest)
      by false is rest = rest

  -- an item that does not pass may be left out
  pub without : (before after : List X) (x : X) → p x ≡ false → filter p (before ++ x ∷ after) ≡ filter p (before ++ after)
  without before after x is = filter-append p before (x ∷ after) ∙ ap (λ (ys : List X). filter p before ++ ys) (dropped x after is) ∙ sym (filter-append p before after)

  -- the first item that passes, those before it, and those after it
  pub record Parted (xs : List X) (x : X) (others : List X) : Type 0 where
    pub before : List X
    pub after : List X
    pub parts : xs ≡ before ++ x ∷ after
    pub none : filter p before ≡ []
    pub rest : filter p after ≡ others

  pub parted : (xs : List X) (x : X) (others : List X) → filter p xs ≡ x ∷ others → Parted xs x others
  parted [] x others is = absurd cc
  parted (y ∷ ys) x others is = by (p y) refl is (λ e. parted ys x others e)
    where
      by : (b : Bool) → p y ≡ b → cond b (y ∷ filter p ys) (filter p ys) ≡ x ∷ others → (filter p ys ≡ x ∷ others → Parted ys x others) → Parted (y ∷ ys) x others
      by true at e again =
          let first : y ≡ x = cc in
          let tail : filter p ys ≡ others = cc in
          record { before = []; after = ys; parts = ap (λ (z : X). z ∷ ys) first; none = refl; rest = tail }
      by false at e again =
          let found = again e in
          record { before = y ∷ found.before; after = found.after; parts = ap (λ (zs : List X). y ∷ zs) found.parts; none = dropped y found.before at ∙ found.none; rest = found.rest }

pub each_take : {X : Type 0} (P : X → Type 0) (n : ℕ) (xs : List X) → Each P xs → Each P (take n xs)
each_take P zero xs each = tt
each_take P (suc n) [] each = tt
each_take P (suc n) (x ∷ xs) each = (each.0, each_take P n xs each.1)
