-- More turns than a state is long change nothing.
use Rattle.std.proofs.Common.{◌≡◌, ℕ, zero, suc, ◌≤◌, refl, sym, ◌∙◌, arith}
use Rattle.omf_fields.specs.Within.{within, through, Shortens, EndsSo}

module _ {S R : Type 0} (Good : S → Type 0) (size : S → ℕ) (turn : (S → R) → S → R) (spent : S → R) (shortens : Shortens Good size turn) (ends : EndsSo size turn spent) where
  same : (n m : ℕ) (s : S) → Good s → size s ≤ n → size s ≤ m → within turn spent n s ≡ within turn spent m s
  unfolding within
  same zero zero s good a b = refl
  same zero (suc m) s good a b = sym (ends (within turn spent m) s (omega (arith, a)))
  same (suc n) zero s good a b = ends (within turn spent n) s (omega (arith, b))
  same (suc n) (suc m) s good a b =
      shortens (within turn spent n) (within turn spent m) s good
      (λ t fine less. same n m t fine (omega (arith, a, less)) (omega (arith, b, less)))

  -- more turns change nothing
  pub enough : (most : ℕ) (s : S) → Good s → size s ≤ most → within turn spent most s ≡ through size turn spent s
  unfolding through
  enough most s good long = same most (size s) s good long (omega arith)

  -- nothing is left
  pub none_left : (s : S) → size s ≡ 0 → through size turn spent s ≡ spent s
  unfolding through within
  none_left s none = by (size s) none
    where
      by : (n : ℕ) → n ≡ 0 → within turn spent n s ≡ spent s
      by zero e = refl
      by (suc n) e = absurd (omega (arith, e))

  -- a turn, and then the others
  pub one_turn : (s : S) → Good s → through size turn spent s ≡ turn (through size turn spent) s
  unfolding through within
  one_turn s good = by (size s) refl
    where
      by : (n : ℕ) → size s ≡ n → through size turn spent s ≡ turn (through size turn spent) s
      by zero e = none_left s e ∙ sym (ends (through size turn spent) s e)
      by (suc n) e =
          same (size s) (suc n) s good (omega arith) (omega (arith, e))
          ∙ shortens (within turn spent n) (through size turn spent) s good (λ t fine less. same n (size t) t fine (omega (arith, e, less)) (omega arith))
