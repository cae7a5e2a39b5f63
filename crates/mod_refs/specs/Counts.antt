-- Counts by module, before and after a root more.
use Rattle.std.specs.Prelude.{◌≡◌, ◌<◌, ◌+◌, ℕ, Bool, List, All, AllPairs, length, slice_index, if◌then◌else◌}
use Rattle.load_model.specs.State.{is_among}

abbrev pub one_if : Bool → ℕ
one_if b = if b then 1 else 0

-- Each count is that of before, and one more for a module of the order.
pub record AreCounted (order before after : List ℕ) : Type 0 where
  pub each : length after ≡ length before
  pub counts : (k : ℕ) → k < length before → slice_index after k ≡ slice_index before k + one_if (is_among order k)

-- no two are one
abbrev pub AreApart : List ℕ → Type 0
AreApart ms = AllPairs (λ a b. a ≡ b → ⊥) ms

-- What is attached has a count, and is attached once.
pub record AreAttached (reached attached : List ℕ) : Type 0 where
  pub counted : All (λ k. 0 < slice_index reached k) attached
  pub once : AreApart attached
