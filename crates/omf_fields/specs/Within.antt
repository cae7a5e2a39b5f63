-- Recursions that take a turn at each state, where the states that follow are shorter: once for all readings
-- that go on up to an end.
use Rattle.std.specs.Prelude.{◌≡◌, ℕ, zero, suc, ◌<◌}

-- So many turns at most. A state that comes after them has a value of its own.
unfoldable pub within : {S R : Type 0} → ((S → R) → S → R) → (S → R) → ℕ → S → R
within turn spent zero s = spent s
within turn spent (suc most) s = turn (within turn spent most) s

-- As many turns as a state is long.
unfoldable pub through : {S R : Type 0} → (S → ℕ) → ((S → R) → S → R) → (S → R) → S → R
through size turn spent s = within turn spent (size s) s

-- At good states a turn asks for shorter good states alone.
abbrev pub Shortens : {S R : Type 0} → (S → Type 0) → (S → ℕ) → ((S → R) → S → R) → Type 0
Shortens {S} {R} Good size turn = (f g : S → R) (s : S) → Good s → ((t : S) → Good t → size t < size s → f t ≡ g t) → turn f s ≡ turn g s

-- Where nothing is left, a turn ends with the value of turns that are spent.
abbrev pub EndsSo : {S R : Type 0} → (S → ℕ) → ((S → R) → S → R) → (S → R) → Type 0
EndsSo {S} {R} size turn spent = (f : S → R) (s : S) → size s ≡ 0 → turn f s ≡ spent s
