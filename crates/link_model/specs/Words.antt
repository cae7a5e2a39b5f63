-- Words on lists and numbers that the other pages use.
use Rattle.std.specs.Prelude.{ℕ, ◌+◌, ◌-◌, ◌%◌, ◌^◌, Bool, false, List, [], ◌∷◌, ◌++◌, Option, Some, None, if◌then◌else◌}
use Rattle.std.specs.Option.{option_or}
use Rattle.std.specs.List.{list_any}

-- The first item with which an earlier one is in conflict; `earlier` are those before the list.
abbrev pub first_conflict : {X : Type 0} → (X → X → Bool) → List X → List X → Option X
first_conflict conflicts earlier [] = None
first_conflict conflicts earlier (x ∷ xs) =
    if list_any (λ y. conflicts y x) earlier then Some x else first_conflict conflicts (earlier ++ x ∷ []) xs

-- The first that there is.
abbrev pub first_of : {X : Type 0} → List (Option X) → Option X
first_of [] = None
first_of (x ∷ xs) = option_or x (first_of xs)

-- There is a value, and it passes.
abbrev pub option_any : {X : Type 0} → (X → Bool) → Option X → Bool
option_any test None = false
option_any test (Some x) = test x

-- Addresses and offsets are numbers below 2^32.
abbrev pub wrapped : ℕ → ℕ
wrapped n = n % 2 ^ 32

-- `a - b`, wrapped.
abbrev pub difference : ℕ → ℕ → ℕ
difference a b = wrapped (a + (2 ^ 32 - wrapped b))
