-- The words after the first word of a statement, where there are as many as it has and none is too long. The last
-- one may be long where it has the bytes of a write.
use Rattle.std.specs.Prelude.{ℕ, Bool, ◌&&◌, not, List, [], ◌∷◌, Option, Some, None, option_map, if◌then◌else◌}
use Rattle.session_model.specs.Statements.{is_long}

pub record Two : Type 0 where
  pub first : List ℕ
  pub second : List ℕ

pub record Three : Type 0 where
  pub first : List ℕ
  pub second : List ℕ
  pub third : List ℕ

-- a module, an object, an offset, and what the statement has last
pub record Four : Type 0 where
  pub name : List ℕ
  pub object : List ℕ
  pub offset : List ℕ
  pub last : List ℕ

abbrev pub one_of : Bool → List (List ℕ) → Option (List ℕ)
one_of long [] = None
one_of long (a ∷ []) = if is_long a && not long then None else Some a
one_of long (a ∷ b ∷ ws) = None

abbrev pub two_of : Bool → List (List ℕ) → Option Two
two_of long [] = None
two_of long (a ∷ ws) = if is_long a then None else option_map (λ b. record { first = a; second = b }) (one_of long ws)

abbrev pub three_of : Bool → List (List ℕ) → Option Three
three_of long [] = None
three_of long (a ∷ ws) = if is_long a then None else option_map (λ two. record { first = a; second = two.first; third = two.second }) (two_of long ws)

abbrev pub four_of : Bool → List (List ℕ) → Option Four
four_of long [] = None
four_of long (a ∷ ws) =
    if is_long a then None
    else option_map (λ three. record { name = a; object = three.first; offset = three.second; last = three.third }) (three_of long ws)
