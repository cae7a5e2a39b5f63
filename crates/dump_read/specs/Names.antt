-- The bytes of names, in a word that has their escapes.
use Rattle.std.specs.Prelude.{◌≡◌, ℕ, ◌≤◌, ◌⊎◌, List, [], ◌∷◌, ◌++◌, length}
use Rattle.std.specs.List.{AllByRecursion}
use Rattle.lx_types.specs.Escaped.{escaped_byte, escaped}
use Rattle.dump_model.specs.Bounds.{IsByte}

-- a word begins with what this byte is written as
abbrev pub FrontByte : List ℕ → ℕ → Type 0
FrontByte left b = (rest : List ℕ) × (left ≡ escaped_byte b ++ rest)

-- a word ends within what some byte is written as
abbrev pub EndsWithin : List ℕ → Type 0
EndsWithin left = (b : ℕ) × (c : ℕ) × (rest : List ℕ) × IsByte b × (escaped_byte b ≡ left ++ c ∷ rest)

-- no name has this there, however it goes on
abbrev pub NoFront : List ℕ → Type 0
NoFront left = (b : ℕ) (r s : List ℕ) → IsByte b → left ++ r ≡ escaped_byte b ++ s → ⊥

-- The bytes that a word has, as many as a name has at most, up to what is no byte.
pub record IsPart (word bytes left : List ℕ) : Type 0 where
  pub text : word ≡ escaped bytes ++ left
  pub short : length bytes ≤ 255
  pub all : AllByRecursion IsByte bytes
  pub stops : (left ≡ []) ⊎ ((length bytes ≡ 255) ⊎ ((b : ℕ) → IsByte b → FrontByte left b → ⊥))
