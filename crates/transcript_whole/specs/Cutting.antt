-- The first line of bytes.
use Rattle.std.specs.Prelude.{◌≡◌, ℕ, List, ◌∷◌, ◌++◌, count_by}
use Rattle.check_model.specs.TextFault.{is_line_end}

-- no line ends there
abbrev pub HasNoEnd : List ℕ → Type 0
HasNoEnd bytes = count_by is_line_end bytes ≡ 0

-- the first line without its end, and what stands after it
pub record IsFirstLine (bytes line after : List ℕ) : Type 0 where
  pub all : bytes ≡ line ++ 0x0A ∷ after
  pub inside : HasNoEnd line
