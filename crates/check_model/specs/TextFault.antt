-- The first line of a text with which no text in the form of a transcript begins, whatever the session.
use Rattle.std.specs.Prelude.{◌≡◌, ℕ, ◌-◌, ◌≤◌, ◌==◌, Bool, List, ◌++◌, count_by}
use Rattle.load_model.specs.Modules.{Library}
use Rattle.session_model.specs.Kept.{AreLines}
use Rattle.check_model.specs.Told.{Told, told_text, IsTold}

abbrev pub is_line_end : ℕ → Bool
is_line_end b = b == 0x0A

-- the first n lines of bytes, each with its end
pub record HasLines (bytes : List ℕ) (n : ℕ) (lines : List ℕ) : Type 0 where
  pub rest : List ℕ
  pub all : bytes ≡ lines ++ rest
  pub whole : AreLines lines
  pub count : count_by is_line_end lines ≡ n

-- A text of what can be told over the library begins with the first n lines of bytes.
pub record Begins (lib : Library) (bytes : List ℕ) (n : ℕ) : Type 0 where
  pub lines : List ℕ
  pub first : HasLines bytes n lines
  pub told : Told
  pub is_told : IsTold lib told
  pub after : List ℕ
  pub text : told_text lib told ≡ lines ++ after

-- Line `line`, from 1, is the first with which no text begins: one begins with the lines above it. A last line without its end,
-- and the line after the last where a text goes on, are such lines too.
pub record TextFault (lib : Library) (bytes : List ℕ) (line : ℕ) : Type 0 where
  pub none : (t : Told) → IsTold lib t → bytes ≡ told_text lib t → ⊥
  pub from_one : 1 ≤ line
  pub above : Begins lib bytes (line - 1)
  pub first : Begins lib bytes line → ⊥
