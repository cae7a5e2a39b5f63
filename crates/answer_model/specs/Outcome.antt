-- What a command comes to when its files are read: what it says, and the file that it saves.
use Rattle.std.specs.Prelude.{ℕ, List, Option, Some, None}
use Rattle.answer_model.specs.FileLine.{file_line}
use Rattle.answer_model.specs.declared.said.Said.{Said}

-- A file by its name and its bytes.
pub record Saved : Type 0 where
  pub name : List ℕ
  pub bytes : List ℕ

pub record Outcome : Type 0 where
  pub said : Said
  pub saved : Option Saved

-- Something is said, and nothing is saved.
abbrev pub says_only : Said → Outcome
says_only said = record { said = said; saved = None }

-- Text alone.
abbrev pub shown : List ℕ → Outcome
shown text = says_only (record { status = 0; text = text })

-- A refusal under a name: its line, and nothing is saved.
abbrev pub refused : List ℕ → List ℕ → Outcome
refused name text = says_only (record { status = 1; text = file_line name text })

-- A file is saved, and text is put.
abbrev pub kept : List ℕ → List ℕ → List ℕ → Outcome
kept name bytes text = record { said = record { status = 0; text = text }; saved = Some (record { name = name; bytes = bytes }) }

abbrev pub refused_or : List ℕ → Option (List ℕ) → Outcome → Outcome
refused_or name (Some text) outcome = refused name text
refused_or name None outcome = outcome
