-- What is told of a line without its end.
use Rattle.std.specs.Prelude.{◌≡◌, ℕ, List, [], ◌∷◌, ◌++◌, Option, Some, None}
use Rattle.load_model.specs.Modules.{Library}
use Rattle.transcript_lines.specs.declared.lines.TranscriptLine.{TranscriptLine}
use Rattle.transcript_lines.specs.Lines.{told_line, IsLineOf}

-- Bytes without their line's end are a line, or the text of none.
abbrev pub TellsLine : Library → Option TranscriptLine → List ℕ → Type 0
TellsLine lib (Some l) line = IsLineOf lib l × (line ++ 0x0A ∷ [] ≡ told_line lib l)
TellsLine lib None line = (l : TranscriptLine) → IsLineOf lib l → line ++ 0x0A ∷ [] ≡ told_line lib l → ⊥
