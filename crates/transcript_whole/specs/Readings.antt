-- What a reader has taken of a text, line by line.
use Rattle.std.specs.Prelude.{◌≡◌, ℕ, ◌+◌, ◌<◌, ◌^◌, List, [], ◌∷◌, ◌++◌, length, flat_map, count_by, Option, Some, None}
use Rattle.std.specs.List.{AllByRecursion}
use Rattle.load_model.specs.Modules.{Library}
use Rattle.check_model.specs.declared.kinds.CheckFault.{CheckFault}
use Rattle.check_model.specs.declared.kinds.CheckKind.TheVariants as kinds
use Rattle.session_model.specs.Kept.{AreLines}
use Rattle.check_model.specs.TextFault.{is_line_end, TextFault}
use Rattle.transcript_lines.specs.declared.lines.TranscriptLine.{TranscriptLine}
use Rattle.transcript_lines.specs.Lines.{told_line, IsLineOf}
use Rattle.transcript_lines.specs.Following.{Start, End, place_after}
use Rattle.transcript_whole.specs.declared.reading.Reading.{Reading}
use Rattle.transcript_whole.specs.Drafts.{nothing_read, after_lines}
use Rattle.transcript_whole.specs.Places.{place_at, AreNamed, IsEmptyAtStart}

-- These lines follow each other, and a reader has them.
pub record IsReadingOf (ls : List TranscriptLine) (r : Reading) : Type 0 where
  pub named : List ℕ
  pub place : place_after Start ls ≡ Some (place_at r.at (length r.draft.history) named)
  pub are_named : AreNamed named r.draft.history
  pub empty : IsEmptyAtStart r.at r.draft.history
  pub draft : r.draft ≡ after_lines nothing_read ls

-- A reader takes a line, or the line may not stand after those that it has.
abbrev pub TakesLine : Reading → TranscriptLine → Option Reading → Type 0
TakesLine old l (Some new) = (ls : List TranscriptLine) → IsReadingOf ls old → IsReadingOf (ls ++ l ∷ []) new
TakesLine old l None = (ls : List TranscriptLine) → IsReadingOf ls old → place_after Start (ls ++ l ∷ []) ≡ None

-- bytes are the text of this line, with its end
pub record IsTextOf (lib : Library) (l : TranscriptLine) (line : List ℕ) : Type 0 where
  pub range : IsLineOf lib l
  pub text : line ++ 0x0A ∷ [] ≡ told_line lib l

-- The same of bytes without their line's end: what may stand there is no line with this text.
abbrev pub TakesText : Library → Reading → List ℕ → Option Reading → Type 0
TakesText lib old line (Some new) = (l : TranscriptLine) × IsTextOf lib l line × TakesLine old l (Some new)
TakesText lib old line None = (l : TranscriptLine) → IsTextOf lib l line → TakesLine old l None

-- Lines in range, whose text is that of the first so many lines of bytes; these are left after them.
pub record AreFirst (lib : Library) (bytes left : List ℕ) (n : ℕ) (ls : List TranscriptLine) : Type 0 where
  pub all : bytes ≡ flat_map (told_line lib) ls ++ left
  pub whole : AreLines (flat_map (told_line lib) ls)
  pub count : count_by is_line_end (flat_map (told_line lib) ls) ≡ n
  pub range : AllByRecursion (IsLineOf lib) ls
  pub many : length ls ≡ n

-- A reader has the first lines of bytes, as many as stand in front of this one.
pub record SoFar (lib : Library) (bytes left : List ℕ) (number : ℕ) (r : Reading) : Type 0 where
  pub lines : List TranscriptLine
  pub count : ℕ
  pub number_is : number ≡ count + 1
  pub first : AreFirst lib bytes left count lines
  pub reading : IsReadingOf lines r

-- A reader has the lines of bytes from the first to the last.
pub record AreAll (lib : Library) (bytes : List ℕ) (r : Reading) : Type 0 where
  pub lines : List TranscriptLine
  pub all : bytes ≡ flat_map (told_line lib) lines
  pub range : AllByRecursion (IsLineOf lib) lines
  pub few : length lines < 2 ^ 64
  pub whole : place_after Start lines ≡ Some End
  pub reading : IsReadingOf lines r

-- The line is the first with which no text begins.
pub record IsTextFault (lib : Library) (bytes : List ℕ) (fault : CheckFault) : Type 0 where
  pub kind : fault.kind ≡ kinds.Text
  pub line : TextFault lib bytes fault.line
