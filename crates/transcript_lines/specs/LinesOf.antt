-- The lines of a whole transcript, in turn.
use Rattle.std.specs.Prelude.{◌≡◌, ℕ, zero, suc, List, [], ◌∷◌, ◌++◌, map, flat_map, slice_index}
use Rattle.std.specs.List.{AllByRecursion, enumerate_from}
use Rattle.load_model.specs.declared.deeds.Deed.{Deed}
use Rattle.load_model.specs.declared.deeds.Deed.TheVariants as deeds
use Rattle.load_model.specs.declared.deeds.Entry.{Entry}
use Rattle.load_model.specs.Modules.{Library}
use Rattle.session_model.specs.declared.sessions.ScriptLines.{ScriptLines}
use Rattle.session_model.specs.Merging.{numbers_of}
use Rattle.check_model.specs.Told.{Told, told_text, IsTold}
use Rattle.transcript_lines.specs.declared.lines.TranscriptLine.{TranscriptLine}
use Rattle.transcript_lines.specs.declared.lines.TranscriptLine.TheVariants as lines
use Rattle.transcript_lines.specs.Lines.{told_line, IsLineOf}

-- what was done, without the lines below it, and these lines
abbrev pub bare : Deed → Deed
bare (deeds.Enter how m fresh calls) = deeds.Enter how m [] []
bare (deeds.Failed how m by fresh calls gone) = deeds.Failed how m by [] [] []
bare (deeds.Free m calls gone) = deeds.Free m [] []
bare (deeds.Exit calls gone) = deeds.Exit [] []
bare deed = deed

abbrev pub lines_below : Deed → List TranscriptLine
lines_below (deeds.Enter how m fresh calls) = map lines.New fresh ++ map lines.Call calls
lines_below (deeds.Failed how m by fresh calls gone) = map lines.New fresh ++ (map lines.Call calls ++ map lines.Gone gone)
lines_below (deeds.Free m calls gone) = map lines.Call calls ++ map lines.Gone gone
lines_below (deeds.Exit calls gone) = map lines.Call calls ++ map lines.Gone gone
lines_below deed = []

-- the number of a process's script, where processes count from 1
abbrev pub script_number : List ℕ → ℕ → ℕ
script_number numbers zero = 0
script_number numbers (suc k) = slice_index numbers k

abbrev pub entry_lines : List ℕ → ℕ × Entry → List TranscriptLine
entry_lines numbers x = lines.Entry x.0 (script_number numbers x.1.pid) (bare x.1.deed) ∷ lines_below x.1.deed

abbrev pub script_lines : ScriptLines → List TranscriptLine
script_lines s = lines.Process s.pid ∷ map lines.Steady s.lines

unfoldable pub lines_of : Told → List TranscriptLine
lines_of t =
    lines.History ∷ (flat_map (entry_lines (numbers_of t.run.steady)) (enumerate_from 1 t.run.history)
    ++ (flat_map script_lines t.run.steady ++ lines.Summary t.counts ∷ []))

-- The text of what is told is its lines in turn, and each is a line.
pub record TextsAreLines : Type 0 where
  pub text : (lib : Library) (t : Told) → told_text lib t ≡ flat_map (told_line lib) (lines_of t)
  pub range : (lib : Library) (t : Told) → IsTold lib t → AllByRecursion (IsLineOf lib) (lines_of t)
