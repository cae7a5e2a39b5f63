-- One line of a transcript: what it can tell over a library, and its text.
use Rattle.std.specs.Prelude.{◌≡◌, ℕ, ◌≤◌, List, [], ◌∷◌, ◌++◌, codes, decimal}
use Rattle.lx_types.specs.declared.limits.TheConstants.{MAX_PROCESSES}
use Rattle.load_model.specs.declared.deeds.Deed.{Deed}
use Rattle.load_model.specs.declared.deeds.Deed.TheVariants as deeds
use Rattle.load_model.specs.Modules.{Library}
use Rattle.session_model.specs.Text.{line_of}
use Rattle.session_model.specs.Transcript.{new_line, call_line, gone_line, deed_words, line_text}
use Rattle.check_model.specs.Told.{Has64, IsFresh, IsCall, IsGone, IsDeed, IsLine, AreCounts, count_words}
use Rattle.transcript_lines.specs.declared.lines.TranscriptLine.{TranscriptLine}
use Rattle.transcript_lines.specs.declared.lines.TranscriptLine.TheVariants as lines

-- ---- the text of a line, with its end

abbrev pub process_words : ℕ → List (List ℕ)
process_words pid = codes "process" ∷ decimal pid ∷ []

abbrev pub entry_words : Library → ℕ → ℕ → Deed → List (List ℕ)
entry_words lib number process deed = decimal number ∷ (codes "P" ++ decimal process) ∷ deed_words lib deed

abbrev pub told_line : Library → TranscriptLine → List ℕ
told_line lib lines.History = line_of (codes "history" ∷ [])
told_line lib (lines.Entry number process deed) = line_of (entry_words lib number process deed)
told_line lib (lines.New fresh) = new_line lib fresh
told_line lib (lines.Call call) = call_line lib call
told_line lib (lines.Gone gone) = gone_line lib gone
told_line lib (lines.Process pid) = line_of (process_words pid)
told_line lib (lines.Steady line) = line_text line
told_line lib (lines.Summary counts) = line_of (count_words counts)

-- ---- what it can tell: numbers have their bits, modules are the library's, and processes are those of scripts

abbrev pub IsProcess : ℕ → Type 0
IsProcess pid = (1 ≤ pid) × (pid ≤ MAX_PROCESSES)

-- the lines below an entry are other lines
abbrev pub IsBare : Deed → Type 0
IsBare (deeds.Enter how m fresh calls) = (fresh ≡ []) × (calls ≡ [])
IsBare (deeds.Failed how m by fresh calls gone) = (fresh ≡ []) × (calls ≡ []) × (gone ≡ [])
IsBare (deeds.Free m calls gone) = (calls ≡ []) × (gone ≡ [])
IsBare (deeds.Exit calls gone) = (calls ≡ []) × (gone ≡ [])
IsBare deed = Unit {0}

abbrev pub IsLineOf : Library → TranscriptLine → Type 0
IsLineOf lib lines.History = Unit {0}
IsLineOf lib (lines.Entry number process deed) = Has64 number × IsProcess process × IsDeed lib deed × IsBare deed
IsLineOf lib (lines.New fresh) = IsFresh lib fresh
IsLineOf lib (lines.Call call) = IsCall lib call
IsLineOf lib (lines.Gone gone) = IsGone lib gone
IsLineOf lib (lines.Process pid) = IsProcess pid
IsLineOf lib (lines.Steady line) = IsLine line
IsLineOf lib (lines.Summary counts) = AreCounts counts
