-- What is read of a transcript while lines come.
use Rattle.std.specs.Prelude.{ℕ, ◌+◌, ◌==◌, not, List, [], ◌∷◌, ◌++◌, map}
use Rattle.std.specs.List.{prefix_len}
use Rattle.load_model.specs.declared.deeds.Call.{Call}
use Rattle.load_model.specs.declared.deeds.Deed.{Deed}
use Rattle.load_model.specs.declared.deeds.Deed.TheVariants as deeds
use Rattle.load_model.specs.declared.deeds.Entry.{Entry}
use Rattle.load_model.specs.declared.deeds.Fresh.{Fresh}
use Rattle.load_model.specs.declared.deeds.Gone.{Gone}
use Rattle.session_model.specs.declared.sessions.Line.{Line}
use Rattle.session_model.specs.declared.sessions.ScriptLines.{ScriptLines}
use Rattle.check_model.specs.Told.{Told}
use Rattle.transcript_lines.specs.declared.lines.TranscriptLine.{TranscriptLine}
use Rattle.transcript_lines.specs.declared.lines.TranscriptLine.TheVariants as lines
use Rattle.transcript_whole.specs.declared.draft.Draft.{Draft}

abbrev pub nothing_read : Draft
nothing_read = record {
  history = [];
  fresh = [];
  calls = [];
  gone = [];
  steady = [];
  lines = [];
  counts = record { processes = 0; entries = 0; faults = 0 };
}

-- ---- the last entry and the last script are open: lines that belong to them may come

-- what was done, with the lines below it
abbrev pub with_lines : Deed → List Fresh → List Call → List Gone → Deed
with_lines (deeds.Enter how m f c) fresh calls gone = deeds.Enter how m fresh calls
with_lines (deeds.Failed how m by f c g) fresh calls gone = deeds.Failed how m by fresh calls gone
with_lines (deeds.Free m c g) fresh calls gone = deeds.Free m calls gone
with_lines (deeds.Exit c g) fresh calls gone = deeds.Exit calls gone
with_lines deed fresh calls gone = deed

-- entries, of which the last has these lines below it
abbrev pub with_below : List Entry → List Fresh → List Call → List Gone → List Entry
with_below [] fresh calls gone = []
with_below (x ∷ []) fresh calls gone = record { pid = x.pid; deed = with_lines x.deed fresh calls gone } ∷ []
with_below (x ∷ y ∷ h) fresh calls gone = x ∷ with_below (y ∷ h) fresh calls gone

-- scripts, of which the last has these steady lines
abbrev pub with_steady : List ScriptLines → List Line → List ScriptLines
with_steady [] lines = []
with_steady (s ∷ []) lines = record { pid = s.pid; lines = lines } ∷ []
with_steady (s ∷ t ∷ others) lines = s ∷ with_steady (t ∷ others) lines

abbrev pub history_in : Draft → List Entry
history_in d = with_below d.history d.fresh d.calls d.gone

abbrev pub steady_in : Draft → List ScriptLines
steady_in d = with_steady d.steady d.lines

-- ---- one line more, and all lines

abbrev pub with_line : Draft → TranscriptLine → Draft
with_line d lines.History = d
with_line d (lines.Entry number process deed) =
    record d { history = history_in d ++ record { pid = process; deed = deed } ∷ []; fresh = []; calls = []; gone = [] }
with_line d (lines.New fresh) = record d { fresh = d.fresh ++ fresh ∷ [] }
with_line d (lines.Call call) = record d { calls = d.calls ++ call ∷ [] }
with_line d (lines.Gone gone) = record d { gone = d.gone ++ gone ∷ [] }
with_line d (lines.Process pid) = record d { steady = steady_in d ++ record { pid = pid; lines = [] } ∷ []; lines = [] }
with_line d (lines.Steady line) = record d { lines = d.lines ++ line ∷ [] }
with_line d (lines.Summary counts) = record d { counts = counts }

abbrev pub after_lines : Draft → List TranscriptLine → Draft
after_lines d [] = d
after_lines d (l ∷ ls) = after_lines (with_line d l) ls

-- ---- what is told in the end

-- the place of a process among those that have headings, from 1
abbrev pub place_among : List ScriptLines → ℕ → ℕ
place_among steady pid = prefix_len (λ s. not (s.pid == pid)) steady + 1

abbrev pub with_place : List ScriptLines → Entry → Entry
with_place steady x = record { pid = place_among steady x.pid; deed = x.deed }

abbrev pub told_in : Draft → Told
told_in d = record {
  run = record { history = map (with_place (steady_in d)) (history_in d); steady = steady_in d };
  counts = d.counts;
}
