-- The places at which what a text tells is judged, in the order in which they are, each with the number of its line.
use Rattle.std.specs.Prelude.{ℕ, ◌+◌, ◌==◌, List, [], ◌∷◌, ◌++◌, length, map, filter, flat_map, Option, Some, None, nat_lt}
use Rattle.load_model.specs.declared.deeds.Deed.{Deed}
use Rattle.load_model.specs.declared.deeds.Deed.TheVariants as deeds
use Rattle.load_model.specs.declared.deeds.Entry.{Entry}
use Rattle.session_model.specs.declared.sessions.Line.{Line}
use Rattle.session_model.specs.declared.sessions.Script.{Script}
use Rattle.session_model.specs.declared.sessions.ScriptLines.{ScriptLines}
use Rattle.session_model.specs.Merging.{Item, entry, line}
use Rattle.session_model.specs.Runs.{Run}

-- ---- how many lines stand in a transcript

abbrev pub deed_height : Deed → ℕ
deed_height (deeds.Enter how m fresh calls) = 1 + length fresh + length calls
deed_height (deeds.Failed how m by fresh calls gone) = 1 + length fresh + length calls + length gone
deed_height (deeds.Free m calls gone) = 1 + length calls + length gone
deed_height (deeds.Exit calls gone) = 1 + length calls + length gone
deed_height deed = 1

-- the line after entries that begin at one
abbrev pub after_entries : ℕ → List Entry → ℕ
after_entries n [] = n
after_entries n (x ∷ h) = after_entries (n + deed_height x.deed) h

-- and after scripts
abbrev pub after_scripts : ℕ → List ScriptLines → ℕ
after_scripts n [] = n
after_scripts n (s ∷ others) = after_scripts (n + 1 + length s.lines) others

-- the line of the first script; `history` is line 1
abbrev pub first_script : Run → ℕ
first_script run = after_entries 2 run.history

abbrev pub last_line : Run → ℕ
last_line run = after_scripts (first_script run) run.steady

-- ---- steady lines and items, with the numbers of their lines

-- a steady line, and how many entries stand in front of the one above it in its process
pub record NumberedLine : Type 0 where
  pub number : ℕ
  pub low : ℕ
  pub line : Line

abbrev pub numbered_lines : ℕ → ℕ → List Line → List NumberedLine
numbered_lines n low [] = []
numbered_lines n low (l ∷ ls) = record { number = n; low = low; line = l } ∷ numbered_lines (n + 1) l.front ls

-- those of each process, which counts from 1
abbrev pub numbered_scripts : ℕ → ℕ → List ScriptLines → List (ℕ × List NumberedLine)
numbered_scripts pid n [] = []
numbered_scripts pid n (s ∷ others) = (pid, numbered_lines (n + 1) 0 s.lines) ∷ numbered_scripts (pid + 1) (n + 1 + length s.lines) others

-- an item of the merge; before an entry no number is the least
pub record Numbered : Type 0 where
  pub number : ℕ
  pub low : ℕ
  pub item : Item

abbrev pub numbered_line : ℕ → NumberedLine → Numbered
numbered_line pid l = record { number = l.number; low = l.low; item = line pid l.line }

abbrev pub numbered_at : ℕ → ℕ × List NumberedLine → List Numbered
numbered_at front s = map (numbered_line s.0) (filter (λ l. l.line.front == front) s.1)

abbrev pub all_numbered_at : List (ℕ × List NumberedLine) → ℕ → List Numbered
all_numbered_at s front = flat_map (numbered_at front) s

-- Entry k, from 1, and those after it, of which the first stands at line n; after each its lines.
abbrev pub numbered_from : List (ℕ × List NumberedLine) → ℕ → ℕ → List Entry → List Numbered
numbered_from s k n [] = []
numbered_from s k n (x ∷ h) =
    record { number = n; low = 0; item = entry x } ∷ all_numbered_at s k ++ numbered_from s (k + 1) (n + deed_height x.deed) h

abbrev pub numbered_merge : List (ℕ × List NumberedLine) → List Entry → List Numbered
numbered_merge s h = all_numbered_at s 0 ++ numbered_from s 1 2 h

-- ---- places

-- what is judged at a place
pub data What : Type 0 where
  -- the number of a script, and that of the session's; none where there is none
  heading : Option ℕ → Option ℕ → What
  -- an item of the merge, with what stands before it and what stands after
  at_item : ℕ → List Item → Item → List Item → What
  -- a steady line after more entries than there are
  beyond : Line → What
  summary : What

pub record Place : Type 0 where
  pub number : ℕ
  pub what : What

abbrev pub first_number : List Script → Option ℕ
first_number [] = None
first_number (script ∷ others) = Some script.pid

abbrev pub later : List Script → List Script
later [] = []
later (script ∷ others) = others

-- the headings, and where there would be one more
abbrev pub headings : ℕ → List ScriptLines → List Script → List Place
headings n [] scripts = record { number = n; what = heading None (first_number scripts) } ∷ []
headings n (s ∷ others) scripts =
    record { number = n; what = heading (Some s.pid) (first_number scripts) } ∷ headings (n + 1 + length s.lines) others (later scripts)

abbrev pub item_places : List Item → List Numbered → List Place
item_places before [] = []
item_places before (x ∷ others) =
    record { number = x.number; what = at_item x.low before x.item (map (λ y. y.item) others) } ∷ item_places (before ++ x.item ∷ []) others

abbrev pub beyond_place : NumberedLine → Place
beyond_place l = record { number = l.number; what = beyond l.line }

abbrev pub lines_beyond : ℕ → ℕ × List NumberedLine → List Place
lines_beyond most s = map beyond_place (filter (λ l. nat_lt most l.line.front) s.1)

abbrev pub places_of : Run → List (ℕ × List NumberedLine) → List Place
places_of run s =
    item_places [] (numbered_merge s run.history) ++ flat_map (lines_beyond (length run.history)) s
    ++ record { number = last_line run; what = summary } ∷ []

-- First the headings; then each entry with the lines after it; then lines that have no entry in front; then the last line.
abbrev pub places : Run → List Script → List Place
places run scripts = headings (first_script run) run.steady scripts ++ places_of run (numbered_scripts 1 (first_script run) run.steady)
