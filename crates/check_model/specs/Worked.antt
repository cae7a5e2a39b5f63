-- Worked values: a run of which nothing is wrong, the lines at which things stand, and one case of each kind.
use Rattle.std.specs.Prelude.{◌≡◌, ℕ, List, [], ◌∷◌, ◌++◌, map}
use Rattle.std.specs.Prelude.{codes}
use Rattle.load_model.specs.declared.commands.Command.{Command}
use Rattle.load_model.specs.declared.commands.Command.TheVariants as commands
use Rattle.load_model.specs.declared.commands.Reply.TheVariants as replies
use Rattle.load_model.specs.declared.commands.Refusal.TheVariants as why
use Rattle.load_model.specs.declared.deeds.How.TheVariants as ways
use Rattle.load_model.specs.declared.deeds.Deed.TheVariants.{Enter, Free, Exit, Fault, Debug}
use Rattle.load_model.specs.declared.deeds.Entry.{Entry}
use Rattle.load_model.specs.Memory.{page}
use Rattle.load_model.specs.Samples.{fresh, gone, place}
use Rattle.session_model.specs.declared.sessions.Line.{Line}
use Rattle.session_model.specs.declared.sessions.Script.{Script}
use Rattle.session_model.specs.declared.sessions.ScriptLines.{ScriptLines}
use Rattle.session_model.specs.Runs.{Run}
use Rattle.session_model.specs.WorkedRuns.{D, bytes_of_D, entry_of, line_at}
use Rattle.session_model.specs.WorkedSessions.{ln, commands_of_D}
use Rattle.check_model.specs.declared.kinds.CheckKind.{CheckKind}
use Rattle.check_model.specs.declared.kinds.CheckKind.TheVariants as kinds
use Rattle.check_model.specs.declared.kinds.Counts.{Counts}
use Rattle.check_model.specs.Told.{Told, counts_of}
use Rattle.check_model.specs.TextFault.{TextFault}
use Rattle.check_model.specs.Places.{places}
use Rattle.check_model.specs.Checks.{Judge, FirstWrong, NothingWrong}

-- ---- sessions over the module D

abbrev scripted : ℕ → List Command → Script
scripted pid asked = record { pid = pid; commands = asked }

abbrev judge : List Script → Judge
judge scripts = record { lib = D; failing = []; contents = bytes_of_D; scripts = scripts }

abbrev of_process : ℕ → List Line → ScriptLines
of_process pid lines = record { pid = pid; lines = lines }

abbrev run : List Entry → List ScriptLines → Run
run h s = record { history = h; steady = s }

abbrev told : List Entry → List ScriptLines → Told
told h s = record { run = run h s; counts = counts_of (run h s) }

-- ---- nothing is wrong

abbrev load_D : Entry
load_D = entry_of 1 (Enter ways.Load 0 (fresh 1 0 (0x10000000 ∷ []) ∷ []) [])

abbrev fault_D : Entry
fault_D = entry_of 1 (Fault 1 0 (page 1 0))

abbrev free_D : Entry
free_D = entry_of 1 (Free 0 [] (gone 1 0 ∷ []))

abbrev pub exit : Entry
exit = entry_of 1 (Exit [] [])

abbrev pub touch_D : Command
touch_D = commands.Touch (place (codes "D") 1 4 4)

abbrev touched : Line
touched = line_at 2 touch_D replies.Fine

abbrev peeked : Line
peeked = line_at 2 (commands.Peek (place (codes "D") 1 0 8)) (replies.Bytes (0 ∷ 0 ∷ 0 ∷ 0 ∷ 0 ∷ 0 ∷ 0 ∷ 0x10 ∷ []))

abbrev told_of_D : Told
told_of_D = told (load_D ∷ fault_D ∷ free_D ∷ exit ∷ []) (of_process 1 (touched ∷ peeked ∷ []) ∷ [])

pub record WorkedRight : Type 0 where
  pub of_D : NothingWrong (judge (scripted 1 commands_of_D ∷ [])) told_of_D
  pub empty : NothingWrong (judge []) (told [] [])

-- Two headings; the load, the fault, the two lines after it, the free, the exit; and the last line: in the text of D, where `new` stands
-- at line 3 and `gone` at line 6.
abbrev numbers : Run → List Script → List ℕ
numbers run scripts = map (λ p. p.number) (places run scripts)

pub record WorkedLines : Type 0 where
  pub of_D : numbers told_of_D.run (scripted 1 commands_of_D ∷ []) ≡ 8 ∷ 11 ∷ 2 ∷ 4 ∷ 9 ∷ 10 ∷ 5 ∷ 7 ∷ 11 ∷ []
  pub empty : numbers (run [] []) [] ≡ 2 ∷ 2 ∷ []
  -- a line without an entry in front stands after all items, whatever process it is of
  pub beyond :
      numbers (run (exit ∷ []) (of_process 1 (line_at 2 touch_D replies.Fine ∷ line_at 0 touch_D replies.Fine ∷ []) ∷ of_process 3 (touched ∷ []) ∷ [])) []
      ≡ 3 ∷ 6 ∷ 8 ∷ 5 ∷ 2 ∷ 4 ∷ 7 ∷ 8 ∷ []

-- ---- what is no text

abbrev pub misspelled : List ℕ
misspelled = ln (codes "histery") ++ ln (codes "summary processes 0 entries 0 faults 0")

pub record WorkedTexts : Type 0 where
  -- the first line is none of a transcript
  pub first_line : TextFault D misspelled 1
  -- after the first line more is wanted, and a line without its end is none
  pub more_lines : TextFault D (ln (codes "history")) 2
  pub no_end : TextFault D (ln (codes "history") ++ codes "summary") 2

-- ---- what is wrong

-- one process, whose script has these commands
abbrev wrong_at : List Command → List Entry → List Line → ℕ → CheckKind → Type 0
wrong_at asked h lines number kind = FirstWrong (judge (scripted 1 asked ∷ [])) (told h (of_process 1 lines ∷ [])) number kind

abbrev pub free_asked : Command
free_asked = commands.Free (codes "D")

abbrev pub load_asked : Command
load_asked = commands.Load (codes "D")

abbrev pub break_D : Command
break_D = commands.Debug (place (codes "D") 1 0 1) (0xCC ∷ [])

abbrev not_free : Line
not_free = line_at 0 free_asked (replies.Refused why.NotHeld)

abbrev in_range : Line
in_range = line_at 0 free_asked (replies.Refused why.Range)

abbrev other_counts : Counts
other_counts = record { processes = 1; entries = 1; faults = 0 }

pub record WorkedWrong : Type 0 where
  -- another process, one too few and one too many
  pub other_process : FirstWrong (judge (scripted 1 [] ∷ [])) (told [] (of_process 2 [] ∷ [])) 2 kinds.Scripts
  pub no_process : FirstWrong (judge (scripted 1 [] ∷ [])) (told [] []) 2 kinds.Scripts
  pub more_processes : FirstWrong (judge []) (told [] (of_process 2 [] ∷ [])) 2 kinds.Scripts
  -- a front over the number of all entries, and one that falls
  pub front_over : wrong_at (free_asked ∷ []) [] (line_at 1 free_asked (replies.Refused why.NotHeld) ∷ []) 3 kinds.Front
  pub front_falls : wrong_at (load_asked ∷ touch_D ∷ free_asked ∷ []) (load_D ∷ []) (line_at 1 touch_D replies.Fine ∷ not_free ∷ []) 6 kinds.Front
  -- another command, none, and one that is left
  pub other_command : wrong_at (load_asked ∷ []) (exit ∷ []) [] 2 kinds.Command
  pub no_command : wrong_at [] (exit ∷ []) [] 2 kinds.Command
  pub command_left : wrong_at (free_asked ∷ load_asked ∷ []) [] (not_free ∷ []) 4 kinds.Command
  -- what is not held is not freed, and no process acts after its exit
  pub not_held : wrong_at (free_asked ∷ []) (free_D ∷ []) [] 2 kinds.Refused
  pub ended : wrong_at (commands.Exit ∷ commands.Exit ∷ []) (exit ∷ exit ∷ []) [] 3 kinds.Refused
  -- a serial number that is not the next one
  pub other_serial : wrong_at (load_asked ∷ []) (entry_of 1 (Enter ways.Load 0 (fresh 2 0 (0x10000000 ∷ []) ∷ []) []) ∷ []) [] 2 kinds.Entry
  -- a fault without its touch, and one a second time
  pub no_touch : wrong_at (load_asked ∷ []) (load_D ∷ fault_D ∷ []) [] 4 kinds.Fault
  pub fault_again : wrong_at (load_asked ∷ touch_D ∷ []) (load_D ∷ fault_D ∷ fault_D ∷ []) (line_at 3 touch_D replies.Fine ∷ []) 5 kinds.Fault
  -- a touch of a page that had no fault, and a write to one that was not touched
  pub no_fault : wrong_at (load_asked ∷ touch_D ∷ []) (load_D ∷ []) (line_at 1 touch_D replies.Fine ∷ []) 5 kinds.Touch
  pub not_touched :
      wrong_at (load_asked ∷ break_D ∷ []) (load_D ∷ entry_of 1 (Debug 1 0 1 0 (0xCC ∷ [])) ∷ []) [] 4 kinds.Touch
  -- another refusal, and another number
  pub other_reply : wrong_at (free_asked ∷ []) [] (in_range ∷ []) 3 kinds.Reply
  pub other_count : FirstWrong (judge (scripted 1 [] ∷ [])) (record { run = run [] (of_process 1 [] ∷ []); counts = other_counts }) 3 kinds.Count
