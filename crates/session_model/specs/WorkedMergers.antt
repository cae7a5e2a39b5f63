-- Worked values: runs that are a merge, and those that differ from them in one thing and are none.
use Rattle.std.specs.Prelude.{ℕ, List, [], ◌∷◌, ◌++◌, codes}
use Rattle.load_model.specs.declared.commands.Command.{Command}
use Rattle.load_model.specs.declared.commands.Command.TheVariants as commands
use Rattle.load_model.specs.declared.commands.Reply.TheVariants as replies
use Rattle.load_model.specs.declared.deeds.How.TheVariants as ways
use Rattle.load_model.specs.declared.deeds.Deed.TheVariants.{Enter, Exit, Fault, Write, Shared}
use Rattle.load_model.specs.declared.deeds.Entry.{Entry}
use Rattle.load_model.specs.Modules.{Library}
use Rattle.load_model.specs.Memory.{page}
use Rattle.load_model.specs.Samples.{zeros, code, own_data, shared_data, object, library, fresh, place}
use Rattle.session_model.specs.declared.sessions.Line.{Line}
use Rattle.session_model.specs.declared.sessions.Script.{Script}
use Rattle.session_model.specs.declared.sessions.ScriptLines.{ScriptLines}
use Rattle.session_model.specs.Merging.{Merge}
use Rattle.session_model.specs.WorkedRuns.{entry_of, line_at}

-- ---- two libraries

-- K has two code objects, of which the first has two pages, then own data and shared data; L has one code object
abbrev both : Library
both =
    library (codes "K") (object code 0x2000 0x10000000 ∷ object code 16 0x10010000 ∷ object own_data 16 0x10020000 ∷ object shared_data 16 0x10030000 ∷ [])
    ∷ library (codes "L") (object code 16 0x10040000 ∷ []) ∷ []

abbrev load_K : Command
load_K = commands.Load (codes "K")

abbrev load_L : Command
load_L = commands.Load (codes "L")

-- both libraries, loaded by the first process: residences 1 and 2
abbrev loaded : List Entry
loaded =
    entry_of 1 (Enter ways.Load 0 (fresh 1 0 (0x10000000 ∷ 0x10010000 ∷ 0x10020000 ∷ 0x10030000 ∷ []) ∷ []) [])
    ∷ entry_of 1 (Enter ways.Load 1 (fresh 2 1 (0x10040000 ∷ []) ∷ []) []) ∷ []

abbrev fault_K : ℕ → ℕ → Entry
fault_K o n = entry_of 1 (Fault 1 0 (page o n))

abbrev fault_L : Entry
fault_L = entry_of 1 (Fault 2 1 (page 1 0))

-- a touch of one byte of a page
abbrev touch_K : ℕ → ℕ → Command
touch_K o offset = commands.Touch (place (codes "K") o offset 1)

abbrev touch_L : Command
touch_L = commands.Touch (place (codes "L") 1 0 1)

abbrev touched_at : ℕ → Command → Line
touched_at front command = line_at front command replies.Fine

-- ---- runs of one process

abbrev one_script : List Command → List Script
one_script script = record { pid = 1; commands = load_K ∷ load_L ∷ script } ∷ []

-- what follows the two loads, with the lines and the script after them
abbrev merges : List Entry → List Line → List Command → Type 0
merges more lines script = Merge both [] zeros (loaded ++ more) (record { pid = 1; lines = lines } ∷ []) (one_script script)

abbrev no_merge : List Entry → List Line → List Command → Type 0
no_merge more lines script = merges more lines script → ⊥

abbrev write_own : Command
write_own = commands.Write (place (codes "K") 3 0 1) (1 ∷ [])

abbrev read_shared : Command
read_shared = commands.Shared (place (codes "K") 4 0 1)

abbrev written : Entry
written = entry_of 1 (Write 1 0 3 0 (1 ∷ []))

abbrev read : Entry
read = entry_of 1 (Shared 1 0 4 0 (0 ∷ []))

pub record WorkedMerges : Type 0 where
  -- a write to an own page and a shared read, after touches; own data has no fault
  pub write : merges (written ∷ []) (touched_at 2 (touch_K 3 0) ∷ []) (touch_K 3 0 ∷ write_own ∷ [])
  pub shared : merges (fault_K 4 0 ∷ read ∷ []) (touched_at 3 (touch_K 4 0) ∷ []) (touch_K 4 0 ∷ read_shared ∷ [])
  -- faults of two pages before the touch of both, and of two residences, each before its touch
  pub pages :
      merges (fault_K 1 0 ∷ fault_K 1 1 ∷ []) (touched_at 4 (commands.Touch (place (codes "K") 1 0xFFF 2)) ∷ [])
      (commands.Touch (place (codes "K") 1 0xFFF 2) ∷ [])
  pub residences : merges (fault_L ∷ fault_K 1 0 ∷ []) (touched_at 3 touch_L ∷ touched_at 4 (touch_K 1 0) ∷ []) (touch_L ∷ touch_K 1 0 ∷ [])

pub record WorkedNoMerges : Type 0 where
  -- a write, and a shared read, of a page that was not touched
  pub write_untouched : no_merge (written ∷ []) [] (write_own ∷ [])
  pub shared_untouched : no_merge (read ∷ []) [] (read_shared ∷ [])
  -- a touch of another object of the residence does not serve
  pub write_beside : no_merge (written ∷ []) (touched_at 2 (touch_K 4 0) ∷ []) (touch_K 4 0 ∷ write_own ∷ [])
  -- Each fault that leads to a touch of another page, of another object, or of another residence: the touch has
  -- its own fault too, and the page of the first one is touched after it.
  pub other_page :
      no_merge (fault_K 1 1 ∷ fault_K 1 0 ∷ []) (touched_at 4 (touch_K 1 0) ∷ touched_at 4 (touch_K 1 0x1000) ∷ []) (touch_K 1 0 ∷ touch_K 1 0x1000 ∷ [])
  pub other_object :
      no_merge (fault_K 2 0 ∷ fault_K 1 0 ∷ []) (touched_at 4 (touch_K 1 0) ∷ touched_at 4 (touch_K 2 0) ∷ []) (touch_K 1 0 ∷ touch_K 2 0 ∷ [])
  pub other_residence :
      no_merge (fault_L ∷ fault_K 1 0 ∷ []) (touched_at 4 (touch_K 1 0) ∷ touched_at 4 touch_L ∷ []) (touch_K 1 0 ∷ touch_L ∷ [])
  -- a fault of a page that the process has touched before
  pub touched_before :
      no_merge (fault_K 1 0 ∷ fault_K 1 0 ∷ []) (touched_at 3 (touch_K 1 0) ∷ touched_at 4 (touch_K 1 0) ∷ []) (touch_K 1 0 ∷ touch_K 1 0 ∷ [])
  -- a fault before a command that is no touch
  pub no_touch : no_merge (fault_K 4 0 ∷ read ∷ []) (touched_at 4 (touch_K 4 0) ∷ []) (read_shared ∷ touch_K 4 0 ∷ [])
  -- a touch of two pages of which one had its fault
  pub half_faulted :
      no_merge (fault_K 1 0 ∷ []) (touched_at 3 (commands.Touch (place (codes "K") 1 0xFFF 2)) ∷ []) (commands.Touch (place (codes "K") 1 0xFFF 2) ∷ [])
  -- the fault of a page serves no other, of another object or residence
  pub fault_of_object : no_merge (fault_K 1 0 ∷ []) (touched_at 3 (touch_K 1 0) ∷ touched_at 3 (touch_K 2 0) ∷ []) (touch_K 1 0 ∷ touch_K 2 0 ∷ [])
  pub fault_of_residence : no_merge (fault_K 1 0 ∷ []) (touched_at 3 (touch_K 1 0) ∷ touched_at 3 touch_L ∷ []) (touch_K 1 0 ∷ touch_L ∷ [])

-- ---- processes

-- exits of these processes, the first first, with lists of lines of processes
abbrev exits : List ℕ → List Entry
exits [] = []
exits (pid ∷ others) = entry_of pid (Exit [] []) ∷ exits others

abbrev no_lines : ℕ → ScriptLines
no_lines pid = record { pid = pid; lines = [] }

abbrev exiting : ℕ → Script
exiting pid = record { pid = pid; commands = commands.Exit ∷ [] }

abbrev ends : List ℕ → List ScriptLines → List Script → Type 0
ends pids lines scripts = Merge both [] zeros (exits pids) lines scripts

pub record WorkedProcesses : Type 0 where
  pub one : ends (1 ∷ []) (no_lines 7 ∷ []) (exiting 7 ∷ [])
  pub two : ends (2 ∷ 1 ∷ []) (no_lines 7 ∷ no_lines 3 ∷ []) (exiting 7 ∷ exiting 3 ∷ [])
  -- lists of lines of another process, in another order, one too few and one too many
  pub other_lines : ends (1 ∷ []) (no_lines 8 ∷ []) (exiting 7 ∷ []) → ⊥
  pub lines_swapped : ends (2 ∷ 1 ∷ []) (no_lines 3 ∷ no_lines 7 ∷ []) (exiting 7 ∷ exiting 3 ∷ []) → ⊥
  pub no_list : ends (1 ∷ []) [] (exiting 7 ∷ []) → ⊥
  pub more_lists : ends (1 ∷ []) (no_lines 7 ∷ no_lines 3 ∷ []) (exiting 7 ∷ []) → ⊥
  -- entries of a process without a script
  pub process_2 : ends (1 ∷ 2 ∷ []) (no_lines 7 ∷ []) (exiting 7 ∷ []) → ⊥
  pub process_0 : ends (0 ∷ 1 ∷ []) (no_lines 7 ∷ []) (exiting 7 ∷ []) → ⊥
  pub no_script : ends (1 ∷ []) [] [] → ⊥
