-- Worked values: entries that no history has there, and runs that are no merge.
use Rattle.std.specs.Prelude.{ℕ, List, [], ◌∷◌, ◌++◌, codes}
use Rattle.load_model.specs.declared.commands.Command.{Command}
use Rattle.load_model.specs.declared.commands.Command.TheVariants as commands
use Rattle.load_model.specs.declared.commands.Reply.TheVariants as replies
use Rattle.load_model.specs.declared.deeds.How.TheVariants as ways
use Rattle.load_model.specs.declared.deeds.CallKind.TheVariants.{Init, Term}
use Rattle.load_model.specs.declared.deeds.Call.{Call}
use Rattle.load_model.specs.declared.deeds.Fresh.{Fresh}
use Rattle.load_model.specs.declared.deeds.Gone.{Gone}
use Rattle.load_model.specs.declared.deeds.Deed.{Deed}
use Rattle.load_model.specs.declared.deeds.Deed.TheVariants.{Enter, Failed, Free, Exit, Fault, Write, Debug, Shared}
use Rattle.load_model.specs.declared.deeds.Entry.{Entry}
use Rattle.load_model.specs.State.{Failing}
use Rattle.load_model.specs.Histories.{Legal}
use Rattle.load_model.specs.Memory.{page}
use Rattle.load_model.specs.Samples.{zeros, fresh, call, gone, place}
use Rattle.load_model.specs.WorkedLoads.{diamond}
use Rattle.load_model.specs.WorkedBytes.{store}
use Rattle.session_model.specs.declared.sessions.Line.{Line}
use Rattle.session_model.specs.declared.sessions.ScriptLines.{ScriptLines}
use Rattle.session_model.specs.Merging.{Merge}
use Rattle.session_model.specs.WorkedRuns.{D, bytes_of_D, entry_of, line_at}
use Rattle.session_model.specs.WorkedDeeds.{B_fails, failed_load, load_new, as_linked}

-- ---- what may not follow

-- an entry of a process after a history of D
abbrev wrong_in_D : List Entry → ℕ → Deed → Type 0
wrong_in_D before pid deed = Legal D [] bytes_of_D (before ++ entry_of pid deed ∷ []) → ⊥

abbrev loaded : List Entry
loaded = load_new ∷ []

abbrev both_loaded : List Entry
both_loaded = load_new ∷ entry_of 2 (Enter ways.Load 0 [] []) ∷ []

pub record WorkedNotAsked : Type 0 where
  -- processes are from 1 to 16, and none acts after its exit
  pub process_0 : wrong_in_D [] 0 (Exit [] [])
  pub process_17 : wrong_in_D [] 17 (Exit [] [])
  pub ended : wrong_in_D (entry_of 1 (Exit [] []) ∷ []) 1 (Exit [] [])
  pub no_module : wrong_in_D [] 1 (Enter ways.Load 1 [] [])
  pub not_program : wrong_in_D [] 1 (Enter ways.Start 0 [] [])
  pub not_held : wrong_in_D loaded 2 (Free 0 [] [])
  -- a fault of another residence, of a page past the end, and of a process that does not reach it
  pub fault_serial : wrong_in_D loaded 1 (Fault 2 0 (page 1 0))
  pub fault_range : wrong_in_D loaded 1 (Fault 1 0 (page 1 1))
  pub fault_object : wrong_in_D loaded 1 (Fault 1 0 (page 0 0))
  pub fault_reach : wrong_in_D loaded 2 (Fault 1 0 (page 1 0))
  pub fault_twice : wrong_in_D (loaded ++ entry_of 1 (Fault 1 0 (page 1 0)) ∷ []) 1 (Fault 1 0 (page 1 0))
  -- code is neither written to nor shared
  pub write_code : wrong_in_D loaded 1 (Write 1 0 1 0 (1 ∷ []))
  pub shared_code : wrong_in_D loaded 1 (Shared 1 0 1 0 (0 ∷ []))
  -- a write to code that passes the end, or by a process that does not reach it
  pub debug_range : wrong_in_D loaded 1 (Debug 1 0 1 7 (1 ∷ 2 ∷ []))
  pub debug_reach : wrong_in_D loaded 2 (Debug 1 0 1 0 (1 ∷ []))
  -- own data and shared data are not written to as code is
  pub debug_private : Legal store [] zeros (entry_of 1 (Enter ways.Load 0 (fresh 1 0 (0x10000000 ∷ 0x10010000 ∷ 0x10020000 ∷ []) ∷ []) [])
      ∷ entry_of 1 (Debug 1 0 3 0 (1 ∷ [])) ∷ []) → ⊥
  pub debug_shared : Legal store [] zeros (entry_of 1 (Enter ways.Load 0 (fresh 1 0 (0x10000000 ∷ 0x10010000 ∷ 0x10020000 ∷ []) ∷ []) [])
      ∷ entry_of 1 (Debug 1 0 2 0 (1 ∷ [])) ∷ []) → ⊥

-- ---- what is not what is done there

abbrev four_new : List Fresh
four_new = fresh 1 3 (0x10000000 ∷ []) ∷ fresh 2 1 (0x10010000 ∷ []) ∷ fresh 3 2 (0x10020000 ∷ []) ∷ fresh 4 0 (0x10030000 ∷ []) ∷ []

abbrev all_four : List Call
all_four = call Init 1 3 0x10000000 ∷ call Init 2 1 0x10010000 ∷ call Init 3 2 0x10020000 ∷ call Init 4 0 0x10030000 ∷ []

abbrev undone : List Call
undone = call Init 1 3 0x10000000 ∷ call Init 2 1 0x10010000 ∷ call Term 1 3 0x10000000 ∷ []

abbrev last_first : List Gone
last_first = gone 4 0 ∷ gone 3 2 ∷ gone 2 1 ∷ gone 1 3 ∷ []

-- a load of A by the first process, where some initialisations fail
abbrev wrong_load : Failing → Deed → Type 0
wrong_load failing deed = Legal diamond failing zeros (entry_of 1 deed ∷ []) → ⊥

pub record WorkedNotDone : Type 0 where
  pub serial : wrong_in_D [] 1 (Enter ways.Load 0 (fresh 2 0 (0x10000000 ∷ []) ∷ []) [])
  pub base : wrong_in_D [] 1 (Enter ways.Load 0 (fresh 1 0 (0x10010000 ∷ []) ∷ []) [])
  pub nothing_new : wrong_in_D [] 1 (Enter ways.Load 0 [] [])
  pub new_again : wrong_in_D loaded 2 (Enter ways.Load 0 (fresh 2 0 (0x10010000 ∷ []) ∷ []) [])
  -- a residence that stays though nobody reaches it, and one that goes though somebody does
  pub stays : wrong_in_D loaded 1 (Free 0 [] [])
  pub goes : wrong_in_D both_loaded 1 (Free 0 [] (gone 1 0 ∷ []))
  -- an initialisation too few, and two in the wrong order
  pub init_missing : wrong_load [] (Enter ways.Load 0 four_new (call Init 1 3 0x10000000 ∷ call Init 2 1 0x10010000 ∷ call Init 3 2 0x10020000 ∷ []))
  pub init_order :
      wrong_load []
      (Enter ways.Load 0 four_new (call Init 2 1 0x10010000 ∷ call Init 1 3 0x10000000 ∷ call Init 3 2 0x10020000 ∷ call Init 4 0 0x10030000 ∷ []))
  -- one that is repeated for a second process
  pub init_again : Legal diamond [] zeros (entry_of 1 (Enter ways.Load 0 four_new all_four) ∷ entry_of 2 (Enter ways.Load 0 [] all_four) ∷ []) → ⊥
  -- a load that fails where nothing does, and one that does not where it should
  pub failed_for_nothing : wrong_load [] (Failed ways.Load 0 1 four_new undone last_first)
  pub not_failed : wrong_load B_fails (Enter ways.Load 0 four_new all_four)
  pub failed_elsewhere : Legal diamond B_fails zeros (entry_of 2 (Failed ways.Load 0 1 four_new undone last_first) ∷ []) → ⊥
  -- another module that failed; no termination; what goes in the order in which it came; what does not go
  pub another : wrong_load B_fails (Failed ways.Load 0 2 four_new undone last_first)
  pub not_terminated : wrong_load B_fails (Failed ways.Load 0 1 four_new (call Init 1 3 0x10000000 ∷ call Init 2 1 0x10010000 ∷ []) last_first)
  pub first_first : wrong_load B_fails (Failed ways.Load 0 1 four_new undone (gone 1 3 ∷ gone 2 1 ∷ gone 3 2 ∷ gone 4 0 ∷ []))
  pub left_over : wrong_load B_fails (Failed ways.Load 0 1 four_new undone [])
  -- serial numbers that a failed load gave, given again
  pub serials_again : Legal diamond B_fails zeros (failed_load ∷ entry_of 2 (Enter ways.Load 0 four_new all_four) ∷ []) → ⊥

-- ---- what is no merge

abbrev lines_of : List Line → List ScriptLines
lines_of lines = record { pid = 1; lines = lines } ∷ []

-- a run of one process on D
abbrev no_merge : List Entry → List Line → List Command → Type 0
no_merge h lines script = Merge D [] bytes_of_D h (lines_of lines) (record { pid = 1; commands = script } ∷ []) → ⊥

abbrev break_in_D : Command
break_in_D = commands.Debug (place (codes "D") 1 0 1) (0xCC ∷ [])

abbrev touch_D : Command
touch_D = commands.Touch (place (codes "D") 1 0 8)

abbrev peek_D : Command
peek_D = commands.Peek (place (codes "D") 1 0 8)

abbrev load_D : Command
load_D = commands.Load (codes "D")

abbrev faulted : List Entry
faulted = loaded ++ entry_of 1 (Fault 1 0 (page 1 0)) ∷ []

abbrev touched : Line
touched = line_at 2 touch_D replies.Fine

pub record WorkedNotMerged : Type 0 where
  -- a write to a page that was not touched
  pub untouched : no_merge (loaded ++ entry_of 1 (Debug 1 0 1 0 (0xCC ∷ [])) ∷ []) [] (load_D ∷ break_in_D ∷ [])
  -- a peek that leaves out the process's own write
  pub write_lost :
      no_merge (faulted ++ entry_of 1 (Debug 1 0 1 0 (0xCC ∷ [])) ∷ []) (touched ∷ line_at 3 peek_D (replies.Bytes as_linked) ∷ [])
      (load_D ∷ touch_D ∷ break_in_D ∷ peek_D ∷ [])
  -- a touch whose page had no fault, and a fault without its touch
  pub no_fault : no_merge loaded (line_at 1 touch_D replies.Fine ∷ []) (load_D ∷ touch_D ∷ [])
  pub no_touch : no_merge faulted [] (load_D ∷ [])
  -- a command that nothing answers, and an answer that nobody asked for
  pub left_out : no_merge loaded [] (load_D ∷ touch_D ∷ [])
  pub not_asked : no_merge faulted (touched ∷ []) (load_D ∷ [])
  -- a line ahead of the history, and lines whose fronts fall
  pub ahead : no_merge faulted (line_at 3 touch_D replies.Fine ∷ []) (load_D ∷ touch_D ∷ [])
  pub falling : no_merge faulted (touched ∷ line_at 1 peek_D (replies.Bytes as_linked) ∷ []) (load_D ∷ touch_D ∷ peek_D ∷ [])
