-- Worked values: runs with an initialisation that fails, with a write to code, and with a resource that is asked for.
use Rattle.std.specs.Prelude.{◌≡◌, ℕ, List, [], ◌∷◌, ◌++◌, codes}
use Rattle.lx_model.specs.Worked.Resources.{with_resources, item}
use Rattle.load_model.specs.declared.commands.Command.TheVariants as commands
use Rattle.load_model.specs.declared.commands.Reply.TheVariants as replies
use Rattle.load_model.specs.declared.commands.Refusal.TheVariants as why
use Rattle.load_model.specs.declared.deeds.How.TheVariants as ways
use Rattle.load_model.specs.declared.deeds.CallKind.TheVariants.{Init, Term}
use Rattle.load_model.specs.declared.deeds.Deed.TheVariants.{Enter, Failed, Free, Fault, Debug}
use Rattle.load_model.specs.declared.deeds.Entry.{Entry}
use Rattle.load_model.specs.Modules.{Library}
use Rattle.load_model.specs.State.{Failing}
use Rattle.load_model.specs.Histories.{Legal}
use Rattle.load_model.specs.Memory.{page}
use Rattle.load_model.specs.Samples.{zeros, fresh, call, gone, place}
use Rattle.load_model.specs.WorkedLoads.{diamond}
use Rattle.session_model.specs.declared.sessions.Script.{Script}
use Rattle.session_model.specs.declared.sessions.Session.{Session}
use Rattle.session_model.specs.FailingPairs.{failing_pairs}
use Rattle.session_model.specs.declared.sessions.ScriptLines.{ScriptLines}
use Rattle.session_model.specs.Merging.{Merge}
use Rattle.session_model.specs.Transcript.{Transcript}
use Rattle.session_model.specs.WorkedSessions.{ln}
use Rattle.session_model.specs.WorkedRuns.{bytes_of_D, entry_of, line_at}

-- ---- an initialisation that fails

abbrev pub B_fails : Failing
B_fails = (1, 1) ∷ []

abbrev pub failed_load : Entry
failed_load =
    entry_of 1
    (Failed ways.Load 0 1
    (fresh 1 3 (0x10000000 ∷ []) ∷ fresh 2 1 (0x10010000 ∷ []) ∷ fresh 3 2 (0x10020000 ∷ []) ∷ fresh 4 0 (0x10030000 ∷ []) ∷ [])
    (call Init 1 3 0x10000000 ∷ call Init 2 1 0x10010000 ∷ call Term 1 3 0x10000000 ∷ [])
    (gone 4 0 ∷ gone 3 2 ∷ gone 2 1 ∷ gone 1 3 ∷ []))

-- the first process loads A in vain, the second loads it, and then the first
abbrev history_of_A : List Entry
history_of_A =
    failed_load
    ∷ entry_of 2
    (Enter ways.Load 0
    (fresh 5 3 (0x10000000 ∷ []) ∷ fresh 6 1 (0x10010000 ∷ []) ∷ fresh 7 2 (0x10020000 ∷ []) ∷ fresh 8 0 (0x10030000 ∷ []) ∷ [])
    (call Init 5 3 0x10000000 ∷ call Init 6 1 0x10010000 ∷ call Init 7 2 0x10020000 ∷ call Init 8 0 0x10030000 ∷ []))
    ∷ entry_of 1 (Enter ways.Load 0 [] []) ∷ []

abbrev lines_of_A : List ScriptLines
lines_of_A =
    record { pid = 1; lines = line_at 1 (commands.Free (codes "A")) (replies.Refused why.NotHeld) ∷ [] } ∷ record { pid = 2; lines = [] } ∷ []

abbrev scripts_of_A : List Script
scripts_of_A =
    record { pid = 1; commands = commands.Load (codes "A") ∷ commands.Free (codes "A") ∷ commands.Load (codes "A") ∷ [] }
    ∷ record { pid = 2; commands = commands.Load (codes "A") ∷ [] } ∷ []

abbrev transcript_of_A : List ℕ
transcript_of_A =
    ln (codes "history") ++ ln (codes "1 P1 load A failed B") ++ ln (codes "  new 1 D 10000000") ++ ln (codes "  new 2 B 10010000")
    ++ ln (codes "  new 3 C 10020000") ++ ln (codes "  new 4 A 10030000") ++ ln (codes "  call init 1 D 10000000") ++ ln (codes "  call init 2 B 10010000")
    ++ ln (codes "  call term 1 D 10000000") ++ ln (codes "  gone 4 A") ++ ln (codes "  gone 3 C") ++ ln (codes "  gone 2 B") ++ ln (codes "  gone 1 D")
    ++ ln (codes "2 P2 load A") ++ ln (codes "  new 5 D 10000000") ++ ln (codes "  new 6 B 10010000") ++ ln (codes "  new 7 C 10020000")
    ++ ln (codes "  new 8 A 10030000") ++ ln (codes "  call init 5 D 10000000") ++ ln (codes "  call init 6 B 10010000")
    ++ ln (codes "  call init 7 C 10020000") ++ ln (codes "  call init 8 A 10030000") ++ ln (codes "3 P1 load A") ++ ln (codes "process 1")
    ++ ln (codes "  at 1 free A refused NotHeld") ++ ln (codes "process 2") ++ ln (codes "summary processes 2 entries 3 faults 0")

-- the session's lines that say so, and others that are passed over: no module has the name, and no script the number
abbrev session_of_A : Session
session_of_A = record {
  modules = [];
  failing = record { «module» = codes "E"; pid = 1 } ∷ record { «module» = codes "b"; pid = 1 } ∷ record { «module» = codes "B"; pid = 3 } ∷ [];
  scripts = scripts_of_A;
}

-- the second script has the number 7, and is the second process
abbrev numbered : Session
numbered = record {
  modules = [];
  failing = record { «module» = codes "D"; pid = 7 } ∷ record { «module» = codes "A"; pid = 2 } ∷ [];
  scripts = record { pid = 2; commands = [] } ∷ record { pid = 7; commands = [] } ∷ [];
}

pub record WorkedFailure : Type 0 where
  pub pairs : failing_pairs diamond session_of_A ≡ B_fails
  pub by_number : failing_pairs diamond numbered ≡ (2, 3) ∷ (1, 0) ∷ []
  pub legal : Legal diamond B_fails zeros history_of_A
  pub merge : Merge diamond B_fails zeros history_of_A lines_of_A scripts_of_A
  pub text : Transcript diamond history_of_A lines_of_A ≡ transcript_of_A

-- ---- a write to code, and a resource

-- a library of 8 bytes, of which the last is 10h, with the resource 1 2 in its first three
abbrev pub R : Library
R = record (with_resources 1 (item 1 2 3 1 0)) {
  name = codes "D";
  objects = record { size = 8; base = 0x10000000; flags = 0x2005; first = 0; count = 0 } ∷ [];
} ∷ []

abbrev pub load_new : Entry
load_new = entry_of 1 (Enter ways.Load 0 (fresh 1 0 (0x10000000 ∷ []) ∷ []) [])

-- both processes load D and touch its page, and the first sets a break in it; then it loads D anew
abbrev history_of_break : List Entry
history_of_break =
    load_new ∷ entry_of 2 (Enter ways.Load 0 [] []) ∷ entry_of 1 (Fault 1 0 (page 1 0)) ∷ entry_of 1 (Debug 1 0 1 0 (0xCC ∷ []))
    ∷ entry_of 1 (Free 0 [] []) ∷ entry_of 1 (Enter ways.Load 0 [] []) ∷ []

abbrev pub as_linked : List ℕ
as_linked = 0 ∷ 0 ∷ 0 ∷ 0 ∷ 0 ∷ 0 ∷ 0 ∷ 0x10 ∷ []

abbrev broken : List ℕ
broken = 0xCC ∷ 0 ∷ 0 ∷ 0 ∷ 0 ∷ 0 ∷ 0 ∷ 0x10 ∷ []

abbrev lines_of_break : List ScriptLines
lines_of_break =
    record {
      pid = 1;
      lines =
          line_at 3 (commands.Touch (place (codes "D") 1 0 8)) replies.Fine ∷ line_at 4 (commands.Peek (place (codes "D") 1 0 8)) (replies.Bytes broken)
          ∷ line_at 4 (commands.GetRes (codes "D") 1 2) (replies.Spot (record { object = 1; offset = 0; len = 3 }))
          ∷ line_at 4 (commands.GetRes (codes "D") 1 3) (replies.Refused why.NoResource)
          ∷ line_at 6 (commands.Touch (place (codes "D") 1 0 8)) replies.Fine
          ∷ line_at 6 (commands.Peek (place (codes "D") 1 0 8)) (replies.Bytes as_linked) ∷ [];
    }
    ∷ record {
      pid = 2;
      lines =
          line_at 3 (commands.Touch (place (codes "D") 1 0 8)) replies.Fine
          ∷ line_at 4 (commands.Peek (place (codes "D") 1 0 8)) (replies.Bytes as_linked) ∷ [];
    }
    ∷ []

abbrev scripts_of_break : List Script
scripts_of_break =
    record {
      pid = 1;
      commands =
          commands.Load (codes "D") ∷ commands.Touch (place (codes "D") 1 0 8) ∷ commands.Debug (place (codes "D") 1 0 1) (0xCC ∷ [])
          ∷ commands.Peek (place (codes "D") 1 0 8) ∷ commands.GetRes (codes "D") 1 2 ∷ commands.GetRes (codes "D") 1 3 ∷ commands.Free (codes "D")
          ∷ commands.Load (codes "D") ∷ commands.Touch (place (codes "D") 1 0 8) ∷ commands.Peek (place (codes "D") 1 0 8) ∷ [];
    }
    ∷ record {
      pid = 2;
      commands = commands.Load (codes "D") ∷ commands.Touch (place (codes "D") 1 0 8) ∷ commands.Peek (place (codes "D") 1 0 8) ∷ [];
    }
    ∷ []

abbrev transcript_of_break : List ℕ
transcript_of_break =
    ln (codes "history") ++ ln (codes "1 P1 load D") ++ ln (codes "  new 1 D 10000000") ++ ln (codes "2 P2 load D") ++ ln (codes "3 P1 fault 1 D 1 0")
    ++ ln (codes "4 P1 debug 1 D 1 0 = CC") ++ ln (codes "5 P1 free D") ++ ln (codes "6 P1 load D") ++ ln (codes "process 1")
    ++ ln (codes "  at 3 touch D 1 0 8 ok") ++ ln (codes "  at 4 peek D 1 0 8 = CC 00 00 00 00 00 00 10") ++ ln (codes "  at 4 getres D 1 2 = 1 0 3")
    ++ ln (codes "  at 4 getres D 1 3 refused NoResource") ++ ln (codes "  at 6 touch D 1 0 8 ok")
    ++ ln (codes "  at 6 peek D 1 0 8 = 00 00 00 00 00 00 00 10") ++ ln (codes "process 2") ++ ln (codes "  at 3 touch D 1 0 8 ok")
    ++ ln (codes "  at 4 peek D 1 0 8 = 00 00 00 00 00 00 00 10") ++ ln (codes "summary processes 2 entries 6 faults 1")

pub record WorkedBreak : Type 0 where
  pub legal : Legal R [] bytes_of_D history_of_break
  pub merge : Merge R [] bytes_of_D history_of_break lines_of_break scripts_of_break
  pub text : Transcript R history_of_break lines_of_break ≡ transcript_of_break
