-- Worked values: histories that are legal, merges, and transcripts, byte by byte.
use Rattle.std.specs.Prelude.{◌≡◌, ℕ, List, [], ◌∷◌, ◌++◌, codes, slice_index}
use Rattle.lx_types.specs.declared.entry.EntryKey.TheVariants.{Ordinal}
use Rattle.load_model.specs.declared.commands.Command.{Command}
use Rattle.load_model.specs.declared.commands.Command.TheVariants as commands
use Rattle.load_model.specs.declared.commands.Reply.{Reply}
use Rattle.load_model.specs.declared.commands.Reply.TheVariants as replies
use Rattle.load_model.specs.declared.commands.Refusal.TheVariants as why
use Rattle.load_model.specs.declared.deeds.How.TheVariants as ways
use Rattle.load_model.specs.declared.deeds.CallKind.TheVariants.{Init, Term, Main}
use Rattle.load_model.specs.declared.deeds.Deed.{Deed}
use Rattle.load_model.specs.declared.deeds.Deed.TheVariants.{Enter, Full, Free, Exit, Fault, Write, Shared}
use Rattle.load_model.specs.declared.deeds.Entry.{Entry}
use Rattle.load_model.specs.Modules.{Library, Held}
use Rattle.load_model.specs.Histories.{Legal}
use Rattle.load_model.specs.Memory.{page}
use Rattle.load_model.specs.Samples.{code, object, library, fresh, call, gone, place}
use Rattle.session_model.specs.declared.sessions.Line.{Line}
use Rattle.session_model.specs.declared.sessions.Script.{Script}
use Rattle.session_model.specs.declared.sessions.ScriptLines.{ScriptLines}
use Rattle.session_model.specs.Merging.{Merge}
use Rattle.session_model.specs.Transcript.{Transcript, entry_text, line_text}
use Rattle.session_model.specs.WorkedSessions.{ln, commands_of_D}

-- ---- a session of one module and one process

-- a library of 8 bytes, of which the last is 10h
abbrev pub D : Library
D = library (codes "D") (object code 8 0x10000000 ∷ []) ∷ []

abbrev pub bytes_of_D : Held
bytes_of_D m bases o x = slice_index (0 ∷ 0 ∷ 0 ∷ 0 ∷ 0 ∷ 0 ∷ 0 ∷ 0x10 ∷ []) x

abbrev pub entry_of : ℕ → Deed → Entry
entry_of pid deed = record { pid = pid; deed = deed }

abbrev pub line_at : ℕ → Command → Reply → Line
line_at front command reply = record { front = front; command = command; reply = reply }

abbrev history_of_D : List Entry
history_of_D =
    entry_of 1 (Enter ways.Load 0 (fresh 1 0 (0x10000000 ∷ []) ∷ []) []) ∷ entry_of 1 (Fault 1 0 (page 1 0)) ∷ entry_of 1 (Free 0 [] (gone 1 0 ∷ []))
    ∷ entry_of 1 (Exit [] []) ∷ []

abbrev lines_of_D : List ScriptLines
lines_of_D =
    record {
      pid = 1;
      lines =
          line_at 2 (commands.Touch (place (codes "D") 1 4 4)) replies.Fine
          ∷ line_at 2 (commands.Peek (place (codes "D") 1 0 8)) (replies.Bytes (0 ∷ 0 ∷ 0 ∷ 0 ∷ 0 ∷ 0 ∷ 0 ∷ 0x10 ∷ [])) ∷ [];
    }
    ∷ []

abbrev scripts_of_D : List Script
scripts_of_D = record { pid = 1; commands = commands_of_D } ∷ []

abbrev transcript_of_D : List ℕ
transcript_of_D =
    ln (codes "history") ++ ln (codes "1 P1 load D") ++ ln (codes "  new 1 D 10000000") ++ ln (codes "2 P1 fault 1 D 1 0")
    ++ ln (codes "3 P1 free D") ++ ln (codes "  gone 1 D") ++ ln (codes "4 P1 exit") ++ ln (codes "process 1")
    ++ ln (codes "  at 2 touch D 1 4 4 ok") ++ ln (codes "  at 2 peek D 1 0 8 = 00 00 00 00 00 00 00 10")
    ++ ln (codes "summary processes 1 entries 4 faults 1")

pub record WorkedRun : Type 0 where
  pub legal : Legal D [] bytes_of_D history_of_D
  pub merge : Merge D [] bytes_of_D history_of_D lines_of_D scripts_of_D
  pub text : Transcript D history_of_D lines_of_D ≡ transcript_of_D
  pub nothing : Transcript [] [] [] ≡ ln (codes "history") ++ ln (codes "summary processes 0 entries 0 faults 0")

-- a second fault of a page, and a history that frees what is not loaded
abbrev twice : List Entry
twice = entry_of 1 (Enter ways.Load 0 (fresh 1 0 (0x10000000 ∷ []) ∷ []) []) ∷ entry_of 1 (Fault 1 0 (page 1 0)) ∷ entry_of 1 (Fault 1 0 (page 1 0)) ∷ []

pub record WorkedIllegal : Type 0 where
  pub twice : Legal D [] bytes_of_D twice → ⊥
  pub not_loaded : Legal D [] bytes_of_D (entry_of 1 (Free 0 [] []) ∷ []) → ⊥
  -- a serial number that is not the next one
  pub serial : Legal D [] bytes_of_D (entry_of 1 (Enter ways.Load 0 (fresh 2 0 (0x10000000 ∷ []) ∷ []) []) ∷ []) → ⊥

-- ---- each kind of line

-- modules of which one has a name with a blank, and one has no objects
abbrev named : Library
named = library (codes "A") [] ∷ library (codes "50% off") [] ∷ []

abbrev numbers : List ℕ
numbers = 3 ∷ 7 ∷ []

abbrev entry_is : Deed → List ℕ → Type 0
entry_is deed text = entry_text named numbers (12, entry_of 2 deed) ≡ text

abbrev line_is : Command → Reply → List ℕ → Type 0
line_is command reply text = line_text (line_at 5 command reply) ≡ ln text

pub record WorkedLines : Type 0 where
  pub start : entry_is (Enter ways.Start 0 (fresh 1 0 [] ∷ []) (call Main 1 0 0x10000 ∷ []))
      (ln (codes "12 P7 start A") ++ ln (codes "  new 1 A") ++ ln (codes "  call main 1 A 00010000"))
  pub load : entry_is (Enter ways.Load 1 (fresh 2 1 (0x1ABC0000 ∷ 0x10000000 ∷ []) ∷ []) (call Init 2 1 0x1ABC0000 ∷ []))
      (ln (codes "12 P7 load 50%25%20off") ++ ln (codes "  new 2 50%25%20off 1ABC0000 10000000") ++ ln (codes "  call init 2 50%25%20off 1ABC0000"))
  pub full : entry_is (Full ways.Load 0 1 3 268435457) (ln (codes "12 P7 load A full 50%25%20off 3 268435457"))
  pub free : entry_is (Free 0 (call Term 1 0 0x10000 ∷ []) (gone 1 0 ∷ []))
      (ln (codes "12 P7 free A") ++ ln (codes "  call term 1 A 00010000") ++ ln (codes "  gone 1 A"))
  pub exit : entry_is (Exit [] []) (ln (codes "12 P7 exit"))
  pub fault : entry_is (Fault 1 0 (page 2 30)) (ln (codes "12 P7 fault 1 A 2 30"))
  pub write : entry_is (Write 1 0 2 16 (0xAB ∷ 5 ∷ [])) (ln (codes "12 P7 write 1 A 2 16 = AB 05"))
  pub shared : entry_is (Shared 1 0 2 16 (0xAB ∷ 5 ∷ [])) (ln (codes "12 P7 shared 1 A 2 16 = AB 05"))
  pub touch : line_is (commands.Touch (place (codes "a") 1 0 8)) replies.Fine (codes "  at 5 touch a 1 0 8 ok")
  pub query : line_is (commands.Query (codes "A") (Ordinal 7)) (replies.Address 0x1000ABCD) (codes "  at 5 query A @7 = 1000ABCD")
  pub refused : line_is (commands.Write (place (codes "A") 1 0 2) (0xAB ∷ 5 ∷ [])) (replies.Refused (why.NotTouched 0))
      (codes "  at 5 write A 1 0 AB05 refused NotTouched 0")
  pub ended : line_is commands.Exit (replies.Refused why.Ended) (codes "  at 5 exit refused Ended")
