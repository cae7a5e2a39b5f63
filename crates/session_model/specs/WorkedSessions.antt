-- Worked values: sessions, and one of each fault.
use Rattle.std.specs.Prelude.{◌≡◌, ℕ, List, [], ◌∷◌, ◌++◌, codes, replicate, flat_map, Option, Some, None}
use Rattle.std.specs.List.{range_with_len}
use Rattle.lx_types.specs.declared.entry.EntryKey.TheVariants.{Ordinal, Named}
use Rattle.load_model.specs.declared.commands.Command.{Command}
use Rattle.load_model.specs.declared.commands.Command.TheVariants.{Start, Load, Free, Touch, Peek, Shared, Write, Debug, Query, GetRes, Exit}
use Rattle.session_model.specs.declared.sessions.ModLine.TheVariants.{Take, Build}
use Rattle.session_model.specs.declared.sessions.Session.{Session}
use Rattle.session_model.specs.declared.sessions.SessionKind.{SessionKind}
use Rattle.session_model.specs.declared.sessions.SessionKind.TheVariants as kinds
use Rattle.session_model.specs.declared.sessions.SessionRefusal.{SessionRefusal}
use Rattle.session_model.specs.Statements.{place_of, command}
use Rattle.session_model.specs.Sessions.{fault_among, SesFault, Ses}

-- a line, and one that ends as in DOS
abbrev pub ln : List ℕ → List ℕ
ln text = text ++ 0x0A ∷ []

abbrev pub dos : List ℕ → List ℕ
dos text = text ++ 0x0D ∷ 0x0A ∷ []

-- one module and one process
abbrev pub one_module : List ℕ
one_module =
    ln (codes "build D d.def a.obj") ++ ln (codes "process 1") ++ ln (codes "load D") ++ ln (codes "touch D 1 4 4") ++ ln (codes "peek D 1 0 8")
    ++ ln (codes "free D") ++ ln (codes "exit")

abbrev pub commands_of_D : List Command
commands_of_D =
    Load (codes "D") ∷ Touch (place_of (codes "D") 1 4 4) ∷ Peek (place_of (codes "D") 1 0 8) ∷ Free (codes "D") ∷ Exit ∷ []

abbrev pub session_of_D : Session
session_of_D = record {
  modules = Build (codes "D") (codes "d.def") (codes "a.obj" ∷ []) ∷ [];
  failing = [];
  scripts = record { pid = 1; commands = commands_of_D } ∷ [];
}

-- comments, blanks, numbers of both kinds, and no end of the last line
abbrev pub of_all_kinds : List ℕ
of_all_kinds =
    dos (codes "# a comment") ++ dos [] ++ ln (codes "  take  m.dll") ++ ln (codes "build P - a.obj b.lib") ++ ln (codes "failing M 2")
    ++ ln (codes "take n.dll") ++ ln (codes "failing m 0x10") ++ ln (codes "process 2")
    ++ ln (codes "start P") ++ ln (0x09 ∷ codes "shared M 0x2 0x10 4096") ++ ln (codes "write M 1 0 aBcD") ++ ln (codes "query M @7")
    ++ ln (codes "debug M 1 0 CC") ++ ln (codes "getres M 65535 0")
    ++ ln (codes "process 16") ++ codes "query M F"

pub record WorkedSessions : Type 0 where
  pub one : Ses one_module session_of_D
  pub empty : Ses [] (record { modules = []; failing = []; scripts = [] })
  pub kinds : Ses of_all_kinds (record {
    modules = Take (codes "m.dll") ∷ Build (codes "P") (codes "-") (codes "a.obj" ∷ codes "b.lib" ∷ []) ∷ Take (codes "n.dll") ∷ [];
    failing = record { «module» = codes "M"; pid = 2 } ∷ record { «module» = codes "m"; pid = 16 } ∷ [];
    scripts =
        record {
          pid = 2;
          commands =
              Start (codes "P") ∷ Shared (place_of (codes "M") 2 16 4096) ∷ Write (place_of (codes "M") 1 0 2) (0xAB ∷ 0xCD ∷ [])
              ∷ Query (codes "M") (Ordinal 7)
              ∷ Debug (place_of (codes "M") 1 0 1) (0xCC ∷ []) ∷ GetRes (codes "M") 65535 0 ∷ [];
        }
        ∷ record { pid = 16; commands = Query (codes "M") (Named (codes "F")) ∷ [] } ∷ [];
  })

-- ---- faults

abbrev at : ℕ → SessionKind → Option SessionRefusal
at line kind = Some (record { line = line; kind = kind })

-- a line of the script of process 1
abbrev in_script : List ℕ → Option SessionRefusal
in_script line = SesFault (ln (codes "process 1") ++ ln line)

-- the script of process 1 with so many exits
abbrev exits : ℕ → List ℕ
exits n = ln (codes "process 1") ++ flat_map (λ k. ln (codes "exit")) (range_with_len 0 n)

pub record WorkedFaults : Type 0 where
  pub byte : SesFault (ln (codes "# a comment" ++ 0x80 ∷ [])) ≡ at 1 kinds.Byte
  pub lone_cr : SesFault (codes "take" ++ 0x0D ∷ codes " m") ≡ at 1 kinds.Byte
  pub statement : SesFault (ln [] ++ ln (codes "Take m")) ≡ at 2 kinds.Statement
  pub count : SesFault (ln (codes "build D d.def")) ≡ at 1 kinds.Count
  pub long_word : SesFault (codes "take " ++ replicate 256 0x61) ≡ at 1 kinds.Count
  pub word_fits : SesFault (codes "take " ++ replicate 255 0x61) ≡ None
  pub number : in_script (codes "touch M 1 x 1") ≡ at 2 kinds.Number
  pub number_large : in_script (codes "touch M 1 4294967296 1") ≡ at 2 kinds.Number
  pub number_fits : in_script (codes "touch M 1 4294967295 1") ≡ None
  pub no_digits : in_script (codes "touch M 0x 0 1") ≡ at 2 kinds.Number
  pub length_0 : in_script (codes "touch M 1 0 0") ≡ at 2 kinds.Number
  pub length_large : in_script (codes "peek M 1 0 4097") ≡ at 2 kinds.Number
  pub touch_large : in_script (codes "touch M 1 0 4097") ≡ None
  pub ordinal : in_script (codes "query M @") ≡ at 2 kinds.Number
  pub hex : in_script (codes "write M 1 0 ABC") ≡ at 2 kinds.Hex
  pub hex_digit : in_script (codes "write M 1 0 AG") ≡ at 2 kinds.Hex
  pub number_first : in_script (codes "write M 1 x AG") ≡ at 2 kinds.Number
  pub hex_large : in_script (codes "write M 1 0 " ++ replicate 8194 0x30) ≡ at 2 kinds.Hex
  pub hex_fits : in_script (codes "write M 1 0 " ++ replicate 8192 0x30) ≡ None
  -- bytes are judged as those of a write
  pub debug_hex : in_script (codes "debug M 1 0 C") ≡ at 2 kinds.Hex
  pub debug_large : in_script (codes "debug M 1 0 " ++ replicate 8194 0x30) ≡ at 2 kinds.Hex
  pub debug_number : in_script (codes "debug M x 0 C") ≡ at 2 kinds.Number
  pub type_large : in_script (codes "getres M 65536 1") ≡ at 2 kinds.Number
  pub id_large : in_script (codes "getres M 1 65536") ≡ at 2 kinds.Number
  pub getres_count : in_script (codes "getres M 1") ≡ at 2 kinds.Count
  pub failing_0 : SesFault (codes "failing M 0") ≡ at 1 kinds.Number
  pub failing_17 : SesFault (codes "failing M 17") ≡ at 1 kinds.Number
  pub failing_count : SesFault (codes "failing M") ≡ at 1 kinds.Count
  -- a number that is wrong comes before a wrong part
  pub failing_late : in_script (codes "failing M 1") ≡ at 2 kinds.Order
  pub failing_both : in_script (codes "failing M 17") ≡ at 2 kinds.Number
  pub module_late : in_script (codes "take M") ≡ at 2 kinds.Order
  pub no_process : SesFault (codes "load M") ≡ at 1 kinds.Order
  pub process_0 : SesFault (codes "process 0") ≡ at 1 kinds.Order
  pub process_17 : SesFault (codes "process 17") ≡ at 1 kinds.Order
  pub same_process : in_script (codes "process 1") ≡ at 2 kinds.Order
  -- command 1,024 of a script is its last
  pub last_command : fault_among (Some 1) 1023 (command Exit) ≡ None
  pub too_many : fault_among (Some 1) 1024 (command Exit) ≡ Some kinds.TooMany
  pub all_commands : SesFault (exits 1024) ≡ None
  pub one_more : SesFault (exits 1025) ≡ at 1026 kinds.TooMany
  -- a script more begins to count again
  pub next_script : SesFault (exits 1024 ++ ln (codes "process 2") ++ ln (codes "exit")) ≡ None
  -- the first line counts, and in it the first kind
  pub first : SesFault (ln (codes "load M") ++ ln (codes "what")) ≡ at 1 kinds.Order
