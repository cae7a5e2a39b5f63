-- Sessions: which bytes are one, what it says, and otherwise the first line that is wrong.
use Rattle.std.specs.Prelude.{◌≡◌, ℕ, ◌+◌, ◌&&◌, Bool, List, [], ◌∷◌, filter_map, fold, Option, Some, None, nat_lt, nat_le, if◌then◌else◌}
use Rattle.load_model.specs.declared.commands.Command.{Command}
use Rattle.session_model.specs.declared.sessions.FailingLine.{FailingLine}
use Rattle.session_model.specs.declared.sessions.ModLine.{ModLine}
use Rattle.session_model.specs.declared.sessions.Script.{Script}
use Rattle.session_model.specs.declared.sessions.Session.{Session}
use Rattle.session_model.specs.declared.sessions.SessionKind.{SessionKind}
use Rattle.session_model.specs.declared.sessions.SessionKind.TheVariants as kinds
use Rattle.session_model.specs.declared.sessions.SessionRefusal.{SessionRefusal}
use Rattle.session_model.specs.Lines.{lines_in}
use Rattle.session_model.specs.Statements.{Statement, gives, fails, process, command, Reading, nothing, says, wrong, reading_of}
use Rattle.lx_types.specs.declared.limits.TheConstants.{MAX_PROCESSES}
use Rattle.session_model.specs.declared.limits.TheConstants.{MAX_COMMANDS}

-- ---- what statements say together

abbrev pub module_of : Statement → Option ModLine
module_of (gives m) = Some m
module_of (fails f) = None
module_of (process n) = None
module_of (command c) = None

abbrev pub failing_in : Statement → Option FailingLine
failing_in (fails f) = Some f
failing_in (gives m) = None
failing_in (process n) = None
failing_in (command c) = None

-- the commands up to the next script
abbrev pub commands_of : List Statement → List Command
commands_of [] = []
commands_of (command c ∷ others) = c ∷ commands_of others
commands_of (process n ∷ others) = []
commands_of (gives m ∷ others) = []
commands_of (fails f ∷ others) = []

-- each script has the commands below its number
abbrev pub scripts_of : List Statement → List Script
scripts_of [] = []
scripts_of (process n ∷ others) = record { pid = n; commands = commands_of others } ∷ scripts_of others
scripts_of (command c ∷ others) = scripts_of others
scripts_of (gives m ∷ others) = scripts_of others
scripts_of (fails f ∷ others) = scripts_of others

unfoldable pub session_of : List Statement → Session
session_of statements = record { modules = filter_map module_of statements; failing = filter_map failing_in statements; scripts = scripts_of statements }

-- ---- a line among others

-- the statement of a line, where it has one
abbrev pub statement_in : Reading → Option Statement
statement_in nothing = None
statement_in (says statement) = Some statement
statement_in (wrong kind) = None

abbrev pub statements_of : List (List ℕ) → List Statement
statements_of lines = filter_map (λ line. statement_in (reading_of line)) lines

abbrev pub number_or : Option ℕ → Statement → Option ℕ
number_or so_far (process n) = Some n
number_or so_far (gives m) = so_far
number_or so_far (fails f) = so_far
number_or so_far (command c) = so_far

abbrev pub count_or : ℕ → Statement → ℕ
count_or n (process number) = 0
count_or n (gives m) = n
count_or n (fails f) = n
count_or n (command c) = n + 1

-- the number of the script above, and how many commands it has so far
abbrev pub last_number : List Statement → Option ℕ
last_number before = fold number_or None before

abbrev pub commands_so_far : List Statement → ℕ
commands_so_far before = fold count_or 0 before

-- a process number is from 1 to 16 and above the last one
abbrev pub rises : Option ℕ → ℕ → Bool
rises None n = nat_le 1 n && nat_le n MAX_PROCESSES
rises (Some last) n = nat_lt last n && nat_le n MAX_PROCESSES

-- Modules, and what fails, come before all scripts, and commands belong to a script. A script may be full.
abbrev pub fault_among : Option ℕ → ℕ → Statement → Option SessionKind
fault_among None n (gives m) = None
fault_among (Some last) n (gives m) = Some kinds.Order
fault_among None n (fails f) = None
fault_among (Some last) n (fails f) = Some kinds.Order
fault_among last n (process number) = if rises last number then None else Some kinds.Order
fault_among None n (command c) = Some kinds.Order
fault_among (Some last) n (command c) = if nat_lt n MAX_COMMANDS then None else Some kinds.TooMany

abbrev pub fault_after : Option ℕ → ℕ → Reading → Option SessionKind
fault_after last n nothing = None
fault_after last n (wrong kind) = Some kind
fault_after last n (says s) = fault_among last n s

abbrev pub fault_later : List Statement → Reading → Option SessionKind
fault_later before r = fault_after (last_number before) (commands_so_far before) r

-- what is wrong with a line after others
unfoldable pub line_fault : List (List ℕ) → List ℕ → Option SessionKind
line_fault before line = fault_later (statements_of before) (reading_of line)

-- ---- sessions

-- Where a line stands: how many lines are above it, the number of the script above, and how many commands it has so far.
pub record Above : Type 0 where
  pub lines : ℕ
  pub last : Option ℕ
  pub commands : ℕ

abbrev pub nothing_above : Above
nothing_above = record { lines = 0; last = None; commands = 0 }

-- where the next line stands
abbrev pub past : Above → Reading → Above
past a nothing = record a { lines = a.lines + 1 }
past a (wrong kind) = record a { lines = a.lines + 1 }
past a (says s) = record { lines = a.lines + 1; last = number_or a.last s; commands = count_or a.commands s }

abbrev pub or_later : Above → Option SessionKind → Option SessionRefusal → Option SessionRefusal
or_later a (Some kind) later = Some (record { line = a.lines + 1; kind = kind })
or_later a None later = later

-- the first line that is wrong, of those that stand there
abbrev pub fault_below : Above → List (List ℕ) → Option SessionRefusal
fault_below a [] = None
fault_below a (line ∷ below) =
    or_later a (fault_after a.last a.commands (reading_of line)) (fault_below (past a (reading_of line)) below)

-- the first fault of bytes that are no session; lines count from 1
unfoldable pub SesFault : List ℕ → Option SessionRefusal
SesFault bytes = fault_below nothing_above (lines_in bytes)

-- The bytes are this session: no line is wrong, and the statements say it.
pub record Ses (bytes : List ℕ) (s : Session) : Type 0 where
  pub good : SesFault bytes ≡ None
  pub says : s ≡ session_of (statements_of (lines_in bytes))
