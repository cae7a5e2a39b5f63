-- Sessions that can be written: each name in them is a word, and no name that is asked for begins with `@`.
use Rattle.std.specs.Prelude.{◌≡◌, ℕ, ◌<◌, ◌≤◌, false, List, length}
use Rattle.std.specs.List.{AllByRecursion}
use Rattle.lx_types.specs.declared.entry.EntryKey.{EntryKey}
use Rattle.lx_types.specs.declared.entry.EntryKey.TheVariants.{Ordinal, Named}
use Rattle.load_model.specs.declared.commands.Command.{Command}
use Rattle.load_model.specs.declared.commands.Command.TheVariants.{Start, Load, Free, Touch, Peek, Shared, Write, Debug, Query, GetRes, Exit}
use Rattle.session_model.specs.declared.sessions.FailingLine.{FailingLine}
use Rattle.session_model.specs.declared.sessions.ModLine.{ModLine}
use Rattle.session_model.specs.declared.sessions.ModLine.TheVariants.{Take, Build}
use Rattle.session_model.specs.declared.sessions.Script.{Script}
use Rattle.session_model.specs.declared.sessions.Session.{Session}
use Rattle.session_model.specs.Bounds.{IsSession}
use Rattle.session_model.specs.Statements.{begins_with_at}
use Rattle.session_model.specs.Sessions.{Ses}
use Rattle.session_model.specs.Spelling.{session_bytes}

-- from `!` to `~`
abbrev pub IsVisible : ℕ → Type 0
IsVisible b = (0x21 ≤ b) × (b ≤ 0x7E)

-- one byte at least, each visible
pub record IsPlain (name : List ℕ) : Type 0 where
  pub some : 0 < length name
  pub visible : AllByRecursion IsVisible name

-- a name that is no ordinal
pub record IsPlainKey (name : List ℕ) : Type 0 where
  pub plain : IsPlain name
  pub named : begins_with_at name ≡ false

abbrev pub HasPlainKey : EntryKey → Type 0
HasPlainKey (Ordinal n) = Unit {0}
HasPlainKey (Named name) = IsPlainKey name

abbrev pub IsByte : ℕ → Type 0
IsByte b = b < 256

-- a command whose names are plain, and whose bytes are bytes
abbrev pub IsPlainCommand : Command → Type 0
IsPlainCommand (Start name) = IsPlain name
IsPlainCommand (Load name) = IsPlain name
IsPlainCommand (Free name) = IsPlain name
IsPlainCommand (Touch p) = IsPlain p.«module»
IsPlainCommand (Peek p) = IsPlain p.«module»
IsPlainCommand (Shared p) = IsPlain p.«module»
IsPlainCommand (Write p bytes) = IsPlain p.«module» × AllByRecursion IsByte bytes
IsPlainCommand (Debug p bytes) = IsPlain p.«module» × AllByRecursion IsByte bytes
IsPlainCommand (Query name key) = IsPlain name × HasPlainKey key
IsPlainCommand (GetRes name ty id) = IsPlain name
IsPlainCommand Exit = Unit {0}

abbrev pub IsPlainModule : ModLine → Type 0
IsPlainModule (Take file) = IsPlain file
IsPlainModule (Build stem def files) = IsPlain stem × IsPlain def × AllByRecursion IsPlain files

abbrev pub IsPlainFailing : FailingLine → Type 0
IsPlainFailing f = IsPlain f.«module»

abbrev pub IsPlainScript : Script → Type 0
IsPlainScript s = AllByRecursion IsPlainCommand s.commands

-- A session within bounds, whose names can stand on a line.
pub record IsWritable (s : Session) : Type 0 where
  pub bounds : IsSession s
  pub modules : AllByRecursion IsPlainModule s.modules
  pub failing : AllByRecursion IsPlainFailing s.failing
  pub scripts : AllByRecursion IsPlainScript s.scripts

-- What bytes say is such a session.
abbrev pub SessionsAreWritable : Type 0
SessionsAreWritable = (bytes : List ℕ) (s : Session) → Ses bytes s → IsWritable s

-- What is written of one says it.
abbrev pub WrittenIsRead : Type 0
WrittenIsRead = (s : Session) → IsWritable s → Ses (session_bytes s) s
