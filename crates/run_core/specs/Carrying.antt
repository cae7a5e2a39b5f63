-- What a process does for one command of its script, and how far it has come.
use Rattle.std.specs.Prelude.{◌≡◌, ◌⊎◌, ℕ, Bool, true, false, List, [], ◌∷◌, length, Option, Some, None, Result, Ok, Err, if◌then◌else◌}
use Rattle.lx_types.specs.declared.fail.Fail.{Fail}
use Rattle.lx_types.specs.declared.fail.Fail.TheVariants as fail
use Rattle.load_model.specs.declared.commands.Command.{Command}
use Rattle.load_model.specs.declared.commands.Command.TheVariants as commands
use Rattle.load_model.specs.declared.commands.Place.{Place}
use Rattle.load_model.specs.declared.commands.Refusal.{Refusal}
use Rattle.load_model.specs.declared.commands.Refusal.TheVariants.{Ended, Worn, Started, NoModule, NotLibrary, NotProgram, NoEntry, ForwardLoop, Gate286}
use Rattle.load_model.specs.declared.commands.Refusal.TheVariants.{CountFull, ArenaFull, InitFailed, NotHeld, NotAttached, Range, ReadOnly, IsShared}
use Rattle.load_model.specs.declared.commands.Refusal.TheVariants.{NotShared, NotCode, Invalid, NotTouched, NoResource}
use Rattle.load_model.specs.declared.commands.Reply.{Reply}
use Rattle.load_model.specs.declared.commands.Reply.TheVariants.{Fine, Refused}
use Rattle.load_model.specs.Modules.{Library, fixed_bytes}
use Rattle.load_model.specs.State.{Failing}
use Rattle.load_model.specs.Outcomes.{Outcome}
use Rattle.load_model.specs.ViewAnswers.{view_refusal}
use Rattle.session_model.specs.declared.sessions.Line.{Line}
use Rattle.script_laws.specs.Progress.{Progress}
use Rattle.script_laws.specs.Commands.{IsReading}
use Rattle.proc_core.specs.declared.answers.Done.{Done}
use Rattle.proc_core.specs.Procs.{ProcState, failing_in}
use Rattle.proc_core.specs.Calls.{Made, IsReplied}
use Rattle.proc_core.specs.Touches.{touched_pages, IsTouched, AreMapped}

-- ---- answers

-- a refusal that is told by an entry
abbrev pub has_entry : Refusal → Bool
has_entry (ArenaFull number of object size) = true
has_entry (InitFailed number by) = true
has_entry Ended = false
has_entry Worn = false
has_entry Started = false
has_entry NoModule = false
has_entry NotLibrary = false
has_entry NotProgram = false
has_entry NoEntry = false
has_entry ForwardLoop = false
has_entry Gate286 = false
has_entry CountFull = false
has_entry NotHeld = false
has_entry NotAttached = false
has_entry Range = false
has_entry ReadOnly = false
has_entry IsShared = false
has_entry NotShared = false
has_entry NotCode = false
has_entry Invalid = false
has_entry (NotTouched page) = false
has_entry NoResource = false

-- the reply of the line of a command, where it is one: what has an entry is no line
abbrev pub IsLineOf : Result Done (Fail Refusal) → Option Reply → Type 0
IsLineOf (Ok it) reply = reply ≡ None
IsLineOf (Err (fail.Said refusal)) reply = reply ≡ (if has_entry refusal then None else Some (Refused refusal))
IsLineOf (Err fail.NoMemory) reply = ⊥

-- ---- one command

pub record IsRefusedLine (p q : ProcState) (command : Command) (reply : Reply) : Type 0 where
  pub refusal : Refusal
  pub told : reply ≡ Refused refusal
  pub refused : view_refusal p.view.library p.view.holding command ≡ Some refusal
  pub same : q ≡ p

pub record IsReadLine (p q : ProcState) (command : Command) (reply : Reply) : Type 0 where
  pub reads : IsReading command
  pub replied : IsReplied p command reply
  pub same : q ≡ p

pub record IsTouchLine (p q : ProcState) (command : Command) (reply : Reply) : Type 0 where
  pub at : Place
  pub is : command ≡ commands.Touch at
  pub fine : reply ≡ Fine
  pub before : ℕ
  pub after : ℕ
  pub touched : IsTouched p q at (length (touched_pages p.view at)) before after
  pub mapped : AreMapped p.view q.view at

-- The command was carried out: by an entry, or with a line of this reply.
abbrev pub IsCarriedOut : ProcState → ProcState → Command → Option Reply → Type 0
IsCarriedOut p q command None = (outcome : Outcome) × Made p q command outcome
IsCarriedOut p q command (Some reply) = IsRefusedLine p q command reply ⊎ IsReadLine p q command reply ⊎ IsTouchLine p q command reply

-- the line of a command, where it has a reply
abbrev pub line_with : ℕ → Command → Option Reply → List Line
line_with front command None = []
line_with front command (Some reply) = record { front = front; command = command; reply = reply } ∷ []

-- at the end of what the process was shown
abbrev pub line_if : ProcState → Command → Option Reply → List Line
line_if q command reply = line_with (length q.known.seen) command reply

-- ---- how far it has come

-- Over this library, where these initialisations fail, the process has carried out these commands, and answered these lines.
pub record Reached (lib : Library) (failing : Failing) (p : ProcState) (lines : List Line) (done : List Command) : Type 0 where
  pub library : p.view.library ≡ lib
  pub fails : failing_in p.known.subject ≡ failing
  pub number : p.view.holding.pid ≡ p.known.pid
  pub progress : Progress lib failing (fixed_bytes lib) p.view.holding p.known.seen lines done
