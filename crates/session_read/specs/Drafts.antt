-- A session so far, of which the last script is still open.
use Rattle.std.specs.Prelude.{◌≡◌, ℕ, List, [], ◌∷◌, ◌++◌, length, Option, Some, None, Result}
use Rattle.lx_types.specs.declared.fail.Fail.{Fail}
use Rattle.lx_types.specs.declared.fail.Fail.TheVariants.{Said, NoMemory}
use Rattle.lx_types.specs.Answers.{Answers}
use Rattle.load_model.specs.declared.commands.Command.{Command}
use Rattle.session_model.specs.declared.sessions.Script.{Script}
use Rattle.session_model.specs.declared.sessions.Session.{Session}
use Rattle.session_model.specs.declared.sessions.SessionKind.{SessionKind}
use Rattle.session_model.specs.declared.sessions.SessionRefusal.{SessionRefusal}
use Rattle.session_model.specs.Statements.{Statement, gives, fails, process, command, Reading, nothing, says, wrong, reading_of}
use Rattle.session_model.specs.Sessions.{fault_among}
use Rattle.session_read.specs.declared.draft.Draft.{Draft}

abbrev pub nothing_said : Draft
nothing_said = record { modules = []; failing = []; scripts = []; pid = None; commands = [] }

-- the open script, if there is one
abbrev pub open_with : Option ℕ → List Command → List Script
open_with None commands = []
open_with (Some pid) commands = record { pid = pid; commands = commands } ∷ []

-- the scripts, the open one last
abbrev pub scripts_in : Draft → List Script
scripts_in d = d.scripts ++ open_with d.pid d.commands

abbrev pub session_in : Draft → Session
session_in d = record { modules = d.modules; failing = d.failing; scripts = scripts_in d }

-- what is wrong with a statement after those of a draft
abbrev pub fault_after_draft : Draft → Statement → Option SessionKind
fault_after_draft d s = fault_among d.pid (length d.commands) s

abbrev pub with_statement : Draft → Statement → Draft
with_statement d (gives line) = record d { modules = d.modules ++ line ∷ [] }
with_statement d (fails line) = record d { failing = d.failing ++ line ∷ [] }
with_statement d (process pid) = record d { scripts = scripts_in d; pid = Some pid; commands = [] }
with_statement d (command c) = record d { commands = d.commands ++ c ∷ [] }

-- A draft with a statement more, where nothing is wrong with it; otherwise what is.
abbrev pub Takes : Draft → Statement → Result Draft (Fail SessionKind) → Type 0
Takes d s result =
    Answers result (λ new. (fault_after_draft d s ≡ None) × (new ≡ with_statement d s)) (λ kind. fault_after_draft d s ≡ Some kind)

-- the same of a line
abbrev pub fault_of_reading : Draft → Reading → Option SessionKind
fault_of_reading d nothing = None
fault_of_reading d (wrong kind) = Some kind
fault_of_reading d (says s) = fault_after_draft d s

abbrev pub with_reading : Draft → Reading → Draft
with_reading d nothing = d
with_reading d (wrong kind) = d
with_reading d (says s) = with_statement d s

-- A draft with what a line says, where nothing is wrong with the line; otherwise what is.
abbrev pub TakesLine : Draft → List ℕ → Result Draft (Fail SessionKind) → Type 0
TakesLine d line result =
    Answers result (λ new. (fault_of_reading d (reading_of line) ≡ None) × (new ≡ with_reading d (reading_of line)))
    (λ kind. fault_of_reading d (reading_of line) ≡ Some kind)

-- a fault, with the number of its line
abbrev pub fail_at : ℕ → Fail SessionKind → Fail SessionRefusal
fail_at line (Said kind) = Said (record { line = line; kind = kind })
fail_at line NoMemory = NoMemory
