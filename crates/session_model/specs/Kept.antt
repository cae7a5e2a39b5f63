-- What the lines of a text say, of one kind each: how the lists of a session are kept.
use Rattle.std.specs.Prelude.{◌≡◌, ℕ, true, List, [], ◌∷◌, filter_map, Option, Some, None}
use Rattle.std.specs.List.{list_all}
use Rattle.session_model.specs.declared.sessions.FailingLine.{FailingLine}
use Rattle.session_model.specs.declared.sessions.ModLine.{ModLine}
use Rattle.session_model.specs.Lines.{is_allowed, lines_in}
use Rattle.session_model.specs.Statements.{gives, fails, process, command, Reading, nothing, says, wrong, reading_of}

-- what the lines of a text say, of the kind that in_line reads
abbrev pub said_in : {A : Type 0} → (List ℕ → Option A) → List ℕ → List A
said_in in_line text = filter_map in_line (lines_in text)

-- the module that a line gives, where it gives one
abbrev pub module_told : Reading → Option ModLine
module_told nothing = None
module_told (wrong kind) = None
module_told (says (gives m)) = Some m
module_told (says (fails f)) = None
module_told (says (process n)) = None
module_told (says (command c)) = None

abbrev pub module_in_line : List ℕ → Option ModLine
module_in_line line = module_told (reading_of line)

abbrev pub modules_in : List ℕ → List ModLine
modules_in text = said_in module_in_line text

-- what a line makes fail, where it does
abbrev pub failure_told : Reading → Option FailingLine
failure_told nothing = None
failure_told (wrong kind) = None
failure_told (says (gives m)) = None
failure_told (says (fails f)) = Some f
failure_told (says (process n)) = None
failure_told (says (command c)) = None

abbrev pub failure_in_line : List ℕ → Option FailingLine
failure_in_line line = failure_told (reading_of line)

abbrev pub failures_in : List ℕ → List FailingLine
failures_in text = said_in failure_in_line text

-- no bytes, or whole lines
abbrev pub AreLines : List ℕ → Type 0
AreLines [] = Unit {0}
AreLines (b ∷ []) = b ≡ 0x0A
AreLines (b ∷ c ∷ text) = AreLines (c ∷ text)

-- bytes of one line
abbrev pub IsOneLine : List ℕ → Type 0
IsOneLine line = list_all is_allowed line ≡ true
