-- The text of a session: its modules, then what fails, then its scripts, a line each.
use Rattle.std.specs.Prelude.{ℕ, List, [], ◌∷◌, ◌++◌, codes, decimal}
use Rattle.std.specs.List.{flat_map}
use Rattle.load_model.specs.declared.commands.Command.{Command}
use Rattle.session_model.specs.declared.sessions.FailingLine.{FailingLine}
use Rattle.session_model.specs.declared.sessions.ModLine.{ModLine}
use Rattle.session_model.specs.declared.sessions.ModLine.TheVariants.{Take, Build}
use Rattle.session_model.specs.declared.sessions.Script.{Script}
use Rattle.session_model.specs.declared.sessions.Session.{Session}
use Rattle.session_model.specs.Text.{line_of}
use Rattle.session_model.specs.Transcript.{command_words}

abbrev pub module_words : ModLine → List (List ℕ)
module_words (Take file) = codes "take" ∷ file ∷ []
module_words (Build stem def files) = codes "build" ∷ stem ∷ def ∷ files

abbrev pub module_line : ModLine → List ℕ
module_line m = line_of (module_words m)

abbrev pub failing_words : FailingLine → List (List ℕ)
failing_words f = codes "failing" ∷ f.«module» ∷ decimal f.pid ∷ []

abbrev pub failing_line : FailingLine → List ℕ
failing_line f = line_of (failing_words f)

abbrev pub command_line : Command → List ℕ
command_line c = line_of (command_words c)

abbrev pub process_words : ℕ → List (List ℕ)
process_words pid = codes "process" ∷ decimal pid ∷ []

abbrev pub script_lines : Script → List ℕ
script_lines s = line_of (process_words s.pid) ++ flat_map command_line s.commands

unfoldable pub session_bytes : Session → List ℕ
session_bytes s = flat_map module_line s.modules ++ (flat_map failing_line s.failing ++ flat_map script_lines s.scripts)
