-- The session that the generator makes: it builds the modules, and four processes load the last of them, by which they reach
-- all, touch each and read its front.
use Rattle.std.specs.Prelude.{ℕ, List, [], ◌∷◌, ◌++◌, codes, decimal, map}
use Rattle.std.specs.List.{flat_map, range_with_len}
use Rattle.load_model.specs.declared.commands.Command.{Command}
use Rattle.load_model.specs.declared.commands.Command.TheVariants.{Load, Free, Touch, Peek}
use Rattle.load_model.specs.declared.commands.Place.{Place}
use Rattle.session_model.specs.declared.sessions.ModLine.{ModLine}
use Rattle.session_model.specs.declared.sessions.ModLine.TheVariants.{Build}
use Rattle.session_model.specs.declared.sessions.Script.{Script}
use Rattle.session_model.specs.declared.sessions.Session.{Session}
use Rattle.gen_model.specs.declared.numbers.TheConstants.{SEGMENT_LEN}
use Rattle.gen_model.specs.declared.numbers.TheConstants.{PROCESSES, FRONT_LEN}
use Rattle.gen_model.specs.Modules.{module_name}

-- ---- names of files

abbrev pub object_name : List ℕ → ℕ → List ℕ
object_name prefix k = prefix ++ (decimal k ++ codes ".obj")

abbrev pub definition_name : List ℕ → ℕ → List ℕ
definition_name prefix k = prefix ++ (decimal k ++ codes ".def")

abbrev pub session_name : List ℕ → List ℕ
session_name prefix = prefix ++ codes ".ses"

-- ---- module lines

-- the numbers of the modules
abbrev pub numbers : ℕ → List ℕ
numbers count = range_with_len 1 count

abbrev pub build_line : List ℕ → ℕ → ModLine
build_line prefix k = Build (module_name k) (definition_name prefix k) (object_name prefix k ∷ [])

-- ---- scripts

-- the first bytes of a module's object
abbrev pub front_of : ℕ → ℕ → Place
front_of len k = record { «module» = module_name k; object = 1; offset = 0; len = len }

abbrev pub visit : ℕ → List Command
visit k = Touch (front_of SEGMENT_LEN k) ∷ Peek (front_of FRONT_LEN k) ∷ []

abbrev pub gen_commands : ℕ → List Command
gen_commands count = Load (module_name count) ∷ (flat_map visit (numbers count) ++ Free (module_name count) ∷ [])

abbrev pub gen_script : ℕ → ℕ → Script
gen_script count pid = record { pid = pid; commands = gen_commands count }

abbrev pub gen_scripts : ℕ → List Script
gen_scripts count = map (gen_script count) (range_with_len 1 PROCESSES)

-- ---- the session

unfoldable pub gen_session : ℕ → List ℕ → Session
gen_session count prefix = record {
  modules = map (build_line prefix) (numbers count);
  failing = [];
  scripts = gen_scripts count;
}
