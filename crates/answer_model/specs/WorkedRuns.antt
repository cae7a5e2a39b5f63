-- Worked values: what `run FILE` says of small sessions.
use Rattle.std.specs.Prelude.{◌≡◌, ℕ, List, [], ◌∷◌, ◌++◌, codes, Some, None, Ok, Err}
use Rattle.lx_ports.specs.Calls.{Call, load}
use Rattle.lx_ports.specs.declared.files.LoadFault.TheVariants.{Absent}
use Rattle.lx_model.specs.declared.library.LibraryRefusal.TheVariants.{TooManyModules, NameTwice}
use Rattle.session_model.specs.declared.sessions.ModLine.TheVariants.{Take, Build}
use Rattle.session_model.specs.Runs.{Run}
use Rattle.answer_model.specs.SessionRefusals.{library_text}
use Rattle.answer_model.specs.declared.said.Said.{Said}
use Rattle.answer_model.specs.Items.{definition_file, module_file, object_or_library}
use Rattle.answer_model.specs.RunAnswer.{asked_lines, run_of, SaysRun}
use Rattle.answer_model.specs.RunEnds.{AreCallsOfRun}
use Rattle.answer_model.specs.Words.{command_of}

abbrev pub ln : List ℕ → List ℕ
ln text = text ++ 10 ∷ []

-- the session's file S, whose load gave these bytes
abbrev pub S : List ℕ
S = codes "s.ses"

abbrev pub loaded : List ℕ → Call
loaded bytes = load S (Ok bytes)

abbrev pub says : ℕ → List ℕ → Said
says status text = record { status = status; text = ln text }

-- a module that is taken, and one that is built
abbrev pub two_modules : List ℕ
two_modules = ln (codes "take a.dll") ++ ln (codes "build B - b.obj")

-- what ran where nothing did
abbrev pub nothing : Run
nothing = record { history = []; steady = [] }

pub record WorkedRunWords : Type 0 where
  pub two : run_of (codes "run" ∷ S ∷ []) ≡ Some S
  pub one : run_of (codes "run" ∷ []) ≡ None
  pub three : run_of (codes "run" ∷ S ∷ S ∷ []) ≡ None
  pub other : run_of (codes "ran" ∷ S ∷ []) ≡ None
  -- they are no command of the tool
  pub none : command_of (codes "run" ∷ S ∷ []) ≡ None

pub record WorkedRuns : Type 0 where
  pub empty : SaysRun S (loaded [] ∷ []) (record { status = 0; text = ln (codes "history") ++ ln (codes "summary processes 0 entries 0 faults 0") })
      (Some nothing)
  pub absent : SaysRun S (load S (Err Absent) ∷ []) (says 1 (codes "lx: s.ses: absent")) None
  pub wrong : SaysRun S (loaded (codes "took a.dll") ∷ []) (says 1 (codes "lx: s.ses: line 1 Statement")) None
  -- the first file that is not there is told; none after it is loaded
  pub missing : SaysRun S (loaded two_modules ∷ load (codes "a.dll") (Err Absent) ∷ []) (says 1 (codes "lx: a.dll: absent")) None
  pub calls : AreCallsOfRun S (loaded two_modules ∷ load (codes "a.dll") (Err Absent) ∷ [])

-- the files of module lines, in the order in which they are loaded
pub record WorkedLineFiles : Type 0 where
  pub files :
      asked_lines (Take (codes "a.dll") ∷ Build (codes "B") (codes "b.def") (codes "b.obj" ∷ codes "c.lib" ∷ [])
      ∷ Build (codes "D") (codes "-") (codes "d.obj" ∷ []) ∷ [])
      ≡ record { kind = module_file; name = codes "a.dll" } ∷ record { kind = definition_file; name = codes "b.def" }
      ∷ record { kind = object_or_library; name = codes "b.obj" }
      ∷ record { kind = object_or_library; name = codes "c.lib" } ∷ record { kind = object_or_library; name = codes "d.obj" } ∷ []
  pub many : library_text (TooManyModules 65) ≡ codes "TooManyModules 65"
  pub twice : library_text (NameTwice 0 1) ≡ codes "NameTwice 0 1"
