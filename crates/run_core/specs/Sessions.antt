-- What a session's run comes to.
use Rattle.std.specs.Prelude.{◌≡◌, ◌<◌, List, length}
use Rattle.atomic_table.specs.Seated.{TableId}
use Rattle.load_model.specs.Modules.{Library, fixed_bytes}
use Rattle.load_model.specs.State.{Failing}
use Rattle.session_model.specs.declared.sessions.Script.{Script}
use Rattle.session_model.specs.Runs.{Run, IsRunOf, run_text}
use Rattle.proc_core.specs.Closing.{AreMade}
use Rattle.proc_core.specs.Procs.{ProcState}
use Rattle.run_core.specs.declared.session.Ran.{Ran}
use Rattle.run_core.specs.declared.tasks.Task.{Task}
use Rattle.run_core.specs.Tasks.{AreRunOut}

-- the history of the loader that was closed, and the lines of each script
abbrev pub run_in : Ran → Run
run_in r = record { history = r.closed; steady = r.steady }

-- The two are a run of these scripts, by the bytes of the files with their fixups, and the text is theirs.
pub record IsRanOf (lib : Library) (failing : Failing) (scripts : List Script) (r : Ran) : Type 0 where
  pub runs : IsRunOf lib failing (fixed_bytes lib) scripts (run_in r)
  pub text : r.text ≡ run_text lib (run_in r)

-- These scripts, of which there are some, were run out over a new loader of a library, where these initialisations fail.
pub record HaveRun (loader : TableId) (lib : Library) (failing : Failing) (scripts : List Script) (tasks : List Task) : Type 0 where
  pub procs : List ProcState
  pub made : AreMade loader (record { library = lib; failing = failing }) (length scripts) procs
  pub some : 0 < length scripts
  pub out : AreRunOut loader procs scripts tasks
