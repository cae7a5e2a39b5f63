-- The scripts in work, each with its process.
use Rattle.std.specs.Prelude.{◌≡◌, ℕ, ◌≤◌, List, [], length, map, zip, slice_index_or, ◌<◌, false}
use Rattle.std.specs.List.{AllByRecursion}
use Rattle.atomic_table.specs.Seated.{TableId}
use Rattle.session_model.specs.declared.sessions.Script.{Script}
use Rattle.session_model.specs.declared.sessions.ScriptLines.{ScriptLines}
use Rattle.session_model.specs.Bounds.{IsCommand}
use Rattle.proc_core.specs.Procs.{ProcState, failing_in, IsOf}
use Rattle.session_model.specs.declared.limits.TheConstants.{MAX_COMMANDS}
use Rattle.run_core.specs.declared.tasks.Task.{Task}
use Rattle.run_core.specs.Carrying.{Reached}

-- the process is as it was but for what it has seen and done
pub record IsSameProcess (p q : ProcState) : Type 0 where
  pub lock : q.lock ≡ p.lock
  pub number : q.known.pid ≡ p.known.pid
  pub live : q.known.live ≡ p.known.live
  pub subject : q.known.subject ≡ p.known.subject
  pub library : q.view.library ≡ p.view.library

-- A script that was not begun: its process has done nothing, and its commands are those of a session.
pub record IsReady (loader : TableId) (t : Task) : Type 0 where
  pub of : IsOf loader t.proc
  pub drawn : t.proc.known.drawn ≡ 0
  pub reached : Reached t.proc.view.library (failing_in t.proc.known.subject) t.proc [] []
  pub lines : t.lines ≡ []
  pub few : length t.commands ≤ MAX_COMMANDS
  pub commands : AllByRecursion IsCommand t.commands

-- It was run to its end.
pub record IsRunWhole (loader : TableId) (before after : Task) : Type 0 where
  pub of : IsOf loader after.proc
  pub same : IsSameProcess before.proc after.proc
  pub reached : Reached before.proc.view.library (failing_in before.proc.known.subject) after.proc after.lines before.commands

-- So it was, unless memory ran out.
pub record IsRunOut (loader : TableId) (before after : Task) : Type 0 where
  pub number : after.number ≡ before.number
  pub whole : after.starved ≡ false → IsRunWhole loader before after

-- ---- all of them

-- the task of a process that has done nothing, and of its script
abbrev pub task_with : ProcState × Script → Task
task_with pair = record { number = pair.1.pid; proc = pair.0; commands = pair.1.commands; lines = []; starved = false }

-- They began as tasks of these processes and scripts, and each was run out.
pub record AreRunOut (loader : TableId) (procs : List ProcState) (scripts : List Script) (tasks : List Task) : Type 0 where
  pub count : length tasks ≡ length scripts
  pub each : (k : ℕ) (d : Task) → k < length tasks → IsRunOut loader (slice_index_or (map task_with (zip procs scripts)) k d) (slice_index_or tasks k d)

-- what is left of one
abbrev pub proc_of : Task → ProcState
proc_of t = t.proc

abbrev pub lines_of : Task → ScriptLines
lines_of t = record { pid = t.number; lines = t.lines }
