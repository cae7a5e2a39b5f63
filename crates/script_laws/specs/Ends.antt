-- When all scripts were carried out over one history, that history and their lines are a run of them.
use Rattle.std.specs.Prelude.{◌≡◌, ℕ, ◌+◌, ◌≤◌, List, ◌++◌, length, map, Some, slice_get}
use Rattle.std.specs.List.{AllByRecursion}
use Rattle.lx_types.specs.declared.limits.TheConstants.{MAX_PROCESSES}
use Rattle.load_model.specs.declared.commands.Command.{Command}
use Rattle.load_model.specs.declared.deeds.Entry.{Entry}
use Rattle.load_model.specs.Modules.{Library, Held}
use Rattle.load_model.specs.State.{Failing}
use Rattle.load_model.specs.Step.{FitsPlace}
use Rattle.load_model.specs.Histories.{Legal}
use Rattle.load_model.specs.Views.{Holding}
use Rattle.session_model.specs.declared.sessions.Line.{Line}
use Rattle.session_model.specs.declared.sessions.Script.{Script}
use Rattle.session_model.specs.declared.sessions.ScriptLines.{ScriptLines}
use Rattle.session_model.specs.Merging.{numbers_of}
use Rattle.session_model.specs.Runs.{Run, IsRunOf}
use Rattle.script_laws.specs.Progress.{Progress, AreOthers}

-- The process of a number has carried out these commands with these lines, over what it was shown of the history; what
-- follows is of others.
pub record HasCarriedOut (lib : Library) (failing : Failing) (contents : Held) (pid : ℕ) (h : List Entry) (lines : List Line)
    (commands : List Command) : Type 0 where
  pub view : Holding
  pub number : view.pid ≡ pid
  pub shown : List Entry
  pub rest : List Entry
  pub begins : h ≡ shown ++ rest
  pub others : AreOthers pid rest
  pub progress : Progress lib failing contents view shown lines commands

abbrev pub ScriptsAreRun : Type 0
ScriptsAreRun =
    (lib : Library) (failing : Failing) (contents : Held) (h : List Entry) (s : List ScriptLines) (scripts : List Script) → Legal lib failing contents h →
    numbers_of s ≡ map (λ script. script.pid) scripts → AllByRecursion (λ (x : Entry). (1 ≤ x.pid) × (x.pid ≤ length scripts)) h →
    ((i : ℕ) (lines : ScriptLines) (script : Script) → slice_get s i ≡ Some lines → slice_get scripts i ≡ Some script →
    HasCarriedOut lib failing contents (1 + i) h lines.lines script.commands) →
    IsRunOf lib failing contents scripts (record { history = h; steady = s })

-- Scripts of at most sixteen processes have a run, whatever the library, whichever initialisations fail and whatever objects
-- hold: that of the first process to its end, then of the next, and so on.
abbrev pub ScriptsHaveARun : Type 0
ScriptsHaveARun =
    (lib : Library) (failing : Failing) (contents : Held) (scripts : List Script) → length scripts ≤ MAX_PROCESSES →
    AllByRecursion (λ (s : Script). AllByRecursion FitsPlace s.commands) scripts → (run : Run) × IsRunOf lib failing contents scripts run
