-- The run of a session: what happened, and what each script was answered.
use Rattle.std.specs.Prelude.{ℕ, List}
use Rattle.load_model.specs.declared.deeds.Entry.{Entry}
use Rattle.load_model.specs.Modules.{Library, Held}
use Rattle.load_model.specs.State.{Failing}
use Rattle.load_model.specs.Histories.{Legal}
use Rattle.session_model.specs.declared.sessions.Script.{Script}
use Rattle.session_model.specs.declared.sessions.ScriptLines.{ScriptLines}
use Rattle.session_model.specs.Merging.{Merge}
use Rattle.session_model.specs.Transcript.{Transcript}

-- a history, and the steady lines of each script
pub record Run : Type 0 where
  pub history : List Entry
  pub steady : List ScriptLines

-- It is a run of these scripts: the history is what the loader with one thread does, and the two merge the scripts.
pub record IsRunOf (lib : Library) (failing : Failing) (contents : Held) (scripts : List Script) (run : Run) : Type 0 where
  pub legal : Legal lib failing contents run.history
  pub merge : Merge lib failing contents run.history run.steady scripts

-- its text
abbrev pub run_text : Library → Run → List ℕ
run_text lib run = Transcript lib run.history run.steady
