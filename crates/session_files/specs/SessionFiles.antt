-- What a call answers that reads a session and does its module lines.
use Rattle.std.specs.Prelude.{◌≡◌, ℕ, ◌<◌, ◌^◌, List, ◌∷◌, None, Result, Ok, Err, All, length}
use Rattle.std.specs.List.{AllByRecursion}
use Rattle.lx_types.specs.declared.fail.Fail.{Fail}
use Rattle.lx_types.specs.declared.fail.Fail.TheVariants as fail
use Rattle.lx_model.specs.Module as lx
use Rattle.lx_ports.specs.Calls.{Call}
use Rattle.lx_ports.specs.Files.{FilesState}
use Rattle.run_laws.specs.Bridge.{IsSound}
use Rattle.run_model.specs.Sources.{Source, library_of}
use Rattle.session_model.specs.Bounds.{IsSession}
use Rattle.refusal_text.specs.declared.refused.Refused.{Refused}
use Rattle.refusal_text.specs.Refusals.{said_of}
use Rattle.answer_model.specs.Loading.{IsRead}
use Rattle.answer_model.specs.Items.{session}
use Rattle.answer_model.specs.RunAnswer.{AreGiven, SaysRun, asked_session}
use Rattle.answer_model.specs.RunEnds.{AreCallsOfRun}
use Rattle.tool_read.specs.Steps.{AreLoads}
use Rattle.session_files.specs.declared.reading.SessionFiles.{SessionFiles}

-- The session was read, and its module lines were done: they gave these modules, of these sources, each of which was read
-- and, where it was built, built soundly.
pub record AreSessionFiles (file : List ℕ) (calls : List Call) (it : SessionFiles) : Type 0 where
  pub first : Call
  pub read : IsRead (asked_session file) first (session it.session)
  pub others : List Call
  pub sources : List Source
  pub given : AreGiven it.session.modules others sources
  pub calls_are : calls ≡ first ∷ others
  pub modules : it.modules.items ≡ library_of sources
  pub whole : All lx.IsRead it.modules.items
  pub few : length it.modules.items < 2 ^ 32
  pub sound : AllByRecursion IsSound sources
  pub bounded : IsSession it.session

-- With these calls the files were read and the lines done, or this is said of the first that was not.
abbrev pub AnswersSession : List ℕ → List Call → Result SessionFiles (Fail Refused) → Type 0
AnswersSession file calls (Ok it) = AreSessionFiles file calls it
AnswersSession file calls (Err (fail.Said refused)) = SaysRun file calls (said_of refused) None
AnswersSession file calls (Err fail.NoMemory) = Unit {0}

-- Between two moments the files had these loads, of just what the session names.
pub record ReadsSession (file : List ℕ) (before now : FilesState) (result : Result SessionFiles (Fail Refused)) : Type 0 where
  pub calls : List Call
  pub loads : AreLoads calls before now
  pub named : AreCallsOfRun file calls
  pub answer : AnswersSession file calls result
