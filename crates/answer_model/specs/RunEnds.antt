-- How a call of the program ends: with `run FILE` by the run, with `check FILE TRANSCRIPT` by the check, with all other words as a call
-- of the tool.
use Rattle.std.specs.Prelude.{◌≡◌, ◌⊎◌, ℕ, ◌<◌, ◌≤◌, List, [], ◌∷◌, ◌++◌, Option, Some, None, IfSome}
use Rattle.std.specs.List.{AllByRecursion}
use Rattle.std.specs.Io.KnownBytes.{Appends}
use Rattle.lx_ports.specs.Calls.{Call, load_faults}
use Rattle.lx_ports.specs.Counts.{Rose}
use Rattle.lx_ports.specs.Files.{FilesState}
use Rattle.lx_ports.specs.Sinks.{SinkState}
use Rattle.session_model.specs.declared.sessions.Session.{Session}
use Rattle.session_model.specs.Runs.{Run}
use Rattle.answer_model.specs.declared.said.Said.{Said}
use Rattle.answer_model.specs.Answer.{IsSound}
use Rattle.answer_model.specs.CheckAnswer.{CheckWords, check_of}
use Rattle.answer_model.specs.CheckEnds.{CheckEnds}
use Rattle.answer_model.specs.Ends.{AppendsPart, Ends, IsStatus, IsTold}
use Rattle.answer_model.specs.Loading.{AreBegun, IsLoadWith, IsRead}
use Rattle.answer_model.specs.Items.{session}
use Rattle.answer_model.specs.RunAnswer.{SaysRun, asked_lines, asked_session, run_of}

-- ---- the calls

-- The session's file is loaded; where it was read, the first of the files that its module lines name, each once for each
-- time that it is named, in their order, all but the last of which were read. Nothing is saved.
abbrev pub AreCallsOfRun : List ℕ → List Call → Type 0
AreCallsOfRun file [] = Unit {0}
AreCallsOfRun file (call ∷ []) = IsLoadWith (asked_session file) call (λ answer. Unit {0})
AreCallsOfRun file (call ∷ next ∷ calls) =
    (s : Session) × IsRead (asked_session file) call (session s) × AreBegun (asked_lines s.modules) (next ∷ calls)

-- ---- the end

-- What was said, all of which was put; with 0 that is the transcript of what ran.
pub record IsPutByRun (file : List ℕ) (calls : List Call) (out out_now : SinkState) (status : ℕ) (ran : Option Run) : Type 0 where
  pub text : List ℕ
  pub says : SaysRun file calls (record { status = status; text = text }) ran
  pub put : Appends out.contents out_now.contents text

-- What was to be said, the transcript of what ran or a line, of which the sink took a part alone before it failed.
pub record IsCutOffByRun (file : List ℕ) (calls : List Call) (out out_now : SinkState) (ran : Option Run) : Type 0 where
  pub said : Said
  pub says : SaysRun file calls said ran
  pub part : AppendsPart out.contents out_now.contents said.text
  pub failed : Rose out.faults out_now.faults

-- A call with `run FILE` ended with this status, and this is what ran, by what the files and the sink tell before it and
-- after it.
pub record RunEnds (file : List ℕ) (files files_now : FilesState) (out out_now : SinkState) (status : ℕ) (ran : Option Run)
    : Type 0 where
  -- there is no other status, and `run FILE` is a command
  pub known : IsStatus status
  pub usage : status ≡ 2 → ⊥
  -- the loads that the files had, of just what the session names
  pub calls : List Call
  pub had : files_now ≡ record { contents = files.contents; calls = files.calls ++ calls }
  pub named : AreCallsOfRun file calls
  pub told : IfSome files.contents (λ contents. AllByRecursion (IsTold contents) calls)
  -- with 0, 1 and 3 the whole text was put
  pub whole : status ≤ 3 → IsPutByRun file calls out out_now status ran
  -- 3 comes where a load has failed
  pub read_failed : status ≡ 3 → 0 < load_faults calls
  -- 4 comes where the sink has failed, and what was put is the front of what was to be said
  pub write_failed : status ≡ 4 → IsCutOffByRun file calls out out_now ran
  -- with 8 there was no memory, and nothing was put; scripts may have run, of which nothing is handed back
  pub nothing : status ≡ 8 → (out_now.contents ≡ out.contents) × (ran ≡ None)
  -- over told files, where nothing failed, the answer is that of what they have, unless memory ran out
  pub complete : load_faults calls ≡ 0 → (Rose out.faults out_now.faults → ⊥)
      → IfSome files.contents (λ contents. (status ≡ 8) ⊎ AllByRecursion (IsSound contents) calls × IsPutByRun file calls out out_now status ran)

-- Without a run.
abbrev pub EndsUnrun : Option CheckWords → List (List ℕ) → FilesState → FilesState → SinkState → SinkState → ℕ → Type 0
EndsUnrun (Some check) words files files_now out out_now status = CheckEnds check files files_now out out_now status
EndsUnrun None words files files_now out out_now status = Ends words files files_now out out_now status

abbrev pub EndsBy : Option (List ℕ) → List (List ℕ) → FilesState → FilesState → SinkState → SinkState → ℕ → Option Run → Type 0
EndsBy (Some file) words files files_now out out_now status ran = RunEnds file files files_now out out_now status ran
EndsBy None words files files_now out out_now status ran = EndsUnrun (check_of words) words files files_now out out_now status × (ran ≡ None)

-- With `run FILE` a session runs. With all other words nothing does: with `check FILE TRANSCRIPT` a transcript is checked, and else the
-- call ends as one of the tool.
abbrev pub MainEnds : List (List ℕ) → FilesState → FilesState → SinkState → SinkState → ℕ → Option Run → Type 0
MainEnds words files files_now out out_now status ran = EndsBy (run_of words) words files files_now out out_now status ran
