-- How a call with `check FILE TRANSCRIPT` ends.
use Rattle.std.specs.Prelude.{◌≡◌, ◌⊎◌, ℕ, ◌<◌, ◌≤◌, List, [], ◌∷◌, ◌++◌, IfSome}
use Rattle.std.specs.List.{AllByRecursion}
use Rattle.std.specs.Io.KnownBytes.{Appends}
use Rattle.lx_ports.specs.Calls.{Call, load_faults}
use Rattle.lx_ports.specs.Counts.{Rose}
use Rattle.lx_ports.specs.Files.{FilesState}
use Rattle.lx_ports.specs.Sinks.{SinkState}
use Rattle.session_model.specs.declared.sessions.Session.{Session}
use Rattle.answer_model.specs.declared.said.Said.{Said}
use Rattle.answer_model.specs.Answer.{IsSound}
use Rattle.answer_model.specs.CheckAnswer.{CheckWords, SaysCheck, asked_transcript}
use Rattle.answer_model.specs.Ends.{AppendsPart, IsStatus, IsTold}
use Rattle.answer_model.specs.Loading.{AreBegun, IsLoadWith, IsRead}
use Rattle.answer_model.specs.Items.{session}
use Rattle.answer_model.specs.RunAnswer.{asked_lines, asked_session}

-- The session's file is loaded; where it was read, the first of the files that its module lines name and, after all of them, of the
-- transcript, each once for each time that it is named, in their order, all but the last of which were read. Nothing is saved.
abbrev pub AreCallsOfCheck : CheckWords → List Call → Type 0
AreCallsOfCheck words [] = Unit {0}
AreCallsOfCheck words (call ∷ []) = IsLoadWith (asked_session words.session) call (λ answer. Unit {0})
AreCallsOfCheck words (call ∷ next ∷ calls) =
    (s : Session) × IsRead (asked_session words.session) call (session s)
    × AreBegun (asked_lines s.modules ++ asked_transcript words.transcript ∷ []) (next ∷ calls)

-- What was said, all of which was put.
pub record IsPutByCheck (words : CheckWords) (calls : List Call) (out out_now : SinkState) (status : ℕ) : Type 0 where
  pub text : List ℕ
  pub says : SaysCheck words calls (record { status = status; text = text })
  pub put : Appends out.contents out_now.contents text

-- What was to be said, of which the sink took a part alone before it failed.
pub record IsCutOffByCheck (words : CheckWords) (calls : List Call) (out out_now : SinkState) : Type 0 where
  pub said : Said
  pub says : SaysCheck words calls said
  pub part : AppendsPart out.contents out_now.contents said.text
  pub failed : Rose out.faults out_now.faults

-- The call ended with this status, by what the files and the sink tell before it and after it.
pub record CheckEnds (words : CheckWords) (files files_now : FilesState) (out out_now : SinkState) (status : ℕ) : Type 0 where
  -- there is no other status, and `check FILE TRANSCRIPT` is a command
  pub known : IsStatus status
  pub usage : status ≡ 2 → ⊥
  -- the loads that the files had, of just what the words and the session name
  pub calls : List Call
  pub had : files_now ≡ record { contents = files.contents; calls = files.calls ++ calls }
  pub named : AreCallsOfCheck words calls
  pub told : IfSome files.contents (λ contents. AllByRecursion (IsTold contents) calls)
  -- with 0, 1 and 3 the whole text was put
  pub whole : status ≤ 3 → IsPutByCheck words calls out out_now status
  -- 3 comes where a load has failed, and 4 where the sink has
  pub read_failed : status ≡ 3 → 0 < load_faults calls
  pub write_failed : status ≡ 4 → IsCutOffByCheck words calls out out_now
  -- with 8 there was no memory, and nothing was put
  pub nothing : status ≡ 8 → out_now.contents ≡ out.contents
  -- over told files, where nothing failed, the answer is that of what they have, unless memory ran out
  pub complete : load_faults calls ≡ 0 → (Rose out.faults out_now.faults → ⊥)
      → IfSome files.contents (λ contents. (status ≡ 8) ⊎ AllByRecursion (IsSound contents) calls × IsPutByCheck words calls out out_now status)
