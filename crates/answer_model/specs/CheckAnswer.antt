-- What `check FILE TRANSCRIPT` says, by the answers to its calls. The session is loaded and read, its module lines are done, and its
-- modules are gathered, as `run` does it; then the transcript is loaded, and judged against the session. Nothing is saved.
use Rattle.std.specs.Prelude.{◌≡◌, ◌⊎◌, ℕ, List, [], ◌∷◌, ◌++◌, codes, decimal, Option, Some, None, if◌then◌else◌}
use Rattle.std.specs.Str.{bytes_eq}
use Rattle.lx_ports.specs.Calls.{Call}
use Rattle.lx_model.specs.Gathering.{LibraryFault}
use Rattle.session_model.specs.declared.sessions.Session.{Session}
use Rattle.session_model.specs.FailingPairs.{failing_pairs}
use Rattle.run_model.specs.Sources.{Source, held, library_of}
use Rattle.check_model.specs.declared.kinds.CheckFault.{CheckFault}
use Rattle.check_model.specs.declared.kinds.CheckKind.{CheckKind}
use Rattle.check_model.specs.declared.kinds.CheckKind.TheVariants as kinds
use Rattle.check_model.specs.declared.kinds.Counts.{Counts}
use Rattle.check_model.specs.Told.{Told}
use Rattle.check_model.specs.Checks.{Judge, IsAccepted, IsRefused as IsWrong}
use Rattle.answer_model.specs.AskedFiles.{Asked}
use Rattle.answer_model.specs.FileLine.{file_line}
use Rattle.answer_model.specs.FileRefusals.{at_line}
use Rattle.answer_model.specs.Items.{raw, raw_file, session}
use Rattle.answer_model.specs.Loading.{IsRead, IsRefused}
use Rattle.answer_model.specs.RunAnswer.{AreGiven, SaysRun, asked_session}
use Rattle.answer_model.specs.declared.said.Said.{Said}

-- ---- the words

-- the files of a session and of a transcript
pub record CheckWords : Type 0 where
  pub session : List ℕ
  pub transcript : List ℕ

-- `check FILE TRANSCRIPT`
abbrev pub check_of : List (List ℕ) → Option CheckWords
check_of (word ∷ file ∷ transcript ∷ []) = if bytes_eq word (codes "check") then Some (record { session = file; transcript = transcript }) else None
check_of _ = None

-- ---- texts

abbrev pub check_kind : CheckKind → List ℕ
check_kind kinds.Text = codes "Text"
check_kind kinds.Scripts = codes "Scripts"
check_kind kinds.Front = codes "Front"
check_kind kinds.Command = codes "Command"
check_kind kinds.Refused = codes "Refused"
check_kind kinds.Entry = codes "Entry"
check_kind kinds.Fault = codes "Fault"
check_kind kinds.Touch = codes "Touch"
check_kind kinds.Reply = codes "Reply"
check_kind kinds.Count = codes "Count"

-- `line N KIND`
abbrev pub check_text : CheckFault → List ℕ
check_text fault = at_line fault.line (check_kind fault.kind)

-- `ok processes N entries E faults F`
abbrev pub ok_line : Counts → List ℕ
ok_line c =
    codes "ok processes " ++ (decimal c.processes ++ (codes " entries " ++ (decimal c.entries ++ (codes " faults " ++ (decimal c.faults ++ 10 ∷ [])))))

-- ---- the judgement

-- A transcript is judged over the modules of the session, by what was taken and what was built.
abbrev pub judge_of : Session → List Source → Judge
judge_of s sources = record {
  lib = library_of sources;
  failing = failing_pairs (library_of sources) s;
  contents = held sources;
  scripts = s.scripts;
}

-- The bytes are the transcript of a run of the session: nothing is wrong in what they tell.
pub record Accepts (j : Judge) (bytes : List ℕ) (said : Said) : Type 0 where
  pub told : Told
  pub accepted : IsAccepted j bytes told
  pub line : said ≡ record { status = 0; text = ok_line told.counts }

-- They are no text of a transcript, or tell what is no run of the session: this is wrong first.
pub record Refuses (j : Judge) (name bytes : List ℕ) (said : Said) : Type 0 where
  pub fault : CheckFault
  pub wrong : IsWrong j bytes fault.line fault.kind
  pub told : said ≡ record { status = 1; text = file_line name (check_text fault) }

-- ---- the whole command

abbrev pub asked_transcript : List ℕ → Asked
asked_transcript name = record { kind = raw_file; name = name }

-- The transcript was loaded, and judged.
pub record IsJudged (j : Judge) (name : List ℕ) (call : Call) (said : Said) : Type 0 where
  pub bytes : List ℕ
  pub read : IsRead (asked_transcript name) call (raw bytes)
  pub judged : Accepts j bytes said ⊎ Refuses j name bytes said

-- The session was read and its modules are a library, with the calls before the last, which is the load of the transcript.
pub record IsCheck (words : CheckWords) (calls : List Call) (said : Said) : Type 0 where
  pub session_is : Session
  pub first : Call
  pub read : IsRead (asked_session words.session) first (session session_is)
  pub others : List Call
  pub sources : List Source
  pub given : AreGiven session_is.modules others sources
  pub fine : LibraryFault (library_of sources) ≡ None
  pub last : Call
  pub says : IsRefused (asked_transcript words.transcript) last said ⊎ IsJudged (judge_of session_is sources) words.transcript last said
  pub calls_are : calls ≡ first ∷ others ++ last ∷ []

-- The session, a file that it names, a link or its library was refused, as `run` tells it, and the transcript was not loaded; or it was.
abbrev pub SaysCheck : CheckWords → List Call → Said → Type 0
SaysCheck words calls said = SaysRun words.session calls said None ⊎ IsCheck words calls said
