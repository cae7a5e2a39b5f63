-- A session's file, and what is done after it.
use Rattle.std.proofs.Common.{◌≡◌, ℕ, ◌<◌, ◌^◌, List, [], ◌∷◌, length, Result, Ok, Err, sym, subst, refl, inl, inr}
use Rattle.std.specs.Prelude.{All}
use Rattle.lx_types.specs.declared.fail.Fail.{Fail}
use Rattle.lx_types.specs.declared.fail.Fail.TheVariants as fail
use Rattle.lx_model.specs.Module as lx
use Rattle.lx_ports.specs.Calls.{Call, load}
use Rattle.lx_ports.specs.Files.{FilesState}
use Rattle.lx_ports.specs.declared.files.LoadFault.{LoadFault}
use Rattle.session_model.specs.declared.sessions.Session.{Session}
use Rattle.refusal_text.specs.declared.refused.Refused.{Refused}
use Rattle.refusal_text.specs.Refusals.{said_of}
use Rattle.answer_model.specs.Loading.{AreBegun, ReadsAnswer, RefusesAnswer}
use Rattle.answer_model.specs.Items.{session, session_file}
use Rattle.answer_model.specs.RunAnswer.{asked_lines, asked_session}
use Rattle.answer_model.specs.RunEnds.{AreCallsOfRun}
use Rattle.tool_read.specs.Readings.{RefusedSo, asked}
use Rattle.tool_read.specs.Steps.{IsOneLoad}
use Rattle.tool_read.proofs.Walk.{loads_joined, one_load, stopped_one}
use Rattle.session_files.specs.declared.reading.SessionFiles.{SessionFiles}
use Rattle.session_files.specs.ModuleLines.{DoesLines, IsKnown}
use Rattle.session_files.specs.SessionFiles.{AnswersSession, ReadsSession}

module _ (file : List ℕ) (answer : Result (List ℕ) LoadFault) where
  -- It was not read.
  pub unread : (before now : FilesState) (why : Fail Refused) → IsOneLoad file answer before now → RefusedSo (RefusesAnswer (asked session_file file) answer) why → ReadsSession file before now (Err why)
  unread before now why one is = record { calls = load file answer ∷ []; loads = one_load file answer before now one; named = (refl, tt); answer = by_reason why is }
    where
      by_reason : (why : Fail Refused) → RefusedSo (RefusesAnswer (asked session_file file) answer) why → AnswersSession file (load file answer ∷ []) (Err why)
      by_reason (fail.Said refused) is = inl (refl, stopped_one (asked_session file) [] answer (said_of refused) is)
      by_reason fail.NoMemory is = tt

  named_after : (s : Session) (calls : List Call) → ReadsAnswer (asked session_file file) answer (session s) → AreBegun (asked_lines s.modules) calls → AreCallsOfRun file (load file answer ∷ calls)
  named_after s [] is begun = (refl, tt)
  named_after s (next ∷ calls) is begun = (s, (refl, is), begun)

  -- A module line was stopped.
  pub stopped : (s : Session) (before between now : FilesState) (why : Fail Refused) → IsOneLoad file answer before between → ReadsAnswer (asked session_file file) answer (session s) → DoesLines s.modules between now (Err why)
      → ReadsSession file before now (Err why)
  stopped s before between now why one is lines = record {
    calls = load file answer ∷ lines.calls;
    loads = loads_joined (load file answer ∷ []) lines.calls before between now (one_load file answer before between one) lines.loads;
    named = named_after s lines.calls is lines.begun;
    answer = by_reason why lines;
  }
    where
      by_reason : (why : Fail Refused) (own : DoesLines s.modules between now (Err why)) → AnswersSession file (load file answer ∷ own.calls) (Err why)
      by_reason (fail.Said refused) own =
          inr (record { session_is = s; first = load file answer; read = (refl, is); others = own.calls; says = inl own.answer; calls_are = refl })
      by_reason fail.NoMemory own = tt

  -- All lines were done.
  pub done : (before between now : FilesState) (it : SessionFiles) → IsOneLoad file answer before between → ReadsAnswer (asked session_file file) answer (session it.session) → IsKnown it.session
      → DoesLines it.session.modules between now (Ok it.modules.items) → All lx.IsRead it.modules.items → length it.modules.items ≡ length it.session.modules → ReadsSession file before now (Ok it)
  done before between now it one is is_known lines whole count = record {
    calls = load file answer ∷ lines.calls;
    loads = loads_joined (load file answer ∷ []) lines.calls before between now (one_load file answer before between one) lines.loads;
    named = named_after it.session lines.calls is lines.begun;
    answer = record {
      first = load file answer;
      read = (refl, is);
      others = lines.calls;
      sources = lines.answer.sources;
      given = lines.answer.given;
      calls_are = refl;
      modules = lines.answer.modules_are;
      whole = whole;
      few = subst (λ n. n < 2 ^ 32) (sym count) is_known.few;
      sound = lines.answer.sound;
      bounded = is_known.writable.bounds;
    };
  }
