-- What `run` does, and what it puts.
use Rattle.std.specs.Prelude.{◌≡◌, ◌⊎◌, ℕ, List, ◌++◌, Option, Some, None, Result, IfOk, IfSome}
use Rattle.std.specs.Io.KnownBytes.{Appends}
use Rattle.lx_types.specs.declared.fail.NoMemory.{NoMemory}
use Rattle.lx_ports.specs.Calls.{Call}
use Rattle.lx_ports.specs.Counts.{Rose}
use Rattle.lx_ports.specs.Files.{FilesState}
use Rattle.lx_ports.specs.Sinks.{SinkState}
use Rattle.run_model.specs.BuiltModules.{AreOfLinks}
use Rattle.run_core.specs.declared.session.Ran.{Ran}
use Rattle.run_core.specs.Sessions.{run_in}
use Rattle.answer_model.specs.declared.said.Said.{Said}
use Rattle.refusal_text.specs.declared.refused.Refused.{Refused}
use Rattle.refusal_text.specs.Refusals.{said_of}
use Rattle.answer_model.specs.Ends.{AppendsPart}
use Rattle.answer_model.specs.RunAnswer.{IsThrough, SaysRun}
use Rattle.answer_model.specs.RunEnds.{AreCallsOfRun}
use Rattle.tool_read.specs.Steps.{AreLoads}
use Rattle.lx_tool.specs.declared.main_call.Ended.{Ended}
use Rattle.lx_tool.specs.declared.run.SessionEnd.{SessionEnd}
use Rattle.lx_tool.specs.declared.run.SessionEnd.TheVariants as end

-- ---- what it comes to

-- what is said: of scripts that ran, their transcript
abbrev pub end_said : SessionEnd → Said
end_said (end.Refused told) = told.said
end_said (end.Ran ran library) = record { status = 0; text = ran.text }

abbrev pub ran_of : SessionEnd → Option Ran
ran_of (end.Refused told) = None
ran_of (end.Ran ran library) = Some ran

-- These calls say that it ran; and each module that was built for it is, in the library over which it ran, what its link is.
pub record RanOver (file : List ℕ) (calls : List Call) (ran : Ran) : Type 0 where
  pub through : IsThrough file calls (record { status = 0; text = ran.text }) (Some (run_in ran))
  pub links : AreOfLinks through.says.sources

-- What ran in a call is what its own loads say, whatever the files are.
pub record RanFrom (file : List ℕ) (before now : FilesState) (ran : Ran) : Type 0 where
  pub calls : List Call
  pub had : now ≡ record { contents = before.contents; calls = before.calls ++ calls }
  pub over : RanOver file calls ran

abbrev pub RanByLoads : Option (List ℕ) → FilesState → FilesState → Option Ran → Type 0
RanByLoads (Some file) before now ran = IfSome ran (RanFrom file before now)
RanByLoads None before now ran = Unit {0}

-- It is what these calls say, with what ran.
abbrev pub SaysEnd : List ℕ → List Call → SessionEnd → Type 0
SaysEnd file calls (end.Refused told) = SaysRun file calls told.said None
SaysEnd file calls (end.Ran ran library) = RanOver file calls ran

-- Between two moments the files had loads alone, of just what the session names; and by their answers it comes to this,
-- where there was memory.
pub record DoesRun (file : List ℕ) (before now : FilesState) (result : Result SessionEnd NoMemory) : Type 0 where
  pub calls : List Call
  pub loads : AreLoads calls before now
  pub named : AreCallsOfRun file calls
  pub says : IfOk result (SaysEnd file calls)

-- ---- what is put

pub record IsPutWhole (said : Said) (out out_now : SinkState) (status : ℕ) : Type 0 where
  pub status_is : status ≡ said.status
  pub put : Appends out.contents out_now.contents said.text

pub record IsPutInPart (said : Said) (out out_now : SinkState) (status : ℕ) : Type 0 where
  pub status_is : status ≡ 4
  pub part : AppendsPart out.contents out_now.contents said.text
  pub failed : Rose out.faults out_now.faults

-- The whole text was put, or a part before the sink failed.
abbrev pub Puts : Said → SinkState → SinkState → ℕ → Type 0
Puts said out out_now status = IsPutWhole said out out_now status ⊎ IsPutInPart said out out_now status

pub record PutsEnd (it : SessionEnd) (out out_now : SinkState) (ended : Ended) : Type 0 where
  pub ran_is : ended.ran ≡ ran_of it
  pub put : Puts (end_said it) out out_now ended.status

-- Of what was refused the line was put, which is its text: whole, with its status, or a part of it, with 4. Where nothing was
-- refused, the status is none of a refusal.
abbrev pub Tells : Option Refused → SinkState → SinkState → ℕ → Type 0
Tells (Some refused) out out_now status = Puts (said_of refused) out out_now status
Tells None out out_now status = (status ≡ 0) ⊎ (status ≡ 2) ⊎ (status ≡ 4) ⊎ (status ≡ 8)

-- ---- what is shown of what ran

-- There is what ran, and its text was put.
abbrev pub IsShown : SinkState → SinkState → Option Ran → Type 0
IsShown out out_now (Some ran) = Appends out.contents out_now.contents ran.text
IsShown out out_now None = ⊥

-- With 0 there is what ran, whose text was put whole. With 4 a part of its text was put, where there is what ran. With all
-- other statuses nothing that ran is handed back: with 8 memory may have run out after scripts ran.
pub record ShowsSession (out out_now : SinkState) (ended : Ended) : Type 0 where
  pub whole : ended.status ≡ 0 → IsShown out out_now ended.ran
  pub part : ended.status ≡ 4 → IfSome ended.ran (λ ran. AppendsPart out.contents out_now.contents ran.text)
  pub nothing : (ended.status ≡ 0 → ⊥) → (ended.status ≡ 4 → ⊥) → ended.ran ≡ None

-- Without a session nothing ran.
abbrev pub ShowsRun : Option (List ℕ) → SinkState → SinkState → Ended → Type 0
ShowsRun (Some file) out out_now ended = ShowsSession out out_now ended
ShowsRun None out out_now ended = ended.ran ≡ None
