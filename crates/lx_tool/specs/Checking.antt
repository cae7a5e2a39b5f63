-- What `check` does.
use Rattle.std.specs.Prelude.{◌⊎◌, ℕ, List, ◌++◌, Result, IfOk}
use Rattle.lx_types.specs.declared.fail.NoMemory.{NoMemory}
use Rattle.lx_ports.specs.Calls.{Call, load}
use Rattle.lx_ports.specs.Files.{FilesState}
use Rattle.lx_ports.specs.declared.files.LoadFault.{LoadFault}
use Rattle.check_model.specs.Checks.{Judge}
use Rattle.answer_model.specs.CheckAnswer.{Accepts, CheckWords, IsJudged, Refuses, SaysCheck, asked_transcript}
use Rattle.answer_model.specs.CheckEnds.{AreCallsOfCheck}
use Rattle.answer_model.specs.Loading.{IsRefused}
use Rattle.answer_model.specs.declared.said.Said.{Said}
use Rattle.tool_read.specs.Steps.{AreLoads, IsOneLoad}
use Rattle.file_commands.specs.declared.told.Told.{Told}

-- Bytes are accepted or refused.
abbrev pub JudgesAs : Judge → List ℕ → List ℕ → Said → Type 0
JudgesAs j name bytes said = Accepts j bytes said ⊎ Refuses j name bytes said

-- The transcript was not loaded, which is said; or it was judged.
abbrev pub JudgesLoad : Judge → List ℕ → Call → Said → Type 0
JudgesLoad j name call said = IsRefused (asked_transcript name) call said ⊎ IsJudged j name call said

-- Between two moments the files had one load, of the transcript, and this is said by its answer, where there was memory.
pub record JudgesFile (j : Judge) (name : List ℕ) (before now : FilesState) (result : Result Told NoMemory) : Type 0 where
  pub answer : Result (List ℕ) LoadFault
  pub one : IsOneLoad name answer before now
  pub says : IfOk result (λ told. JudgesLoad j name (load name answer) told.said)

-- After the calls by which the session was read and its module lines were done the files had these, and by all of them this is said.
pub record JudgesRest (file name : List ℕ) (earlier : List Call) (before now : FilesState) (result : Result Told NoMemory) : Type 0 where
  pub calls : List Call
  pub loads : AreLoads calls before now
  pub named : AreCallsOfCheck (record { session = file; transcript = name }) (earlier ++ calls)
  pub says : IfOk result (λ told. SaysCheck (record { session = file; transcript = name }) (earlier ++ calls) told.said)

-- Between two moments the files had loads alone, of just what the words and the session name; and by their answers this is said,
-- where there was memory.
pub record DoesCheck (words : CheckWords) (before now : FilesState) (result : Result Told NoMemory) : Type 0 where
  pub calls : List Call
  pub loads : AreLoads calls before now
  pub named : AreCallsOfCheck words calls
  pub says : IfOk result (λ told. SaysCheck words calls told.said)
