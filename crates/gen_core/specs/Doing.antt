-- What the generator does to the files that it is handed.
use Rattle.std.specs.Prelude.{◌≡◌, ℕ, List, [], ◌∷◌, ◌++◌, OnOk, MatchOption, Result, Ok, Err, codes, string_bytes}
use Rattle.lx_types.specs.declared.fail.NoMemory.{NoMemory}
use Rattle.lx_ports.specs.Calls.{Call, save}
use Rattle.lx_ports.specs.Files.{FilesState, IsSaved, KeepsOthers}
use Rattle.lx_ports.specs.declared.files.SaveFault.{SaveFault}
use Rattle.answer_model.specs.declared.said.Said.{Said}
use Rattle.answer_model.specs.Ends.{Holds}
use Rattle.answer_model.specs.GenAnswer.{GenWords, SavesInTurn, SaysGen}
use Rattle.answer_model.specs.FileLine.{file_line}
use Rattle.answer_model.specs.Outcome.{Saved}
use Rattle.gen_core.specs.declared.saving.Made.{Made}

-- A file was asked to be saved, with this answer.
pub record AsksSave (before now : FilesState) (file : Saved) (answer : Result (Unit {0}) SaveFault) : Type 0 where
  pub saved : OnOk answer (IsSaved before.contents now.contents file.name file.bytes)
  pub others : KeepsOthers before.contents now.contents file.name
  pub had : now.calls ≡ before.calls ++ save file.name file.bytes answer ∷ []

-- These files were saved, up to the first that was not, and this is said.
pub record Saves (files : List Saved) (text : List ℕ) (before now : FilesState) (said : Said) : Type 0 where
  pub saves : List Call
  pub says : SavesInTurn files text saves said
  pub had : now.calls ≡ before.calls ++ saves
  pub held : Holds before.contents saves now.contents

pub record Generates (words : GenWords) (before now : FilesState) (said : Said) : Type 0 where
  pub saves : List Call
  pub says : SaysGen words saves said
  pub had : now.calls ≡ before.calls ++ saves
  pub held : Holds before.contents saves now.contents

-- Where there was no memory, the files had no call.
abbrev pub DoesGen : GenWords → FilesState → FilesState → Result Said NoMemory → Type 0
DoesGen words before now (Ok said) = Generates words before now said
DoesGen words before now (Err _) = now ≡ before

abbrev pub said_in : Result Made NoMemory → Result Said NoMemory
said_in (Ok made) = Ok made.said
said_in (Err why) = Err why

-- All is said with 0, or there is a file that was not saved, which is said.
abbrev pub NamesUnsaved : Made → Type 0
NamesUnsaved made =
    MatchOption made.unsaved (made.said.status ≡ 0) (λ name. made.said ≡ record { status = 4; text = file_line (string_bytes name) (codes "write failed") })
