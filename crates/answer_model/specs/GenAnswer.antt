-- What `gen N PREFIX` comes to: for each number from 1 to N an object file and a definition file, after them a session, and
-- a line that tells what the modules are when they are linked and loaded. No file is loaded for it.
use Rattle.std.specs.Prelude.{◌≡◌, ℕ, suc, List, [], ◌∷◌, ◌++◌, codes, length, Result, Ok, Err}
use Rattle.std.specs.List.{enumerate_from, flat_map}
use Rattle.lx_ports.specs.Calls.{Call, save}
use Rattle.lx_ports.specs.declared.files.SaveFault.{SaveFault}
use Rattle.omf_model.specs.Object.{Obj}
use Rattle.session_model.specs.Spelling.{session_bytes}
use Rattle.gen_model.specs.declared.totals.Totals.{Totals}
use Rattle.gen_model.specs.Modules.{gen_object, definition_text}
use Rattle.gen_model.specs.Sessions.{gen_session, object_name, definition_name, session_name, numbers}
use Rattle.gen_model.specs.Sums.{AreTotals, totals_line}
use Rattle.answer_model.specs.FileLine.{file_line}
use Rattle.answer_model.specs.Outcome.{Saved}
use Rattle.answer_model.specs.declared.said.Said.{Said}

-- N and PREFIX
pub record GenWords : Type 0 where
  pub count : ℕ
  pub prefix : List ℕ

-- ---- the files

-- Their names in their order: for each number from 1 on an object file and a definition file, and after them a session.
abbrev pub names_of : ℕ → List ℕ → List (List ℕ)
names_of count prefix =
    flat_map (λ k. object_name prefix k ∷ definition_name prefix k ∷ []) (numbers count) ++ session_name prefix ∷ []

-- Files that mean the object modules from k on. Any spelling is one.
abbrev pub AreObjectFiles : ℕ → List (List ℕ) → Type 0
AreObjectFiles k [] = Unit {0}
AreObjectFiles k (bytes ∷ others) = Obj bytes (gen_object k) × AreObjectFiles (suc k) others

abbrev pub module_files : List ℕ → ℕ × List ℕ → List Saved
module_files prefix numbered =
    record { name = object_name prefix numbered.0; bytes = numbered.1 }
    ∷ record { name = definition_name prefix numbered.0; bytes = definition_text numbered.0 } ∷ []

abbrev pub session_file : ℕ → List ℕ → Saved
session_file count prefix = record { name = session_name prefix; bytes = session_bytes (gen_session count prefix) }

-- The files in their order, of which the object files have these bytes.
abbrev pub files_with : GenWords → List (List ℕ) → List Saved
files_with words objects =
    flat_map (module_files words.prefix) (enumerate_from 1 objects) ++ session_file words.count words.prefix ∷ []

-- ---- the answer

pub record GenAnswer (words : GenWords) (files : List Saved) (text : List ℕ) : Type 0 where
  pub objects : List (List ℕ)
  pub each : length objects ≡ words.count
  pub mean : AreObjectFiles 1 objects
  pub files_are : files ≡ files_with words objects
  pub totals : Totals
  pub are : AreTotals words.count totals
  pub told : text ≡ totals_line totals

-- ---- saving, after all that is made

-- Where a save fails, it is the last, and that is said; otherwise the others are saved.
abbrev pub IsSavedWith : (List Call → Said → Type 0) → Saved → Result (Unit {0}) SaveFault → List Call → Said → Type 0
IsSavedWith others saved (Ok _) calls said = others calls said
IsSavedWith others saved (Err _) calls said = (calls ≡ []) × (said ≡ record { status = 4; text = file_line saved.name (codes "write failed") })

-- The files were saved in their order, each once, up to the first that was not. Where all were, the text is said.
abbrev pub SavesInTurn : List Saved → List ℕ → List Call → Said → Type 0
SavesInTurn [] text calls said = (calls ≡ []) × (said ≡ record { status = 0; text = text })
SavesInTurn (saved ∷ others) text [] said = ⊥
SavesInTurn (saved ∷ others) text (call ∷ calls) said =
    (answer : Result (Unit {0}) SaveFault) × (call ≡ save saved.name saved.bytes answer) × IsSavedWith (SavesInTurn others text) saved answer calls said

-- The whole command: what is said, by the answers to its calls.
pub record SaysGen (words : GenWords) (calls : List Call) (said : Said) : Type 0 where
  pub files : List Saved
  pub text : List ℕ
  pub answer : GenAnswer words files text
  pub saves : SavesInTurn files text calls said
