-- How a call of the tool ends.
use Rattle.std.specs.Prelude.{◌≡◌, ℕ, ◌<◌, ◌≤◌, ◌⊎◌, Bool, true, false, List, [], ◌∷◌, ◌++◌, length, take, Option, Some, None, Ok, Err, IfSome, count_by}
use Rattle.std.specs.List.{AllByRecursion}
use Rattle.std.specs.Io.KnownBytes.{Appends}
use Rattle.lx_ports.specs.Calls.{Call, load, save, load_faults}
use Rattle.lx_ports.specs.Counts.{Rose}
use Rattle.lx_ports.specs.Files as files
use Rattle.lx_ports.specs.Files.{Contents, FilesState, IsLoadOf, KeepsOthers}
use Rattle.lx_ports.specs.Sinks.{SinkState}
use Rattle.answer_model.specs.Answer.{Answer, saves_in}
use Rattle.answer_model.specs.GenAnswer.{names_of}
use Rattle.answer_model.specs.Loading.{AreBegun, file_limit}
use Rattle.answer_model.specs.Says.{Says, asked_files}
use Rattle.answer_model.specs.Words.{Command, command_of, image, link, implib, bind, gen, dump, link_map, memory, show}
use Rattle.answer_model.specs.declared.said.Said.{Said}

-- The statuses with which the program ends.
abbrev pub IsStatus : ℕ → Type 0
IsStatus status = (status ≤ 4) ⊎ (status ≡ 8)

-- ---- the calls

abbrev pub is_failed_save : Call → Bool
is_failed_save (save name bytes (Err _)) = true
is_failed_save _ = false

-- How often a save has failed.
abbrev pub save_faults : List Call → ℕ
save_faults calls = count_by is_failed_save calls

-- The files that a command saves, in their order.
abbrev pub outputs_of : Command → List (List ℕ)
outputs_of (image object base) = []
outputs_of (link out definition inputs) = out ∷ []
outputs_of (implib out inputs) = out ∷ []
outputs_of (bind out target resources) = out ∷ []
outputs_of (gen count prefix) = names_of count prefix
outputs_of (dump file) = []
outputs_of (link_map definition inputs) = []
outputs_of (memory modules) = []
outputs_of (show file) = []

-- Saves of the first of these files, each once, in their order, of which all but the last were good.
abbrev pub AreSaves : List (List ℕ) → List Call → Type 0
AreSaves outputs [] = Unit {0}
AreSaves (output ∷ outputs) (save name bytes answer ∷ []) = name ≡ output
AreSaves (output ∷ outputs) (save name bytes answer ∷ next ∷ calls) = (name ≡ output) × (answer ≡ Ok tt) × AreSaves outputs (next ∷ calls)
AreSaves _ _ = ⊥

-- One load of each of the first files that the command names, in their order, all but the last of which were read; and
-- after the loads the saves of its outputs.
pub record IsCalledBy (command : Command) (calls : List Call) : Type 0 where
  pub loads : List Call
  pub begun : AreBegun (asked_files command) loads
  pub saves : List Call
  pub saved : AreSaves (outputs_of command) saves
  pub are : calls ≡ loads ++ saves

abbrev pub AreCallsOf : Option Command → List Call → Type 0
AreCallsOf None calls = calls ≡ []
AreCallsOf (Some command) calls = IsCalledBy command calls

-- A load's answer is one by what its name has.
abbrev pub IsTold : Contents → Call → Type 0
IsTold contents (load name answer) = IsLoadOf (contents name) file_limit answer
IsTold contents (save name bytes answer) = Unit {0}

-- What files have after calls, where it is told: loads change nothing; a save gives its name these bytes, or anything
-- where it fails, and all other names keep what they had.
pub record IsAfterSave (before : Option Contents) (name bytes : List ℕ) (failed : Bool) (now : Option Contents) : Type 0 where
  pub saved : failed ≡ false → files.IsSaved before now name bytes
  pub others : KeepsOthers before now name

abbrev pub Holds : Option Contents → List Call → Option Contents → Type 0
Holds before [] now = now ≡ before
Holds before (load name answer ∷ calls) now = Holds before calls now
Holds before (save name bytes answer ∷ calls) now =
    (between : Option Contents) × IsAfterSave before name bytes (is_failed_save (save name bytes answer)) between × Holds between calls now

-- ---- the text

-- Some of the text from its front on was put, and not all.
abbrev pub AppendsPart : Option (List ℕ) → Option (List ℕ) → List ℕ → Type 0
AppendsPart before now text = (n : ℕ) × (n < length text) × Appends before now (take n text)

-- ---- the end

-- What was said, all of which was put; or what was to be said, of which the sink took a part alone before it failed.
pub record IsPut (words : List (List ℕ)) (calls : List Call) (out out_now : SinkState) (status : ℕ) : Type 0 where
  pub text : List ℕ
  pub says : Says words calls (record { status = status; text = text })
  pub put : Appends out.contents out_now.contents text

pub record IsCutOff (words : List (List ℕ)) (calls : List Call) (out out_now : SinkState) : Type 0 where
  pub said : Said
  pub says : Says words calls said
  pub part : AppendsPart out.contents out_now.contents said.text
  pub failed : Rose out.faults out_now.faults

-- Over told files the answer is that of what they have, unless memory ran out.
pub record IsAnswered (words : List (List ℕ)) (contents : Contents) (calls : List Call) (out out_now : SinkState) (status : ℕ)
    : Type 0 where
  pub text : List ℕ
  pub answer : Answer words contents (saves_in calls) (record { status = status; text = text })
  pub put : Appends out.contents out_now.contents text

-- A call with these words ended with this status, by what the files and the sink tell before it and after it.
pub record Ends (words : List (List ℕ)) (files files_now : FilesState) (out out_now : SinkState) (status : ℕ)
    : Type 0 where
  -- there is no other status
  pub known : IsStatus status
  -- the calls that the files had
  pub calls : List Call
  pub had : files_now.calls ≡ files.calls ++ calls
  -- just the files that the words name were loaded, and at most the outputs were saved
  pub named : AreCallsOf (command_of words) calls
  pub told : IfSome files.contents (λ contents. AllByRecursion (IsTold contents) calls)
  pub held : Holds files.contents calls files_now.contents
  -- with 0 to 3 the whole text was put: what the words say by the answers to the calls
  pub whole : status ≤ 3 → IsPut words calls out out_now status
  -- 2 comes where the words are no command, and 3 where a load has failed
  pub usage : status ≡ 2 → command_of words ≡ None
  pub read_failed : status ≡ 3 → 0 < load_faults calls
  -- 4 comes where a save has failed, and the line of that was put whole; or where the sink has failed, and what was put
  -- is the front of what was to be said
  pub write_failed : status ≡ 4 → ((0 < save_faults calls) × IsPut words calls out out_now 4) ⊎ IsCutOff words calls out out_now
  -- with 1, 2, 3 and 8 nothing was saved
  pub unsaved : (1 ≤ status) × (status ≤ 3) ⊎ (status ≡ 8) → saves_in calls ≡ []
  -- with 8 there was no memory, and nothing was put
  pub nothing : status ≡ 8 → out_now.contents ≡ out.contents
  -- over told files, where nothing failed
  pub complete : load_faults calls ≡ 0 → save_faults calls ≡ 0 → (Rose out.faults out_now.faults → ⊥)
      → IfSome files.contents (λ contents. (status ≡ 8) ⊎ IsAnswered words contents calls out out_now status)
