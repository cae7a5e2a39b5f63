-- What the tool answers for told files: the status and the text, and the files that it saves.
use Rattle.std.specs.Prelude.{◌≡◌, ℕ, nat_le, List, length, Option, Some, None, Result, Ok, Err, if◌then◌else◌}
use Rattle.std.specs.List.{AllByRecursion, filter_map}
use Rattle.lx_ports.specs.Calls.{Call, load, save}
use Rattle.lx_ports.specs.Files.{Contents}
use Rattle.lx_ports.specs.declared.files.LoadFault.{LoadFault}
use Rattle.lx_ports.specs.declared.files.LoadFault.TheVariants.{Absent, TooLong}
use Rattle.answer_model.specs.Loading.{file_limit}
use Rattle.answer_model.specs.Outcome.{Saved}
use Rattle.answer_model.specs.Says.{Says}
use Rattle.answer_model.specs.declared.said.Said.{Said}

-- What a load gives where nothing fails, by what its name has.
abbrev pub loaded : Option (List ℕ) → Result (List ℕ) LoadFault
loaded None = Err Absent
loaded (Some bytes) = if nat_le (length bytes) file_limit then Ok bytes else Err TooLong

-- The call did not fail.
abbrev pub IsSound : Contents → Call → Type 0
IsSound contents (load name answer) = answer ≡ loaded (contents name)
IsSound contents (save name bytes answer) = answer ≡ Ok tt

-- The files that the calls save, in their order.
abbrev pub saved_by : Call → Option Saved
saved_by (load name answer) = None
saved_by (save name bytes answer) = Some (record { name = name; bytes = bytes })

abbrev pub saves_in : List Call → List Saved
saves_in calls = filter_map saved_by calls

-- The words and what each name has have this answer.
pub record Answer (words : List (List ℕ)) (contents : Contents) (saves : List Saved) (said : Said) : Type 0 where
  pub calls : List Call
  pub sound : AllByRecursion (IsSound contents) calls
  pub says : Says words calls said
  pub saves_are : saves ≡ saves_in calls
