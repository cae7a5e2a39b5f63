-- What `show FILE` comes to: what is in the file, part by part; and where the file has a fault, what was read before it and then its
-- line. Nothing is saved.
use Rattle.std.specs.Prelude.{◌≡◌, ℕ, List, [], ◌∷◌, ◌++◌, Option, Some, None}
use Rattle.show_model.specs.Shows.{IsShown}
use Rattle.show_model.specs.declared.fault.ShowFault.{ShowFault}
use Rattle.show_model.specs.declared.fault.ShowFault.TheVariants as fault
use Rattle.answer_model.specs.FileLine.{file_line}
use Rattle.answer_model.specs.FileRefusals.{lx_text, omf_text}
use Rattle.answer_model.specs.Items.{Item, raw}
use Rattle.answer_model.specs.Outcome.{Outcome, says_only}
use Rattle.answer_model.specs.ResourceRefusals.{res_text}
use Rattle.answer_model.specs.declared.said.Said.{Said}

-- The fault of a file is told as by any other command that reads such a file.
abbrev pub show_fault_text : ShowFault → List ℕ
show_fault_text (fault.Object refusal) = omf_text refusal
show_fault_text (fault.Module refusal) = lx_text refusal
show_fault_text (fault.Resources refusal) = res_text refusal

-- the text of a file, and the line of its fault
abbrev pub shown_said : List ℕ → List ℕ → Option ShowFault → Said
shown_said name text None = record { status = 0; text = text }
shown_said name text (Some why) = record { status = 1; text = text ++ file_line name (show_fault_text why) }

pub record ShowsFile (name bytes : List ℕ) (outcome : Outcome) : Type 0 where
  pub text : List ℕ
  pub fault : Option ShowFault
  pub shows : IsShown bytes text fault
  pub told : outcome ≡ says_only (shown_said name text fault)

abbrev pub ShowAnswer : List ℕ → List Item → Outcome → Type 0
ShowAnswer name (raw bytes ∷ []) outcome = ShowsFile name bytes outcome
ShowAnswer name _ outcome = ⊥
