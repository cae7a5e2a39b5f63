-- From the text of a file, and its fault, to what `show` says.
use Rattle.std.proofs.Common.{◌≡◌, ℕ, List, ◌++◌, Some, None, Result, Ok, Err, Vec, ◌∙◌, ap}
use Rattle.std.specs.Prelude.{IfOk}
use Rattle.std.specs.Global.{Global}
use Rattle.lx_types.specs.declared.fail.NoMemory.{NoMemory}
use Rattle.show_model.specs.Shows.{IsShown}
use Rattle.show_model.specs.declared.fault.ShowFault.{ShowFault}
use Rattle.answer_model.specs.FileLine.{file_line}
use Rattle.answer_model.specs.Outcome.{says_only}
use Rattle.answer_model.specs.ShowAnswer.{ShowsFile, show_fault_text, shown_said}
use Rattle.answer_model.specs.declared.said.Said.{Said}
use Rattle.refusal_text.specs.declared.refused.Cause.TheVariants.{FaultShown}
use Rattle.refusal_text.specs.declared.refused.FileFault.{FileFault}
use Rattle.refusal_text.specs.Refusals.{fault_text}
use Rattle.file_commands.specs.declared.told.Told.{Told}
use Rattle.file_commands.specs.Refusals.{RefusesUnder, said_in}

pub fault_said : (name text : List ℕ) (why : ShowFault) (own : FileFault) (bytes : Vec ℕ Global) (r : Result Told NoMemory) → fault_text own ≡ show_fault_text why
    → RefusesUnder name (FaultShown text own bytes) (said_in r) → IfOk r (λ told. told.said ≡ shown_said name text (Some why))
fault_said name text why own bytes (Ok told) same is = is ∙ ap (λ (line : List ℕ). record { status = 1; text = text ++ file_line name line }) same
fault_said name text why own bytes (Err none) same is = tt

pub shown_whole : (name bytes text : List ℕ) (said : Said) → IsShown bytes text None → said ≡ record { status = 0; text = text } → ShowsFile name bytes (says_only said)
shown_whole name bytes text said shows is = record { text = text; fault = None; shows = shows; told = ap (λ s. says_only s) is }

pub shown_faulty : (name bytes text : List ℕ) (why : ShowFault) (r : Result Told NoMemory) → IsShown bytes text (Some why)
    → IfOk r (λ told. told.said ≡ shown_said name text (Some why)) → IfOk r (λ told. ShowsFile name bytes (says_only told.said))
shown_faulty name bytes text why (Ok told) shows is = record { text = text; fault = Some why; shows = shows; told = ap (λ s. says_only s) is }
shown_faulty name bytes text why (Err none) shows is = tt
