-- What is said of a refusal: the line of the name that it is told under, after what is shown before it, and the status.
use Rattle.std.specs.Prelude.{ℕ, List, [], ◌++◌, codes, string_bytes}
use Rattle.answer_model.specs.CheckAnswer.{check_text}
use Rattle.answer_model.specs.FileLine.{file_line}
use Rattle.answer_model.specs.FileRefusals.{def_text, field, lx_text, omf_text}
use Rattle.answer_model.specs.LinkAnswer.{link_text}
use Rattle.answer_model.specs.MemoryAnswer.{unloaded_text}
use Rattle.answer_model.specs.ResourceRefusals.{bind_text, res_text}
use Rattle.answer_model.specs.SessionRefusals.{library_text, session_text}
use Rattle.answer_model.specs.declared.said.Said.{Said}
use Rattle.refusal_text.specs.declared.refused.FileFault.{FileFault}
use Rattle.refusal_text.specs.declared.refused.FileFault.TheVariants as fault
use Rattle.refusal_text.specs.declared.refused.Cause.{Cause}
use Rattle.refusal_text.specs.declared.refused.Cause.TheVariants as cause
use Rattle.refusal_text.specs.declared.refused.Refused.{Refused}

-- The first fault of a file.
abbrev pub fault_text : FileFault → List ℕ
fault_text (fault.Object refusal) = omf_text refusal
fault_text (fault.Definition refusal) = def_text refusal
fault_text (fault.Module refusal) = lx_text refusal
fault_text (fault.Session refusal) = session_text refusal
fault_text (fault.Resources refusal) = res_text refusal
fault_text (fault.Transcript own expected) = check_text own

-- What is told after the name.
abbrev pub cause_text : Cause → List ℕ
cause_text cause.Absent = codes "absent"
cause_text cause.TooLong = codes "too long"
cause_text cause.Unreadable = codes "read failed"
cause_text (cause.Faulty own bytes) = fault_text own
cause_text (cause.FaultShown shown own bytes) = fault_text own
cause_text (cause.Unlinked refusal files) = link_text refusal
cause_text (cause.Imports files) = codes "NoModule"
cause_text (cause.ArenaFull object size) = codes "ArenaFull" ++ (field object ++ field size)
cause_text cause.LibraryLong = codes "LibraryLong"
cause_text (cause.Unbound refusal) = bind_text refusal
cause_text (cause.Ungathered refusal) = library_text refusal
cause_text (cause.Unloaded refusal at) = unloaded_text refusal
cause_text cause.Unsaved = codes "write failed"

abbrev pub status_of : Cause → ℕ
status_of cause.Absent = 1
status_of cause.TooLong = 1
status_of cause.Unreadable = 3
status_of (cause.Faulty own bytes) = 1
status_of (cause.FaultShown shown own bytes) = 1
status_of (cause.Unlinked refusal files) = 1
status_of (cause.Imports files) = 1
status_of (cause.ArenaFull object size) = 1
status_of cause.LibraryLong = 1
status_of (cause.Unbound refusal) = 1
status_of (cause.Ungathered refusal) = 1
status_of (cause.Unloaded refusal at) = 1
status_of cause.Unsaved = 4

-- What is put before the line: of a file that is shown, what was read before its fault.
abbrev pub shown_before : Cause → List ℕ
shown_before (cause.FaultShown shown own bytes) = shown
shown_before _ = []

-- `lx: NAME: what` after it, and the status.
abbrev pub said_under : List ℕ → Cause → Said
said_under name cause = record { status = status_of cause; text = shown_before cause ++ file_line name (cause_text cause) }

abbrev pub said_of : Refused → Said
said_of refused = said_under (string_bytes refused.name) refused.cause
