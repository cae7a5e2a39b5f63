-- What the readers of files answer, by the answers to their loads.
use Rattle.std.specs.Prelude.{◌≡◌, ℕ, List, Result, Ok, Err, Vec}
use Rattle.std.specs.declared.alloc.Global.{Global}
use Rattle.lx_types.specs.declared.fail.Fail.{Fail}
use Rattle.lx_types.specs.declared.fail.Fail.TheVariants as fail
use Rattle.lx_ports.specs.declared.files.LoadFault.{LoadFault}
use Rattle.answer_model.specs.declared.said.Said.{Said}
use Rattle.answer_model.specs.FileLine.{file_line}
use Rattle.answer_model.specs.Loading.{ReadsAnswer, RefusesAnswer}
use Rattle.answer_model.specs.AskedFiles.{Asked}
use Rattle.answer_model.specs.Reading.{IsItem, IsFault}
use Rattle.answer_model.specs.Items.{Kind, Form, Item, object, library, definition, linked}
use Rattle.refusal_text.specs.declared.refused.FileFault.{FileFault}
use Rattle.refusal_text.specs.declared.refused.Refused.{Refused}
use Rattle.refusal_text.specs.Refusals.{fault_text, said_of}
use Rattle.std.specs.List.{All}
use Rattle.obj_types.specs.Whole.{WholeModule}
use Rattle.obj_types.specs.Definition.{WholeDef}
use Rattle.lx_model.specs.Module.{IsRead}
use Rattle.tool_read.specs.declared.inputs.Input.{Input}
use Rattle.tool_read.specs.declared.inputs.Input.TheVariants as input
use Rattle.tool_read.specs.declared.exporters.Exporter.{Exporter}
use Rattle.tool_read.specs.declared.exporters.Exporter.TheVariants as exporter
use Rattle.tool_read.specs.declared.exporters.Unread.{Unread}

-- What is said has this; for want of memory nothing is said.
abbrev pub SaysOf : {T : Type 0} → (T → Type 0) → Fail T → Type 0
SaysOf P (fail.Said said) = P said
SaysOf P fail.NoMemory = Unit {0}

-- What is said of what was refused has this.
abbrev pub RefusedSo : (Said → Type 0) → Fail Refused → Type 0
RefusedSo P why = SaysOf (λ refused. P (said_of refused)) why

abbrev pub asked : Kind → List ℕ → Asked
asked kind name = record { kind = kind; name = name }

-- The bytes are those of the load, or what is said is its fault.
abbrev pub Opens : Kind → List ℕ → Result (List ℕ) LoadFault → Result (Vec ℕ Global) (Fail Refused) → Type 0
Opens kind name answer (Ok bytes) = answer ≡ Ok bytes.items
Opens kind name answer (Err why) = RefusedSo (RefusesAnswer (asked kind name) answer) why

-- This is the first fault of a file of the form.
abbrev pub Faults : Form → List ℕ → Fail FileFault → Type 0
Faults form bytes why = SaysOf (λ fault. IsFault form bytes (fault_text fault)) why

-- The item that a file of the form means, or its first fault.
abbrev pub ReadsForm : {T : Type 0} → (T → Item) → Form → List ℕ → Result T (Fail FileFault) → Type 0
ReadsForm item form bytes (Ok value) = IsItem form bytes (item value)
ReadsForm item form bytes (Err why) = Faults form bytes why

-- The same where the bytes are handed back.
abbrev pub ReadsOwned : {T : Type 0} → (T → Item) → Form → List ℕ → Result T Unread → Type 0
ReadsOwned item form bytes (Ok value) = IsItem form bytes (item value)
ReadsOwned item form bytes (Err unread) = Faults form bytes unread.why

-- The text of a fault as the line of its file.
abbrev pub Tells : List ℕ → Fail FileFault → Fail Refused → Type 0
Tells name (fail.Said fault) told = RefusedSo (λ said. said ≡ record { status = 1; text = file_line name (fault_text fault) }) told
Tells name fail.NoMemory told = told ≡ fail.NoMemory

-- A reader's answer by the answer to the load of its file.
abbrev pub ReadsLoad : {T : Type 0} → (T → Item) → Kind → List ℕ → Result (List ℕ) LoadFault → Result T (Fail Refused) → Type 0
ReadsLoad item kind name answer (Ok value) = ReadsAnswer (asked kind name) answer (item value)
ReadsLoad item kind name answer (Err why) = RefusedSo (RefusesAnswer (asked kind name) answer) why

-- ---- what the readers give

abbrev pub input_item : Input → Item
input_item (input.Object m) = object m
input_item (input.Library ms) = library ms

abbrev pub exporter_item : Exporter → Item
exporter_item (exporter.Definition d) = definition d
exporter_item (exporter.Module m) = linked m

-- They give whole values.
abbrev pub WholeInputFile : Input → Type 0
WholeInputFile (input.Object m) = WholeModule m
WholeInputFile (input.Library ms) = All WholeModule ms

abbrev pub WholeExporter : Exporter → Type 0
WholeExporter (exporter.Definition d) = WholeDef d
WholeExporter (exporter.Module m) = IsRead m
