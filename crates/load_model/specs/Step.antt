-- One step of the loader with one thread: what a command of a process is answered, and the state after it.
use Rattle.std.specs.Prelude.{◌≡◌, ℕ, List, [], Option, Some, None, unwrap_or, Result, Ok, Err, length}
use Rattle.lx_types.specs.declared.entry.EntryKey.{EntryKey}
use Rattle.lx_types.specs.declared.resource.ResSpot.{ResSpot}
use Rattle.load_model.specs.declared.commands.Place.{Place}
use Rattle.load_model.specs.declared.commands.Command.{Command}
use Rattle.load_model.specs.declared.commands.Command.TheVariants.{Start, Load, Free, Touch, Peek, Shared, Write, Debug, Query, GetRes, Exit}
use Rattle.load_model.specs.declared.commands.Reply.{Reply}
use Rattle.load_model.specs.declared.commands.Reply.TheVariants as replies
use Rattle.load_model.specs.declared.deeds.How.TheVariants as ways
use Rattle.load_model.specs.declared.deeds.Deed.{Deed}
use Rattle.load_model.specs.Modules.{Spot, EntryFault, Library, Held, number_of, entry_spot, resource_of, address_in}
use Rattle.load_model.specs.State.{Residence, Eager, with_process, residence_of, serial_of, bases_of}
use Rattle.load_model.specs.Memory.{Bytes, touching}
use Rattle.load_model.specs.Refusals.{refusal_of, residence_named}
use Rattle.load_model.specs.declared.commands.Ask.{Ask}
use Rattle.load_model.specs.declared.commands.Ask.TheVariants.{Enter as enter, Free as free, Exit as exit, Write as put, Debug as patch, Shared as get}
use Rattle.load_model.specs.Asks.{deed_of, after_deed}

-- A command gives an entry of the history, or is answered without one: touches, peeks, queries, searches for
-- resources and what is refused are steady, since nothing that others do can change the answer.
pub data Answer : Type 0 where
  entry : Deed → Answer
  steady : Reply → Answer

-- ---- commands that are not refused

-- the module that a name means; none of the library, where no module has it
abbrev pub meant : Library → List ℕ → ℕ
meant lib name = unwrap_or (number_of lib name) (length lib)

-- the address of a spot, where its module is resident
abbrev pub spot_address : Eager → Result Spot EntryFault → ℕ
spot_address e (Ok s) = address_in (bases_of (residence_of e s.«module»)) s.object s.offset
spot_address e (Err fault) = 0

unfoldable pub address_of : Library → Eager → ℕ → List ℕ → EntryKey → ℕ
address_of lib e pid name key = spot_address e (entry_spot lib (meant lib name) key)

abbrev pub bytes_of : Library → Held → Eager → ℕ → Place → Option Residence → List ℕ
bytes_of lib contents e pid place None = []
bytes_of lib contents e pid place (Some r) = Bytes lib contents e pid r place.object place.offset place.len

-- the serial number of the residence in which a place is
abbrev pub serial_named : Library → Eager → ℕ → Place → ℕ
serial_named lib e pid place = serial_of (residence_named lib e pid place.«module»)

-- where a resource lies that is there
abbrev pub no_spot : ResSpot
no_spot = record { object = 0; offset = 0; len = 0 }

abbrev pub resource_named : Library → List ℕ → ℕ → ℕ → ResSpot
resource_named lib name ty id = unwrap_or (resource_of lib (meant lib name) ty id) no_spot

unfoldable pub fine_answer : Library → Held → Eager → ℕ → Command → Answer
fine_answer lib contents e pid (Start name) = entry (deed_of lib contents e pid (enter ways.Start (meant lib name)))
fine_answer lib contents e pid (Load name) = entry (deed_of lib contents e pid (enter ways.Load (meant lib name)))
fine_answer lib contents e pid (Free name) = entry (deed_of lib contents e pid (free (meant lib name)))
fine_answer lib contents e pid (Touch place) = steady replies.Fine
fine_answer lib contents e pid (Peek place) = steady (replies.Bytes (bytes_of lib contents e pid place (residence_named lib e pid place.«module»)))
fine_answer lib contents e pid (Shared place) =
    entry (deed_of lib contents e pid (get (serial_named lib e pid place) (meant lib place.«module») place.object place.offset place.len))
fine_answer lib contents e pid (Write place bytes) =
    entry (deed_of lib contents e pid (put (serial_named lib e pid place) (meant lib place.«module») place.object place.offset bytes))
fine_answer lib contents e pid (Debug place bytes) =
    entry (deed_of lib contents e pid (patch (serial_named lib e pid place) (meant lib place.«module») place.object place.offset bytes))
fine_answer lib contents e pid (Query name key) = steady (replies.Address (address_of lib e pid name key))
fine_answer lib contents e pid (GetRes name ty id) = steady (replies.Spot (resource_named lib name ty id))
fine_answer lib contents e pid Exit = entry (deed_of lib contents e pid exit)

-- ---- the step

-- the first refusal of a command, or what it does
unfoldable pub answer_of : Library → Held → Eager → ℕ → Command → Answer
answer_of lib contents e pid command = elim (refusal_of lib e pid command) [
  | Some refusal ↦ steady (replies.Refused refusal)
  | None ↦ fine_answer lib contents e pid command
]

abbrev pub after_touch : Library → Eager → ℕ → Place → Eager
after_touch lib e pid place =
    with_process e pid (touching (serial_named lib e pid place) place.object place.offset place.len (e.processes pid))

-- the state after a command that was answered without an entry: an accepted touch adds its pages
unfoldable pub after_steady : Library → Eager → ℕ → Command → Reply → Eager
after_steady lib e pid (Touch place) replies.Fine = after_touch lib e pid place
after_steady lib e pid command reply = e

abbrev pub after_answer : Library → Eager → ℕ → Command → Answer → Eager
after_answer lib e pid command (entry deed) = after_deed lib e pid deed
after_answer lib e pid command (steady reply) = after_steady lib e pid command reply

-- the state after a command, and its answer
unfoldable pub Step : Library → Held → Eager → ℕ → Command → Eager × Answer
Step lib contents e pid command =
    let answer = answer_of lib contents e pid command in (after_answer lib e pid command answer, answer)

-- ---- what a command asks

-- what the entry of a command asks; a touch, a peek, a query and the search for a resource ask
-- nothing that others could see
abbrev pub ask_by : Library → Eager → ℕ → Command → Option Ask
ask_by lib e pid (Start name) = Some (enter ways.Start (meant lib name))
ask_by lib e pid (Load name) = Some (enter ways.Load (meant lib name))
ask_by lib e pid (Free name) = Some (free (meant lib name))
ask_by lib e pid (Shared place) = Some (get (serial_named lib e pid place) (meant lib place.«module») place.object place.offset place.len)
ask_by lib e pid (Write place bytes) = Some (put (serial_named lib e pid place) (meant lib place.«module») place.object place.offset bytes)
ask_by lib e pid (Debug place bytes) = Some (patch (serial_named lib e pid place) (meant lib place.«module») place.object place.offset bytes)
ask_by lib e pid Exit = Some exit
ask_by lib e pid command = None

-- a write has as many bytes as its place is long
abbrev pub FitsPlace : Command → Type 0
FitsPlace (Write place bytes) = length bytes ≡ place.len
FitsPlace (Debug place bytes) = length bytes ≡ place.len
FitsPlace command = Unit {0}
