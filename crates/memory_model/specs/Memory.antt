-- What the objects of the first module of a library hold, and those of all modules that it reaches, once a process of a fresh loader
-- has loaded it, or has started it, where it is a program.
-- Control Program reference: DosLoadModule, DosExecPgm; "32-bit Linear eXecutable Module Format": "Object Table",
-- "Object Page Table", "Fixup Record Table".
use Rattle.std.specs.Prelude.{◌≡◌, ℕ, ◌-◌, ◌*◌, List, [], map, filter_map, length, min, slice_index, if◌then◌else◌}
use Rattle.std.specs.List.{range_with_len}
use Rattle.lx_types.specs.Object.{pages_of}
use Rattle.lx_types.specs.declared.object.ObjHead.{ObjHead}
use Rattle.lx_types.specs.declared.object.TheConstants.{PAGE_SIZE}
use Rattle.load_model.specs.declared.commands.Command.{Command}
use Rattle.load_model.specs.declared.commands.Command.TheVariants.{Start, Load}
use Rattle.load_model.specs.declared.commands.Refusal.{Refusal}
use Rattle.load_model.specs.declared.commands.Refusal.TheVariants as why
use Rattle.load_model.specs.declared.commands.Reply.TheVariants.{Refused}
use Rattle.load_model.specs.Modules.{Library, name_of, is_library, objects_of, object_at, is_invalid, fixed_bytes}
use Rattle.load_model.specs.State.{Residence, Eager, nothing_yet, residence_of}
use Rattle.load_model.specs.Memory.{Bytes, page}
use Rattle.load_model.specs.Step.{Answer, Step}
use Rattle.load_model.specs.Outcomes.{Outcome, done, told, outcome_of}
use Rattle.memory_model.specs.declared.held.PageMemory.{PageMemory}
use Rattle.memory_model.specs.declared.held.PageMemory.TheVariants.{Invalid, Held}
use Rattle.memory_model.specs.declared.held.ObjectMemory.{ObjectMemory}
use Rattle.memory_model.specs.declared.held.ModuleMemory.{ModuleMemory}
use Rattle.memory_model.specs.declared.held.MemoryRefusal.{MemoryRefusal}
use Rattle.memory_model.specs.declared.held.MemoryRefusal.TheVariants as kinds

-- ---- the one entry

-- The command that brings the first module in, by its name. Where there is none, no module has the name.
abbrev pub entering : Library → Command
entering lib = if is_library lib 0 then Load (name_of lib 0) else Start (name_of lib 0)

-- Process 1 of a loader with one thread gives it first, and no initialisation fails: the state after it, and its answer.
abbrev pub entered : Library → Eager × Answer
entered lib = Step lib (fixed_bytes lib) (nothing_yet []) 1 (entering lib)

-- What the process is told: that its entry, which is the first, is done, or why there is none that does it.
abbrev pub outcome : Library → Outcome
outcome lib = outcome_of 1 (entered lib).1

-- ---- what is in memory then, as the process sees it

-- how many bytes of a page lie in the object
abbrev pub bytes_in : ObjHead → ℕ → ℕ
bytes_in o p = min PAGE_SIZE (o.size - p * PAGE_SIZE)

-- An invalid page holds nothing; of others nobody asks whether they were touched.
abbrev pub page_memory : Library → Eager → Residence → ℕ → ℕ → PageMemory
page_memory lib e r object p =
    if is_invalid lib r.«module» (page object p) then Invalid
    else Held (Bytes lib (fixed_bytes lib) e 1 r object (p * PAGE_SIZE) (bytes_in (object_at lib r.«module» object) p))

abbrev pub object_memory : Library → Eager → Residence → ℕ → ObjectMemory
object_memory lib e r object = record {
  number = object;
  base = slice_index r.bases (object - 1);
  size = (object_at lib r.«module» object).size;
  flags = (object_at lib r.«module» object).flags;
  pages = map (page_memory lib e r object) (range_with_len 0 (pages_of (object_at lib r.«module» object)));
}

abbrev pub module_memory : Library → Eager → Residence → ModuleMemory
module_memory lib e r = record {
  name = name_of lib r.«module»;
  objects = map (object_memory lib e r) (range_with_len 1 (length (objects_of lib r.«module»)));
}

-- Of the modules that process 1 has attached, in the order in which it did: each after what it imports, where that does not lead back to
-- it, and the first module last.
abbrev pub memory_after : Library → Eager → List ModuleMemory
memory_after lib e = map (module_memory lib e) (filter_map (residence_of e) (e.processes 1).attached)

-- ---- answers

-- The first module was brought in, and this is in memory.
pub record IsMemory (lib : Library) (found : List ModuleMemory) : Type 0 where
  pub brought : outcome lib ≡ done 1
  pub is : found ≡ memory_after lib (entered lib).0

-- The refusal of that command. Want of a place is told with its entry, the first.
abbrev pub refusal_of : MemoryRefusal → Refusal
refusal_of kinds.NoModule = why.NoModule
refusal_of kinds.NoEntry = why.NoEntry
refusal_of kinds.ForwardLoop = why.ForwardLoop
refusal_of kinds.Gate286 = why.Gate286
refusal_of (kinds.ArenaFull of object size) = why.ArenaFull 1 of object size

-- It was not, for this reason.
abbrev pub RefusesMemory : Library → MemoryRefusal → Type 0
RefusesMemory lib refusal = outcome lib ≡ told (Refused (refusal_of refusal))
