-- Why a command is refused: for each command its refusals, in the order in which they are tried.
-- Control Program reference: DosLoadModule, DosFreeModule, DosQueryProcAddr.
use Rattle.std.specs.Prelude.{ℕ, ◌+◌, ◌==◌, ◌||◌, not, Bool, false, List, length, Option, Some, None, option_map, is_some, is_none, nat_lt, nat_le, Result, Ok, Err, if◌then◌else◌}
use Rattle.std.specs.List.{list_any}
use Rattle.lx_types.specs.Object.{class_of}
use Rattle.lx_types.specs.declared.object.Class.{Class}
use Rattle.lx_types.specs.declared.object.Class.TheVariants as classes
use Rattle.lx_types.specs.declared.entry.EntryKey.{EntryKey}
use Rattle.load_model.specs.declared.commands.Place.{Place}
use Rattle.load_model.specs.declared.commands.Command.{Command}
use Rattle.load_model.specs.declared.commands.Command.TheVariants as commands
use Rattle.load_model.specs.declared.commands.Refusal.{Refusal}
use Rattle.load_model.specs.declared.commands.Refusal.TheVariants.{Ended, Started, NoModule, NotLibrary, NotProgram, CountFull, NotHeld, NotAttached, Range, ReadOnly, IsShared, NotShared, NotCode, Invalid, NotTouched, NoResource}
use Rattle.load_model.specs.declared.deeds.How.{How}
use Rattle.load_model.specs.declared.deeds.How.TheVariants.{Start, Load}
use Rattle.load_model.specs.Modules.{Spot, EntryFault, Library, number_of, is_library, unfit, entry_spot, refusal_of_entry, resource_of, objects_of, object_at, is_invalid}
use Rattle.load_model.specs.State.{Residence, Process, Eager, count_of, attached_residence}
use Rattle.load_model.specs.Memory.{page, pages_over, first_untouched}
use Rattle.lx_types.specs.declared.limits.TheConstants.{MAX_LOADS}

-- a refusal where something holds
abbrev pub when : Bool → Refusal → Option Refusal
when holds refusal = if holds then Some refusal else None

-- the first of two that is there
infixr 8 ◌orelse◌
abbrev pub ◌orelse◌ : Option Refusal → Option Refusal → Option Refusal
(Some refusal) orelse other = Some refusal
None orelse other = other

-- ---- start and load

-- of a module, once it is known to be there
unfoldable pub module_refusal : Library → Process → How → ℕ → Option Refusal
module_refusal lib p Start m = when (is_library lib m) NotProgram orelse unfit lib m
module_refusal lib p Load m =
    when (not (is_library lib m)) NotLibrary
    orelse unfit lib m
    orelse when (nat_le MAX_LOADS (count_of p m)) CountFull

abbrev pub module_or_none : Library → Process → How → Option ℕ → Option Refusal
module_or_none lib p how None = Some NoModule
module_or_none lib p how (Some m) = module_refusal lib p how m

-- a process starts one program
abbrev pub started_refusal : Process → How → Option Refusal
started_refusal p Start = when (is_some p.started) Started
started_refusal p Load = None

unfoldable pub enter_refusal : Library → Process → How → Option ℕ → Option Refusal
enter_refusal lib p how m = when p.ended Ended orelse started_refusal p how orelse module_or_none lib p how m

-- ---- free

abbrev pub is_held : Process → Option ℕ → Bool
is_held p None = false
is_held p (Some m) = not (count_of p m == 0)

abbrev pub free_refusal : Process → Option ℕ → Option Refusal
free_refusal p m = when p.ended Ended orelse when (not (is_held p m)) NotHeld

-- ---- places

-- what is to be done with a place
pub data Purpose : Type 0 where
  touch : Purpose
  write : Purpose
  share : Purpose
  peek : Purpose
  debug : Purpose

-- which objects it cannot be done with
abbrev pub class_refusal : Purpose → Class → Option Refusal
class_refusal touch class = None
class_refusal write classes.Code = Some ReadOnly
class_refusal write classes.Private = None
class_refusal write classes.Shared = None
class_refusal share classes.Code = Some NotShared
class_refusal share classes.Private = Some NotShared
class_refusal share classes.Shared = None
class_refusal peek classes.Code = None
class_refusal peek classes.Private = None
class_refusal peek classes.Shared = Some IsShared
class_refusal debug classes.Code = None
class_refusal debug classes.Private = Some NotCode
class_refusal debug classes.Shared = Some NotCode

-- the object is not there, or the bytes pass its end
abbrev pub is_outside : Library → ℕ → ℕ → ℕ → ℕ → Bool
is_outside lib m object offset len =
    (object == 0) || nat_lt (length (objects_of lib m)) object || nat_lt (object_at lib m object).size (offset + len)

abbrev pub covers_invalid : Library → ℕ → ℕ → ℕ → ℕ → Bool
covers_invalid lib m object offset len = list_any (λ n. is_invalid lib m (page object n)) (pages_over offset len)

-- what does not depend on what was touched
unfoldable pub span_refusal : Library → Purpose → ℕ → ℕ → ℕ → ℕ → Option Refusal
span_refusal lib purpose m object offset len =
    when (is_outside lib m object offset len) Range
    orelse class_refusal purpose (class_of (object_at lib m object))
    orelse when (covers_invalid lib m object offset len) Invalid

abbrev pub touch_refusal : Purpose → Process → ℕ → ℕ → ℕ → ℕ → Option Refusal
touch_refusal touch p serial object offset len = None
touch_refusal write p serial object offset len = option_map NotTouched (first_untouched p serial object offset len)
touch_refusal share p serial object offset len = option_map NotTouched (first_untouched p serial object offset len)
touch_refusal peek p serial object offset len = option_map NotTouched (first_untouched p serial object offset len)
touch_refusal debug p serial object offset len = option_map NotTouched (first_untouched p serial object offset len)

abbrev pub residence_refusal : Library → Process → Purpose → Place → Option Residence → Option Refusal
residence_refusal lib p purpose place None = Some NotAttached
residence_refusal lib p purpose place (Some r) =
    span_refusal lib purpose r.«module» place.object place.offset place.len
    orelse touch_refusal purpose p r.serial place.object place.offset place.len

-- the residence of a module by name, where a process reaches it
abbrev pub residence_if : Library → Eager → ℕ → Option ℕ → Option Residence
residence_if lib e pid None = None
residence_if lib e pid (Some m) = attached_residence lib e pid m

unfoldable pub residence_named : Library → Eager → ℕ → List ℕ → Option Residence
residence_named lib e pid name = residence_if lib e pid (number_of lib name)

unfoldable pub place_refusal : Library → Eager → ℕ → Purpose → Place → Option Refusal
place_refusal lib e pid purpose place =
    when (e.processes pid).ended Ended
    orelse residence_refusal lib (e.processes pid) purpose place (residence_named lib e pid place.«module»)

-- ---- query

abbrev pub spot_refusal : Result Spot EntryFault → Option Refusal
spot_refusal (Ok spot) = None
spot_refusal (Err fault) = Some (refusal_of_entry fault)

abbrev pub key_refusal : Library → EntryKey → Option Residence → Option Refusal
key_refusal lib key None = Some NotAttached
key_refusal lib key (Some r) = spot_refusal (entry_spot lib r.«module» key)

unfoldable pub query_refusal : Library → Eager → ℕ → List ℕ → EntryKey → Option Refusal
query_refusal lib e pid name key =
    when (e.processes pid).ended Ended orelse key_refusal lib key (residence_named lib e pid name)

-- ---- resources

abbrev pub found_refusal : Library → ℕ → ℕ → Option Residence → Option Refusal
found_refusal lib ty id None = Some NotAttached
found_refusal lib ty id (Some r) = when (is_none (resource_of lib r.«module» ty id)) NoResource

unfoldable pub resource_refusal : Library → Eager → ℕ → List ℕ → ℕ → ℕ → Option Refusal
resource_refusal lib e pid name ty id =
    when (e.processes pid).ended Ended orelse found_refusal lib ty id (residence_named lib e pid name)

-- ---- all commands

-- The refusal of a command, if any. Want of a place and an initialisation that fails are found later, by an entry;
-- and `Worn` has no place here: nobody draws turns in one thread.
unfoldable pub refusal_of : Library → Eager → ℕ → Command → Option Refusal
refusal_of lib e pid (commands.Start name) = enter_refusal lib (e.processes pid) Start (number_of lib name)
refusal_of lib e pid (commands.Load name) = enter_refusal lib (e.processes pid) Load (number_of lib name)
refusal_of lib e pid (commands.Free name) = free_refusal (e.processes pid) (number_of lib name)
refusal_of lib e pid (commands.Touch place) = place_refusal lib e pid touch place
refusal_of lib e pid (commands.Peek place) = place_refusal lib e pid peek place
refusal_of lib e pid (commands.Shared place) = place_refusal lib e pid share place
refusal_of lib e pid (commands.Write place bytes) = place_refusal lib e pid write place
refusal_of lib e pid (commands.Debug place bytes) = place_refusal lib e pid debug place
refusal_of lib e pid (commands.Query name key) = query_refusal lib e pid name key
refusal_of lib e pid (commands.GetRes name ty id) = resource_refusal lib e pid name ty id
refusal_of lib e pid commands.Exit = when (e.processes pid).ended Ended
