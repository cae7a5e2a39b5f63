-- The causes for which each command is refused, as lists: the first that holds is the refusal.
use Rattle.std.specs.Prelude.{◌≡◌, ℕ, Bool, true, false, not, List, [], ◌∷◌, ◌++◌, length, Option, Some, None, option_map, is_some, is_none, unwrap_or, nat_le, if◌then◌else◌}
use Rattle.lx_types.specs.Object.{class_of}
use Rattle.lx_types.specs.declared.object.Class.{Class}
use Rattle.lx_types.specs.declared.object.Class.TheVariants as classes
use Rattle.lx_types.specs.declared.entry.EntryKey.{EntryKey}
use Rattle.lx_types.specs.declared.limits.TheConstants.{MAX_LOADS}
use Rattle.load_model.specs.declared.commands.Place.{Place}
use Rattle.load_model.specs.declared.commands.Command.{Command}
use Rattle.load_model.specs.declared.commands.Command.TheVariants as commands
use Rattle.load_model.specs.declared.commands.Refusal.{Refusal}
use Rattle.load_model.specs.declared.commands.Refusal.TheVariants.{Ended, Started, NoModule, NotLibrary, NotProgram, CountFull, NotHeld, NotAttached, Range, ReadOnly, IsShared, NotShared, NotCode, Invalid, NotTouched, NoResource}
use Rattle.load_model.specs.Modules.{Library, number_of, is_library, unfit, entry_spot, resource_of, object_at}
use Rattle.load_model.specs.State.{Residence, Process, Eager, count_of, serial_of}
use Rattle.load_model.specs.Memory.{first_untouched}
use Rattle.load_model.specs.Refusals.{Purpose, touch, write, share, peek, debug, is_held, is_outside, covers_invalid, residence_named, spot_refusal, refusal_of}

-- ---- lists of causes

-- a refusal, and whether its cause holds
abbrev pub Cause : Type 0
Cause = Bool × Refusal

abbrev pub first_of : List Cause → Option Refusal
first_of [] = None
first_of (cause ∷ others) = if cause.0 then Some cause.1 else first_of others

-- a cause that comes with its refusal, where it holds
abbrev pub cause_of : Option Refusal → Cause
cause_of refusal = (is_some refusal, unwrap_or refusal Ended)

-- ---- start, load and free

-- the module by number; past the last, where no module has the name
abbrev pub number_or_none : Library → Option ℕ → ℕ
number_or_none lib m = unwrap_or m (length lib)

abbrev pub start_causes : Library → Process → Option ℕ → List Cause
start_causes lib p m =
    (p.ended, Ended) ∷ (is_some p.started, Started) ∷ (is_none m, NoModule) ∷ (is_library lib (number_or_none lib m), NotProgram)
    ∷ cause_of (unfit lib (number_or_none lib m)) ∷ []

abbrev pub load_causes : Library → Process → Option ℕ → List Cause
load_causes lib p m =
    (p.ended, Ended) ∷ (is_none m, NoModule) ∷ (not (is_library lib (number_or_none lib m)), NotLibrary)
    ∷ cause_of (unfit lib (number_or_none lib m)) ∷ (nat_le MAX_LOADS (count_of p (number_or_none lib m)), CountFull) ∷ []

abbrev pub free_causes : Process → Option ℕ → List Cause
free_causes p m = (p.ended, Ended) ∷ (not (is_held p m), NotHeld) ∷ []

-- ---- places

abbrev pub is_code : Class → Bool
is_code classes.Code = true
is_code classes.Private = false
is_code classes.Shared = false

abbrev pub is_shared : Class → Bool
is_shared classes.Code = false
is_shared classes.Private = false
is_shared classes.Shared = true

abbrev pub class_causes : Purpose → Class → List Cause
class_causes touch class = []
class_causes write class = (is_code class, ReadOnly) ∷ []
class_causes share class = (not (is_shared class), NotShared) ∷ []
class_causes peek class = (is_shared class, IsShared) ∷ []
class_causes debug class = (not (is_code class), NotCode) ∷ []

-- a page that was not touched is no cause to refuse a touch
abbrev pub untouched_causes : Purpose → Option ℕ → List Cause
untouched_causes touch page = []
untouched_causes write page = cause_of (option_map NotTouched page) ∷ []
untouched_causes share page = cause_of (option_map NotTouched page) ∷ []
untouched_causes peek page = cause_of (option_map NotTouched page) ∷ []
untouched_causes debug page = cause_of (option_map NotTouched page) ∷ []

-- the module of a residence; where there is none, nobody asks
abbrev pub module_in : Option Residence → ℕ
module_in None = 0
module_in (Some r) = r.«module»

abbrev pub place_causes : Library → Process → Purpose → Place → Option Residence → List Cause
place_causes lib p purpose place r =
    (p.ended, Ended) ∷ (is_none r, NotAttached) ∷ (is_outside lib (module_in r) place.object place.offset place.len, Range)
    ∷ class_causes purpose (class_of (object_at lib (module_in r) place.object))
    ++ (covers_invalid lib (module_in r) place.object place.offset place.len, Invalid)
    ∷ untouched_causes purpose (first_untouched p (serial_of r) place.object place.offset place.len)

-- ---- query, and the search for a resource

abbrev pub query_causes : Library → Process → EntryKey → Option Residence → List Cause
query_causes lib p key r = (p.ended, Ended) ∷ (is_none r, NotAttached) ∷ cause_of (spot_refusal (entry_spot lib (module_in r) key)) ∷ []

abbrev pub resource_causes : Library → Process → ℕ → ℕ → Option Residence → List Cause
resource_causes lib p ty id r = (p.ended, Ended) ∷ (is_none r, NotAttached) ∷ (is_none (resource_of lib (module_in r) ty id), NoResource) ∷ []

-- ---- all commands

abbrev pub causes_at : Library → Eager → ℕ → Purpose → Place → List Cause
causes_at lib e pid purpose place = place_causes lib (e.processes pid) purpose place (residence_named lib e pid place.«module»)

abbrev pub causes_of : Library → Eager → ℕ → Command → List Cause
causes_of lib e pid (commands.Start name) = start_causes lib (e.processes pid) (number_of lib name)
causes_of lib e pid (commands.Load name) = load_causes lib (e.processes pid) (number_of lib name)
causes_of lib e pid (commands.Free name) = free_causes (e.processes pid) (number_of lib name)
causes_of lib e pid (commands.Touch place) = causes_at lib e pid touch place
causes_of lib e pid (commands.Peek place) = causes_at lib e pid peek place
causes_of lib e pid (commands.Shared place) = causes_at lib e pid share place
causes_of lib e pid (commands.Write place bytes) = causes_at lib e pid write place
causes_of lib e pid (commands.Debug place bytes) = causes_at lib e pid debug place
causes_of lib e pid (commands.Query name key) = query_causes lib (e.processes pid) key (residence_named lib e pid name)
causes_of lib e pid (commands.GetRes name ty id) = resource_causes lib (e.processes pid) ty id (residence_named lib e pid name)
causes_of lib e pid commands.Exit = ((e.processes pid).ended, Ended) ∷ []

-- A command is refused for the first of its causes that holds, and for none where none holds.
abbrev pub FirstCauseCounts : Type 0
FirstCauseCounts = (lib : Library) (e : Eager) (pid : ℕ) (command : Command) → refusal_of lib e pid command ≡ first_of (causes_of lib e pid command)
