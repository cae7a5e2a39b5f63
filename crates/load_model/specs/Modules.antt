-- What a run takes of a library of modules: this page alone says how the words of LX modules serve here.
-- Modules count from 0, objects from 1, and the pages of an object from 0.
use Rattle.std.specs.Prelude.{ℕ, ◌-◌, ◌/◌, ◌%◌, ◌==◌, Bool, not, true, false, List, length, Option, Some, None, Result, slice_index, bit_and}
use Rattle.lx_types.specs.declared.parts.Parts.{Parts}
use Rattle.lx_types.specs.declared.parts.TheConstants.{MODULE_INIT_EACH, MODULE_TERM_EACH}
use Rattle.lx_types.specs.declared.object.ObjHead.{ObjHead}
use Rattle.lx_types.specs.declared.object.PageId.{PageId}
use Rattle.lx_types.specs.declared.object.TheConstants.{PAGE_SIZE}
use Rattle.lx_types.specs.declared.entry.EntryKey.{EntryKey}
use Rattle.lx_types.specs.declared.entry.EntryKey.TheVariants.{Ordinal, Named}
use Rattle.lx_types.specs.declared.bases.Bases.{Bases}
use Rattle.lx_types.specs.declared.resource.ResSpot.{ResSpot}
use Rattle.base_pick.specs.declared.occupied.AddressRange.{AddressRange}
use Rattle.base_pick.specs.declared.picking.ArenaFull.{ArenaFull}
use Rattle.base_pick.specs.Places.{places_of}
use Rattle.lx_types.specs.Addresses.{address}
use Rattle.lx_types.specs.Parts.{is_library_of, object_of, page_at}
pub use Rattle.lx_model.specs.declared.library.Spot.{Spot}
pub use Rattle.lx_model.specs.declared.library.EntryFault.{EntryFault}
use Rattle.lx_model.specs.declared.library.EntryFault.TheVariants as faults
use Rattle.lx_model.specs.declared.library.Health.{Health}
use Rattle.lx_model.specs.declared.library.Health.TheVariants as kinds
use Rattle.lx_model.specs.Library.{no_module, module_of, module_named}
use Rattle.lx_model.specs.ModuleBytes as bytes
unfoldable pub use Rattle.lx_model.specs.Reach.{Order, visit, HealthOf}
unfoldable pub use Rattle.lx_model.specs.Entries.{Entry, followed}
use Rattle.lx_model.specs.Entries.{EntryNamed}
unfoldable pub use Rattle.lx_model.specs.Resources.{Res}
use Rattle.lx_model.specs.Fixed.{Fixed, sources_of}
use Rattle.load_model.specs.declared.commands.Refusal.{Refusal}
use Rattle.load_model.specs.declared.commands.Refusal.TheVariants.{NoModule, NoEntry, ForwardLoop, Gate286}

abbrev pub Library : Type 0
Library = List Parts

-- ---- modules

-- the parts of a module that no library has
abbrev pub no_parts : Parts
no_parts = no_module

-- how many modules there are
abbrev pub module_count : Library → ℕ
module_count lib = length lib

-- the module that a name means: ASCII letters are compared in upper case
unfoldable pub number_of : Library → List ℕ → Option ℕ
number_of lib name = module_named lib name

abbrev pub name_of : Library → ℕ → List ℕ
name_of lib m = (module_of lib m).name

unfoldable pub is_library : Library → ℕ → Bool
is_library lib m = is_library_of (module_of lib m)

-- the object and the offset at which a module starts
unfoldable pub start_of : Library → ℕ → Option (ℕ × ℕ)
start_of lib m = (module_of lib m).start

-- a library's initialisation, or its termination, is called for each process
unfoldable pub inits_each : Library → ℕ → Bool
inits_each lib m = not (bit_and (module_of lib m).flags MODULE_INIT_EACH == 0)

unfoldable pub terms_each : Library → ℕ → Bool
terms_each lib m = not (bit_and (module_of lib m).flags MODULE_TERM_EACH == 0)

-- ---- imports

-- what a module reaches through imports, itself last; each after what it imports
unfoldable pub order_of : Library → ℕ → List ℕ
order_of lib m = Order lib m

-- why a module cannot be loaded, by its health
abbrev pub refusal_of_health : Health → Option Refusal
refusal_of_health kinds.Fit = None
refusal_of_health (kinds.NoModule by name_no) = Some NoModule
refusal_of_health (kinds.NoEntry by) = Some NoEntry
refusal_of_health (kinds.ForwardLoop by) = Some ForwardLoop
refusal_of_health (kinds.Gate286 by) = Some Gate286

unfoldable pub unfit : Library → ℕ → Option Refusal
unfit lib m = refusal_of_health (HealthOf lib m)

-- ---- entry points

-- the spot that a key of a module means
unfoldable pub entry_spot : Library → ℕ → EntryKey → Result Spot EntryFault
entry_spot lib m (Ordinal ordinal) = Entry lib (m, ordinal)
entry_spot lib m (Named name) = EntryNamed lib m name

abbrev pub refusal_of_entry : EntryFault → Refusal
refusal_of_entry faults.NoEntry = NoEntry
refusal_of_entry faults.Gate286 = Gate286
refusal_of_entry faults.ForwardLoop = ForwardLoop

-- ---- resources

-- where a module has the resource of a type and an identifier
unfoldable pub resource_of : Library → ℕ → ℕ → ℕ → Option ResSpot
resource_of lib m ty id = Res (module_of lib m) ty id

-- ---- objects

unfoldable pub objects_of : Library → ℕ → List ObjHead
objects_of lib m = (module_of lib m).objects

unfoldable pub object_at : Library → ℕ → ℕ → ObjHead
object_at lib m object = object_of (module_of lib m) object

-- the bases of a module's objects beside what is occupied in the shared arena
unfoldable pub bases_for : Library → List AddressRange → ℕ → Result (List ℕ) ArenaFull
bases_for lib occupied m = places_of occupied (module_of lib m)

unfoldable pub is_invalid : Library → ℕ → PageId → Bool
is_invalid lib m p = bytes.is_invalid (page_at (module_of lib m) p).kind

-- the address of a place in an object, under the bases of its module's objects
abbrev pub address_in : List ℕ → ℕ → ℕ → ℕ
address_in bases object offset = address (slice_index bases (object - 1)) offset

-- ---- bytes

-- What the objects of modules hold where they stand: the byte of a module, under bases, of an object, at
-- an offset. A run takes any such; the loader's is what fixups give, and for a module that was built it is
-- as well what the link says.
abbrev pub Held : Type 0
Held = ℕ → Bases → ℕ → ℕ → ℕ

-- the bytes of the files, with their fixups
abbrev pub page_of_offset : ℕ → ℕ → PageId
page_of_offset object x = record { object = object; page = x / PAGE_SIZE }

unfoldable pub fixed_bytes : Library → Held
fixed_bytes lib m bases object x = Fixed lib m bases (page_of_offset object x) (x % PAGE_SIZE)

-- how many sources the fixup records of a page have
unfoldable pub source_count : Library → ℕ → PageId → ℕ
source_count lib m p = length (sources_of (module_of lib m) p)
