-- What a load attaches, where it places what is new, and what it calls where no initialisation fails.
-- Control Program reference: DosLoadModule; "32-bit Linear eXecutable Module Format": "LX Header" (per-process
-- initialisation).
use Rattle.std.specs.Prelude.{ℕ, suc, ◌+◌, ◌&&◌, ◌||◌, not, List, [], ◌∷◌, ◌++◌, map, filter, filter_map, flat_map, zip, length, Option, Some, None, option_map, option_to_list, is_none, Result, Ok, Err, if◌then◌else◌}
use Rattle.lx_types.specs.declared.object.ObjHead.{ObjHead}
use Rattle.load_model.specs.declared.deeds.How.{How}
use Rattle.load_model.specs.declared.deeds.How.TheVariants.{Start, Load}
use Rattle.load_model.specs.declared.deeds.Call.{Call}
use Rattle.load_model.specs.declared.deeds.CallKind.{CallKind}
use Rattle.load_model.specs.declared.deeds.CallKind.TheVariants.{Init, Main}
use Rattle.load_model.specs.declared.deeds.Fresh.{Fresh}
use Rattle.load_model.specs.Modules.{Library, is_library, order_of, start_of, inits_each, objects_of, bases_for, address_in}
use Rattle.base_pick.specs.declared.occupied.AddressRange.{AddressRange}
use Rattle.base_pick.specs.declared.picking.ArenaFull.{ArenaFull}
use Rattle.base_pick.specs.Places.{range_at}
use Rattle.load_model.specs.State.{Residence, Process, Eager, with_process, is_among, reaches, residence_of, serial_of, bases_of}

-- ---- what is attached, and what of it is new

-- the members of the order that the process does not reach
unfoldable pub joined : Library → Eager → ℕ → ℕ → List ℕ
joined lib e pid m = filter (λ k. not (reaches lib (e.processes pid) k)) (order_of lib m)

-- those of them that are not resident
unfoldable pub newcomers : Library → Eager → ℕ → ℕ → List ℕ
newcomers lib e pid m = filter (λ k. is_none (residence_of e k)) (joined lib e pid m)

-- ---- where it is placed

abbrev pub range_of : ObjHead × ℕ → AddressRange
range_of at = range_at at.1 at.0.size

-- the addresses that a library's objects take; a program's are in no one's way
abbrev pub ranges_of : Library → ℕ → List ℕ → List AddressRange
ranges_of lib m bases = if is_library lib m then map range_of (zip (objects_of lib m) bases) else []

-- what is taken in the shared arena
unfoldable pub resident_ranges : Library → Eager → List AddressRange
resident_ranges lib e = flat_map (λ r. ranges_of lib r.«module» r.bases) e.residences

-- a module that has no place, with its object
pub record NoRoom : Type 0 where
  pub of : ℕ
  pub object : ArenaFull

abbrev pub with_fresh : Fresh → Result (List Fresh) NoRoom → Result (List Fresh) NoRoom
with_fresh fresh (Ok others) = Ok (fresh ∷ others)
with_fresh fresh (Err e) = Err e

-- the residences of new modules in their order, where the last serial that was given is `serials`
unfoldable pub placed_from : Library → ℕ → List AddressRange → List ℕ → Result (List Fresh) NoRoom
placed_from lib serials occupied [] = Ok []
placed_from lib serials occupied (m ∷ others) = elim (bases_for lib occupied m) [
  | Err e ↦ Err (record { of = m; object = e })
  | Ok bases ↦ with_fresh (record { serial = suc serials; «module» = m; bases = bases })
      (placed_from lib (suc serials) (occupied ++ ranges_of lib m bases) others)
]

unfoldable pub placing : Library → Eager → ℕ → ℕ → Result (List Fresh) NoRoom
placing lib e pid m = placed_from lib e.serials (resident_ranges lib e) (newcomers lib e pid m)

-- ---- the state after it

abbrev pub residence_from : Fresh → Residence
residence_from f = record { serial = f.serial; «module» = f.«module»; bases = f.bases; writes = [] }

abbrev pub holding : How → ℕ → Process → Process
holding Start m p = record p { started = Some m }
holding Load m p = record p { loads = m ∷ p.loads }

abbrev pub attaching : List ℕ → Process → Process
attaching ms p = record p { attached = p.attached ++ ms }

abbrev pub with_fresh_residences : Eager → List Fresh → Eager
with_fresh_residences e fresh = record e { residences = e.residences ++ map residence_from fresh; serials = e.serials + length fresh }

unfoldable pub after_entering : Library → Eager → ℕ → How → ℕ → List Fresh → Eager
after_entering lib e pid how m fresh =
    with_process (with_fresh_residences e fresh) pid (holding how m (attaching (joined lib e pid m) (e.processes pid)))

-- ---- what is called

abbrev pub call_of : CallKind → Option Residence → ℕ → ℕ × ℕ → Call
call_of kind r m start = record { kind = kind; serial = serial_of r; «module» = m; address = address_in (bases_of r) start.0 start.1 }

-- A library with a start address is initialised where it is marked for that in each process, or is new.
abbrev pub init_of : Library → Eager → List ℕ → ℕ → Option Call
init_of lib after new m =
    if is_library lib m && (inits_each lib m || is_among new m) then option_map (call_of Init (residence_of after m) m) (start_of lib m) else None

-- a program's start address is called last, where it has one
abbrev pub main_of : Library → Eager → How → ℕ → List Call
main_of lib after Start m = option_to_list (option_map (call_of Main (residence_of after m) m) (start_of lib m))
main_of lib after Load m = []

unfoldable pub entering_calls : Library → Eager → ℕ → How → ℕ → List Fresh → List Call
entering_calls lib e pid how m fresh =
    let after = after_entering lib e pid how m fresh in
    filter_map (init_of lib after (newcomers lib e pid m)) (joined lib e pid m) ++ main_of lib after how m
