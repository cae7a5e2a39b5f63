-- What a start or a load comes to.
use Rattle.std.specs.Prelude.{◌≡◌, ℕ, zero, suc, ◌+◌, List, [], ◌∷◌, find, position, map, length, Option, Some, option_map, Ok, Err}
use Rattle.std.specs.Arc.{arc_value}
use Rattle.std.specs.List.{range_with_len}
use Rattle.page_fix.specs.Fixable.{fixable_pages}
use Rattle.page_frames.specs.Residences.{ResidenceFor, FramesFor, kept_by}
use Rattle.lx_model.specs.Library.{module_of}
use Rattle.load_model.specs.declared.deeds.Deed.TheVariants as deeds
use Rattle.load_model.specs.declared.deeds.Fresh.{Fresh}
use Rattle.lx_types.specs.declared.bases.ModBases.{ModBases}
use Rattle.load_model.specs.State.{Residence, Eager, residence_of, bases_of}
use Rattle.load_model.specs.Entering as entering
use Rattle.load_model.specs.Entering.{residence_from, with_fresh_residences}
use Rattle.load_model.specs.Initialising as initialising
use Rattle.load_model.specs.Memory.{bases_seen}
use Rattle.residence_table.specs.declared.placing.NoRoom.{NoRoom}
use Rattle.residence_table.specs.Placing.{no_room_of, state_with, residences_with}
use Rattle.residence_table.specs.Residences.{is_of_module}
use Rattle.write_overlay.specs.Layered.{Lays}
use Rattle.load_core.specs.BoardState.{BoardState, state_of}
use Rattle.load_core.specs.Kept.{shown_by}
use Rattle.load_core.specs.declared.residence_parts.ResidenceParts.{ResidenceParts}
use Rattle.load_core.specs.declared.new_residences.Attached.{Attached}
use Rattle.load_core.specs.declared.arrivals.Entrance.{Entrance}
use Rattle.load_core.specs.declared.arrivals.Arrival.{Arrival}
use Rattle.load_core.specs.declared.arrivals.Undoing.{Undoing}

-- What is attached, what begins, how many serial numbers are given then, and what is called where no initialisation fails.
pub record IsArrival (b : BoardState) (at : Entrance) (arrival : Arrival) : Type 0 where
  pub joined : arrival.joined.items ≡ entering.joined b.library (state_of b) at.pid at.«module»
  pub placed : entering.placing b.library (state_of b) at.pid at.«module» ≡ Ok arrival.fresh
  pub serials : arrival.serials ≡ (state_of b).serials + length arrival.fresh
  pub calls : arrival.calls ≡ entering.entering_calls b.library (state_of b) at.pid at.how at.«module» arrival.fresh

abbrev pub IsWithoutRoom : BoardState → Entrance → NoRoom → Type 0
IsWithoutRoom b at none = entering.placing b.library (state_of b) at.pid at.«module» ≡ Err (no_room_of none)

-- which initialisation fails
abbrev pub failing_of : BoardState → Entrance → Arrival → Option ℕ
failing_of b at arrival = initialising.failing_module b.library (state_of b) at.pid at.how at.«module» arrival.fresh

-- What is called, and what ends again, where the initialisation of a module fails.
abbrev pub IsUndoing : BoardState → Entrance → ℕ → Arrival → Undoing → Type 0
IsUndoing b at by arrival undoing =
    initialising.enter_deed b.library (state_of b) at.pid at.how at.«module» ≡ deeds.Failed at.how at.«module» by arrival.fresh undoing.calls undoing.gone

-- what is shared of a residence that begins with others, once they have begun
abbrev pub begun_as : BoardState → List Fresh → Fresh → ℕ → ResidenceFor
begun_as b all f keeper = record {
  library = b.library;
  serial = f.serial;
  «module» = f.«module»;
  bases = bases_seen b.library (with_fresh_residences (state_of b) all) f.«module»;
  keeper = keeper;
}

-- A residence that begins with others, with all its rights and its frames, whoever will keep it. Nothing was written to it.
pub record IsNew (b : BoardState) (all : List Fresh) (f : Fresh) (row : Residence × ResidenceParts) : Type 0 where
  pub residence : row.0 ≡ residence_from f
  pub rights : row.1.rights ≡ record { serial = f.serial; left = fixable_pages (module_of b.library f.«module») }
  pub shared : (keeper : ℕ) → kept_by keeper row.1.shared.frames ≡ begun_as b all f keeper
  pub layers : Lays row.1.layers []

-- residences that begin, in their order
abbrev pub AreNew : BoardState → List Fresh → List Fresh → List (Residence × ResidenceParts) → Type 0
AreNew b all [] [] = Unit {0}
AreNew b all (f ∷ fs) (row ∷ table) = IsNew b all f row × AreNew b all fs table
AreNew b all [] (row ∷ table) = ⊥
AreNew b all (f ∷ fs) [] = ⊥

-- It has begun: the board keeps it.
pub record IsBegun (b : BoardState) (all : List Fresh) (f : Fresh) (row : Residence × ResidenceParts) : Type 0 where
  pub residence : row.0 ≡ residence_from f
  pub rights : row.1.rights ≡ record { serial = f.serial; left = fixable_pages (module_of b.library f.«module») }
  pub shared : shown_by row.1 ≡ begun_as b all f b.keeper
  pub layers : Lays row.1.layers []

abbrev pub HaveBegun : BoardState → List Fresh → List Fresh → List (Residence × ResidenceParts) → Type 0
HaveBegun b all [] [] = Unit {0}
HaveBegun b all (f ∷ fs) (row ∷ table) = IsBegun b all f row × HaveBegun b all fs table
HaveBegun b all [] (row ∷ table) = ⊥
HaveBegun b all (f ∷ fs) [] = ⊥

-- ---- who keeps them

-- their frames have the serial numbers that come next
abbrev pub AreNumbered : ℕ → List (Residence × ResidenceParts) → Type 0
AreNumbered given [] = Unit {0}
AreNumbered given (row ∷ table) = (row.1.shared.frames.serial ≡ suc given) × AreNumbered (suc given) table

abbrev pub kept_row : ℕ → Residence × ResidenceParts → Residence × ResidenceParts
kept_row keeper row = (row.0, record row.1 { shared = record row.1.shared { keeper = keeper } })

-- those from a place on are kept under a name
abbrev pub kept_from : ℕ → ℕ → List (Residence × ResidenceParts) → List (Residence × ResidenceParts)
kept_from keeper zero table = map (kept_row keeper) table
kept_from keeper (suc n) [] = []
kept_from keeper (suc n) (row ∷ table) = row ∷ kept_from keeper n table

-- the frames of the residence of a module among some, and what is handed out of it
abbrev pub frames_of : List (Residence × ResidenceParts) → ℕ → Option FramesFor
frames_of table k = option_map (λ s. s.1.shared.frames) (find (is_of_module k) table)

abbrev pub shared_of : List (Residence × ResidenceParts) → ℕ → Option ResidenceFor
shared_of table k = option_map (λ s. shown_by s.1) (find (is_of_module k) table)

-- It holds the frames of its module's residence, and has its place.
abbrev pub IsAttached : List (Residence × ResidenceParts) → Attached → Type 0
IsAttached table a = (Some (arc_value a.frames) ≡ frames_of table a.«module») × (position (is_of_module a.«module») table ≡ Some a.place)

-- the bases of a module among residences, once others have begun
abbrev pub bases_with : List (Residence × ResidenceParts) → List Fresh → ℕ → ModBases
bases_with table fresh k = record { «module» = k; objects = bases_of (residence_of (state_with (residences_with table fresh)) k) }

-- the bases of a module that nobody asks for
abbrev pub nowhere : ModBases
nowhere = record { «module» = 0; objects = [] }

-- the bases of each module of the library, by its number, once others have begun
abbrev pub bases_at : Eager → ℕ → ModBases
bases_at e k = record { «module» = k; objects = bases_of (residence_of e k) }

abbrev pub AreBasesAfter : BoardState → List Fresh → List ModBases → Type 0
AreBasesAfter b fresh mods = mods ≡ map (bases_at (with_fresh_residences (state_of b) fresh)) (range_with_len 0 (length b.library))
