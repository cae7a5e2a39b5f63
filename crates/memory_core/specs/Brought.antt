-- Where nothing is resident and the first module is brought in.
use Rattle.std.specs.Prelude.{◌≡◌, ◌<◌, [], All, List, length, map, if◌then◌else◌}
use Rattle.std.specs.List.{AllByRecursion}
use Rattle.load_model.specs.declared.deeds.Fresh.{Fresh}
use Rattle.load_model.specs.declared.deeds.How.{How}
use Rattle.load_model.specs.declared.deeds.How.TheVariants.{Start, Load}
use Rattle.load_model.specs.Entering.{after_entering, residence_from, with_fresh_residences}
use Rattle.load_model.specs.Modules.{Library, is_library, order_of}
use Rattle.load_model.specs.Outcomes.{done}
use Rattle.load_model.specs.ResidenceBases.{Stands}
use Rattle.load_model.specs.State.{Eager, nothing_yet}
use Rattle.memory_model.specs.declared.held.ModuleMemory.{ModuleMemory}
use Rattle.memory_model.specs.declared.held.MemoryRefusal.{MemoryRefusal}
use Rattle.memory_model.specs.declared.held.MemoryRefusal.TheVariants.{ArenaFull}
use Rattle.memory_model.specs.Memory.{RefusesMemory, entered, module_memory, outcome}
use Rattle.residence_table.specs.declared.placing.NoRoom.{NoRoom}
use Rattle.memory_core.specs.declared.brought.Unloaded.{Unloaded}

abbrev pub refusal_without_room : NoRoom → MemoryRefusal
refusal_without_room none = ArenaFull none.of none.object.object none.object.size

-- These are resident, and no process has done anything.
abbrev pub standing : List Fresh → Eager
standing fresh = with_fresh_residences (nothing_yet []) fresh

-- a start or a load, by the kind of the first module
abbrev pub how_of : Library → How
how_of lib = if is_library lib 0 then Load else Start

-- each in its arena
abbrev pub AllStand : Library → List Fresh → Type 0
AllStand lib fresh = AllByRecursion (λ (f : Fresh). Stands lib f.«module» f.bases) fresh

-- It was brought in, and these have begun: of each module that the first one reaches, in the order of imports.
pub record HasBrought (lib : Library) (fresh : List Fresh) : Type 0 where
  pub brought : outcome lib ≡ done 1
  pub state : (entered lib).0 ≡ after_entering lib (nothing_yet []) 1 (how_of lib) 0 fresh
  pub «modules» : map (λ f. f.«module») fresh ≡ order_of lib 0
  pub within : All (λ f. f.«module» < length lib) fresh
  pub stand : AllStand lib fresh

-- what is in memory where these have begun
abbrev pub memory_of : Library → List Fresh → List ModuleMemory
memory_of lib fresh = map (λ f. module_memory lib (standing fresh) (residence_from f)) fresh

-- Why the first module of a library is not in memory, with the library.
pub record IsUnloaded (lib : Library) (unloaded : Unloaded) : Type 0 where
  pub refused : RefusesMemory lib unloaded.why
  pub library : unloaded.library ≡ lib
