-- Where residences stand, and where those of a load are to stand.
use Rattle.std.specs.Prelude.{◌<◌, ◌++◌, List, [], length, map, All}
use Rattle.std.specs.List.{AllByRecursion}
use Rattle.load_model.specs.declared.deeds.Fresh.{Fresh}
use Rattle.load_model.specs.Modules.{Library}
use Rattle.load_model.specs.State.{Residence, Eager, new_process}
use Rattle.load_model.specs.Entering.{residence_from}
use Rattle.load_model.specs.Entering as entering
use Rattle.load_model.specs.ResidenceBases.{Stands}
use Rattle.residence_table.specs.declared.placing.NoRoom.{NoRoom}
use Rattle.residence_table.specs.Residences.{residences, AreOwn}

-- a state in which these are resident
abbrev pub state_with : List Residence → Eager
state_with rs = record { residences = rs; serials = 0; processes = λ pid. new_process; failing = [] }

-- The residences are those of modules of the library, each with a base for each object, in its arena; no two have one
-- serial number.
pub record AreResidencesOf (lib : Library) (rs : List Residence) : Type 0 where
  pub within : All (λ r. r.«module» < length lib) rs
  pub bases : AllByRecursion (λ (r : Residence). Stands lib r.«module» r.bases) rs
  pub own : AreOwn rs

-- the module that has no place, with its object
abbrev pub no_room_of : NoRoom → entering.NoRoom
no_room_of none = record { of = none.of; object = none.object }

-- the residences that stand once these have begun
abbrev pub residences_with : {T : Type 0} → List (Residence × T) → List Fresh → List Residence
residences_with rows fresh = residences rows ++ map residence_from fresh
