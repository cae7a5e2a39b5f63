-- The world of a load: where the objects of a module stand, and where the entry points of the libraries are that it
-- imports.
use Rattle.std.specs.Prelude.{ℕ, List, find, ◌==◌, Option, Some, None, Result, Ok, Err}
use Rattle.lx_types.specs.declared.parts.Parts.{Parts}
use Rattle.lx_types.specs.declared.bases.Bases.{Bases}
use Rattle.lx_types.specs.declared.entry.EntryKey.{EntryKey}
use Rattle.lx_model.specs.declared.library.Spot.{Spot}
use Rattle.lx_model.specs.declared.library.EntryFault.{EntryFault}
use Rattle.lx_model.specs.declared.library.EntryFault.TheVariants.{NoEntry}
use Rattle.lx_model.specs.Library.{library_named}
use Rattle.lx_model.specs.Entries.{EntryOf}
use Rattle.lx_model.specs.Fixed.{bases_of, spot_address}
use Rattle.lx_model.specs.ModuleBytes.{spot_flags}
use Rattle.link_model.specs.Value.{Far, EntryPoints, World}

-- The address of a spot and the flags of its object. A key without a spot, which no fit module asks for, is at 0.
abbrev pub far_at : List Parts → Bases → Result Spot EntryFault → Far
far_at lib bases (Ok s) = record { address = spot_address bases s; flags = spot_flags lib s }
far_at lib bases (Err e) = record { address = 0; flags = 0 }

-- The entry point of a key in the library module of a name, through its forwarders.
abbrev pub entry_in : List Parts → Option ℕ → EntryKey → Result Spot EntryFault
entry_in lib (Some m) key = EntryOf lib m key
entry_in lib None key = Err NoEntry

-- A module's name is asked in upper case, as it stands in import tables.
abbrev pub entry_points : List Parts → Bases → EntryPoints
entry_points lib bases name key = far_at lib bases (entry_in lib (library_named lib name) key)

-- The world of module m of a library under the bases of a load.
unfoldable pub world_of : List Parts → ℕ → Bases → World
world_of lib m bases = record {
  bases = bases_of (find (λ b. b.«module» == m) bases.mods);
  imp = entry_points lib bases;
}
