-- The entry points of a module that a link wrote are the exports of the link.
use Rattle.std.specs.Prelude.{◌≡◌, ◌≢◌, ℕ, ◌<◌, ◌^◌, List, length, Result, Ok, Err, All, Contains}
use Rattle.lx_types.specs.declared.parts.Parts.{Parts}
use Rattle.lx_types.specs.declared.entry.EntryKey.TheVariants.{Ordinal, Named}
use Rattle.obj_types.specs.declared.input.LinkInput.{LinkInput}
use Rattle.link_model.specs.Link.{Link}
use Rattle.link_model.specs.Exports.{ExportTarget, At, Forward, Export, Out}
use Rattle.lx_model.specs.declared.library.Spot.{Spot}
use Rattle.lx_model.specs.declared.library.EntryFault.{EntryFault}
use Rattle.lx_model.specs.declared.library.EntryFault.TheVariants.{NoEntry}
use Rattle.lx_model.specs.Entries.{EntryOf}
use Rattle.lx_model.specs.Library.{library_named}
use Rattle.image_model.specs.File.{file_of}
use Rattle.image_model.specs.Linked.{image_of}
use Rattle.image_model.specs.World.{entry_in}
use Rattle.layer_laws.specs.LinkedImages.{Links}
use Rattle.layer_laws.specs.LoadedBytes.{Holds}

-- Where an export of module m leads: to its place in m, or where the pair that it forwards leads in the library that has
-- the pair's module name. There are no entries where no library has that name.
abbrev pub leads_to : List Parts → ℕ → ExportTarget → Result Spot EntryFault
leads_to lib m (At object offset) = Ok (record { «module» = m; object = object; offset = offset })
leads_to lib m (Forward pair) = entry_in lib (library_named lib pair.module) pair.entry

-- Asked by its ordinal and by its name, each export leads there; no other ordinal and no other name has an entry.
pub record AreEntries (l : Link) (lib : List Parts) (m : ℕ) : Type 0 where
  pub by_ordinal : (x : Export) → Contains (Out l) x → EntryOf lib m (Ordinal x.ordinal) ≡ leads_to lib m x.target
  pub by_name : (x : Export) → Contains (Out l) x → EntryOf lib m (Named x.name) ≡ leads_to lib m x.target
  pub no_other_ordinal : (n : ℕ) → All (λ x. x.ordinal ≢ n) (Out l) → EntryOf lib m (Ordinal n) ≡ Err NoEntry
  pub no_other_name : (name : List ℕ) → All (λ x. x.name ≢ name) (Out l) → EntryOf lib m (Named name) ≡ Err NoEntry

-- So it is in every library that holds the module that the link's file means.
abbrev pub EntriesAreOut : Type 0
EntriesAreOut =
    (input : LinkInput) (l : Link) → Links input l → length (file_of (image_of l)) < 2 ^ 32
    → (lib : List Parts) (m : ℕ) → Holds lib m l → AreEntries l lib m
