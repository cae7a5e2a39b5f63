-- What a link puts into its pages.
use Rattle.std.specs.Prelude.{◌≡◌, ℕ, ◌<◌, List, All, Option, map}
use Rattle.obj_types.specs.Location.{location_len}
use Rattle.obj_types.specs.declared.object.ObjModule.{ObjModule}
use Rattle.link_model.specs.declared.symbols.LaidObject.{LaidObject}
use Rattle.link_model.specs.declared.refusals.FixRefusal.{FixRefusal}
use Rattle.link_model.specs.Words.{first_of}
use Rattle.link_model.specs.Link.{Link}
use Rattle.link_model.specs.Symbols as symbols
use Rattle.link_model.specs.Layout as layout
use Rattle.link_model.specs.Fixups as rules
use Rattle.link_model.specs.Start as start
use Rattle.link_model.specs.Patches.{object_bytes}
use Rattle.link_model.specs.Records.{object_records}
use Rattle.link_model.specs.ImportTables.{used_pairs, modules_in, procs_in}
use Rattle.link_types.specs.Symbols.{SymbolTable}
use Rattle.link_types.specs.declared.places.Places.{Places}
use Rattle.link_place.specs.declared.placing.Placed.{Placed}
use Rattle.link_types.specs.Places.{ArePlaces}
use Rattle.link_place.specs.Meanings.{HasMeanings}

-- The fixups of a module stand on locations that there are.
abbrev pub HasLocations : ObjModule → Type 0
HasLocations m = All (λ f. 0 < location_len f.loc) m.fixes

-- These are a link's modules, symbols, places and objects.
pub record AreLaid (l : Link) (ms : List ObjModule) (s : SymbolTable) (p : Places) (os : List LaidObject) : Type 0 where
  pub modules : l.modules ≡ ms
  pub meanings : HasMeanings l s
  pub imports : s.imports ≡ symbols.imports l
  pub places : ArePlaces l p
  pub objects : os ≡ layout.objects l

-- The refusal of the first fixup that has one.
abbrev pub fixup_refusal : Link → Option FixRefusal
fixup_refusal l = first_of (map rules.fix_refusal (rules.fixups l))

-- These are a link's bytes before the loader, the records that are left to it, its import tables and its start.
pub record ArePlaced (l : Link) (stack : Option (ℕ × ℕ)) (p : Placed) : Type 0 where
  pub bytes : p.bytes ≡ object_bytes l
  pub fixes : p.fixes ≡ object_records l
  pub imports : p.imports ≡ modules_in (used_pairs l)
  pub procs : p.procs ≡ procs_in (used_pairs l)
  pub start : p.start ≡ start.Start l
  pub top : p.stack ≡ stack
