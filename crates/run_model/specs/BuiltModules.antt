-- What a module that a session builds is in the session's library, by its link. The bytes of its objects are not told here:
-- those are `held`.
use Rattle.std.specs.Prelude.{◌≡◌, ℕ, ◌==◌, Bool, false, List, map, find, bytes_eq, slice_get, Option, Some, None, Result, Ok, Err}
use Rattle.lx_types.specs.declared.entry.EntryKey.{EntryKey}
use Rattle.lx_types.specs.declared.entry.EntryKey.TheVariants.{Ordinal, Named}
use Rattle.lx_types.specs.declared.object.ObjHead.{ObjHead}
use Rattle.lx_types.specs.declared.object.PageId.{PageId}
use Rattle.link_model.specs.declared.symbols.LaidObject.{LaidObject}
use Rattle.link_model.specs.Exports.{ExportTarget, At, Forward, Export, Out}
use Rattle.link_model.specs.Header.{module_name}
use Rattle.link_model.specs.Layout.{objects}
use Rattle.link_model.specs.Link.{Link}
use Rattle.link_model.specs.Start.{Start}
use Rattle.lx_model.specs.declared.library.Spot.{Spot}
use Rattle.lx_model.specs.declared.library.EntryFault.{EntryFault}
use Rattle.lx_model.specs.declared.library.EntryFault.TheVariants.{NoEntry}
use Rattle.lx_model.specs.Entries.{EntryOf}
use Rattle.lx_model.specs.Library.{module_of, library_named}
use Rattle.image_model.specs.Linked.{module_flags, link_modules}
use Rattle.image_model.specs.World.{entry_in}
use Rattle.load_model.specs.Modules.{Library, is_invalid, resource_of}
use Rattle.run_model.specs.Sources.{Source, built, library_of}

-- ---- entry points

-- An export is asked for by its ordinal or by its name.
abbrev pub is_asked : EntryKey → Export → Bool
is_asked (Ordinal n) x = x.ordinal == n
is_asked (Named name) x = bytes_eq x.name name

-- It leads to its place in module m, or where its forwarder does in the library that has the module name of the pair. There are
-- no entry points where no library has that name.
abbrev pub leads_to : Library → ℕ → ExportTarget → Result Spot EntryFault
leads_to lib m (At object offset) = Ok (record { «module» = m; object = object; offset = offset })
leads_to lib m (Forward pair) = entry_in lib (library_named lib pair.module) pair.entry

abbrev pub leads_or_none : Library → ℕ → Option Export → Result Spot EntryFault
leads_or_none lib m (Some x) = leads_to lib m x.target
leads_or_none lib m None = Err NoEntry

-- the entry point of module m that a key asks for, by these exports
abbrev pub entry_among : Library → ℕ → List Export → EntryKey → Result Spot EntryFault
entry_among lib m exports key = leads_or_none lib m (find (is_asked key) exports)

-- ---- the module

-- an object, as a layout has it
abbrev pub laid : ObjHead → LaidObject
laid o = record { size = o.size; base = o.base; flags = o.flags }

-- Its name and its flags are those that the link gives it; its start, its import modules, and its objects with their sizes, linked
-- bases and flags are those of the link's layout; its entry points are the link's exports; none of its pages is invalid; and it
-- has no resources.
pub record IsOfLink (lib : Library) (m : ℕ) (l : Link) : Type 0 where
  pub name : (module_of lib m).name ≡ module_name l
  pub flags : (module_of lib m).flags ≡ module_flags l.def
  pub start : (module_of lib m).start ≡ Start l
  pub objects : map laid (module_of lib m).objects ≡ objects l
  pub imports : (module_of lib m).imports ≡ link_modules l
  pub entries : (key : EntryKey) → EntryOf lib m key ≡ entry_among lib m (Out l) key
  pub pages : (p : PageId) → is_invalid lib m p ≡ false
  pub resources : (ty id : ℕ) → resource_of lib m ty id ≡ None

-- So is each module that is built.
abbrev pub AreOfLinks : List Source → Type 0
AreOfLinks sources = (m : ℕ) (l : Link) → slice_get sources m ≡ Some (built l) → IsOfLink (library_of sources) m l
