-- What the file of a link is read as, in the words of the link.
use Rattle.std.specs.Prelude.{◌≡◌, map}
use Rattle.lx_types.specs.declared.object.ObjHead.{ObjHead}
use Rattle.lx_types.specs.declared.parts.Parts.{Parts}
use Rattle.link_model.specs.declared.symbols.LaidObject.{LaidObject}
use Rattle.link_model.specs.Link.{Link}
use Rattle.link_model.specs.Header.{module_name}
use Rattle.link_model.specs.Layout.{objects}
use Rattle.link_model.specs.Start.{Start}
use Rattle.lx_model.specs.ExportTables.{entries_by_ordinal}
use Rattle.lx_model.specs.Module.{parts_of}
use Rattle.image_model.specs.Exported.{exported_of}
use Rattle.image_model.specs.File.{file_of}
use Rattle.image_model.specs.Linked.{module_flags, link_modules, image_of}
use Rattle.image_model.specs.ReadBack.{ImageFits}

-- An object of the file, as the layout has it.
abbrev pub laid : ObjHead → LaidObject
laid o = record { size = o.size; base = o.base; flags = o.flags }

-- The name, the module flags and the start are the link's; sizes, linked bases and flags of objects are the layout's; the
-- import modules are those that records and forwarders name, in order of first use; the entries are the exports, by rising
-- ordinals.
pub record ReadAsLinked (l : Link) (m : Parts) : Type 0 where
  pub name : m.name ≡ module_name l
  pub flags : m.flags ≡ module_flags l.def
  pub start : m.start ≡ Start l
  pub objects : map laid m.objects ≡ objects l
  pub imports : m.imports ≡ link_modules l
  pub entries : m.entries ≡ entries_by_ordinal (exported_of l)

-- So it is of each link whose image fits.
abbrev pub LinksReadBack : Type 0
LinksReadBack = (l : Link) → ImageFits (image_of l) → ReadAsLinked l (parts_of (file_of (image_of l)))
