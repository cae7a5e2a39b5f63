-- What the types of a link's input say of its names and numbers: a name has at most 255 bytes, and a number has 32 bits.
-- Every input that a program has is so; a value of the definitions alone need not be.
use Rattle.std.specs.Prelude.{◌<◌, ◌^◌, All, IfSome}
use Rattle.lx_types.specs.Names.{IsName}
use Rattle.lx_types.specs.declared.entry.EntryKey.{EntryKey}
use Rattle.lx_types.specs.declared.entry.EntryKey.TheVariants.{Ordinal, Named}
use Rattle.obj_types.specs.declared.symbol.Exp.{Exp}
use Rattle.obj_types.specs.declared.symbol.Imp.{Imp}
use Rattle.obj_types.specs.declared.object.ObjModule.{ObjModule}
use Rattle.obj_types.specs.declared.definition.DefFile.{DefFile}
use Rattle.obj_types.specs.declared.input.LinkInput.{LinkInput}

abbrev pub KeyInRange : EntryKey → Type 0
KeyInRange (Ordinal n) = n < 2 ^ 32
KeyInRange (Named name) = IsName name

pub record ImportInRange (i : Imp) : Type 0 where
  pub «module» : IsName i.module
  pub entry : KeyInRange i.entry

abbrev pub ExportInRange : Exp → Type 0
ExportInRange x = IsName x.name

pub record ModuleInRange (m : ObjModule) : Type 0 where
  pub imports : All ImportInRange m.imports
  pub exports : All ExportInRange m.exports

pub record DefInRange (d : DefFile) : Type 0 where
  pub name : IfSome d.name IsName
  pub about : IsName d.about
  pub heap : d.heap < 2 ^ 32
  pub imports : All ImportInRange d.imports
  pub exports : All ExportInRange d.exports

pub record InputInRange (input : LinkInput) : Type 0 where
  pub objects : All ModuleInRange input.objects
  pub libs : All ModuleInRange input.libs
  pub def : DefInRange input.def
  pub stem : IsName input.stem
