-- What the types of a module's fields say: names fit a length byte, and numbers their fields.
use Rattle.std.specs.Prelude.{◌<◌, ◌^◌, IfSome}
use Rattle.std.specs.List.{AllByRecursion}
use Rattle.lx_types.specs.Names.{IsName}
use Rattle.obj_types.specs.declared.object.Seg.{Seg}
use Rattle.obj_types.specs.declared.object.Group.{Group}
use Rattle.obj_types.specs.declared.object.Piece.{Piece}
use Rattle.obj_types.specs.declared.object.FixAt.{FixAt}
use Rattle.obj_types.specs.declared.object.StartAt.{StartAt}
use Rattle.obj_types.specs.declared.object.ObjModule.{ObjModule}
use Rattle.obj_types.specs.declared.symbol.Pub.{Pub}
use Rattle.obj_types.specs.declared.symbol.PubPlace.{PubPlace}
use Rattle.obj_types.specs.declared.symbol.PubPlace.TheVariants.{In, Const}
use Rattle.obj_types.specs.declared.symbol.Ext.{Ext}
use Rattle.obj_types.specs.declared.symbol.Exp.{Exp}
use Rattle.implib_model.specs.ImportModule.{NamesFit}

pub record SegFits (s : Seg) : Type 0 where
  pub name : IsName s.name
  pub class : IsName s.class
  pub len : s.len < 2 ^ 32

abbrev pub GroupFits : Group → Type 0
GroupFits g = IsName g.name

abbrev pub ExtFits : Ext → Type 0
ExtFits e = IsName e.name

abbrev pub PlaceFits : PubPlace → Type 0
PlaceFits (In seg offset) = offset < 2 ^ 32
PlaceFits (Const value) = Unit {0}

pub record PubFits (p : Pub) : Type 0 where
  pub name : IsName p.name
  pub place : PlaceFits p.place

pub record ExpFits (e : Exp) : Type 0 where
  pub name : IsName e.name
  pub internal : IsName e.internal
  pub ordinal : IfSome e.ordinal (λ n. n < 2 ^ 16)

abbrev pub PieceFits : Piece → Type 0
PieceFits p = p.offset < 2 ^ 32

abbrev pub FixFits : FixAt → Type 0
FixFits f = f.disp < 2 ^ 32

abbrev pub StartFits : StartAt → Type 0
StartFits s = s.disp < 2 ^ 32

pub record SegmentsFit (m : ObjModule) : Type 0 where
  pub segs : AllByRecursion SegFits m.segs
  pub groups : AllByRecursion GroupFits m.groups

pub record SymbolsFit (m : ObjModule) : Type 0 where
  pub exts : AllByRecursion ExtFits m.exts
  pub pubs : AllByRecursion PubFits m.pubs
  pub imports : AllByRecursion NamesFit m.imports
  pub exports : AllByRecursion ExpFits m.exports
  pub deflibs : AllByRecursion IsName m.deflibs

pub record ObjectFits (m : ObjModule) : Type 0 where
  pub name : IsName m.name
  pub segments : SegmentsFit m
  pub symbols : SymbolsFit m
  pub pieces : AllByRecursion PieceFits m.pieces
  pub fixes : AllByRecursion FixFits m.fixes
  pub start : IfSome m.start StartFits
