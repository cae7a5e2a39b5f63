-- A small module with one item of each kind.
use Rattle.std.specs.Prelude.{true, false, List, [], ◌∷◌, Some, None, codes}
use Rattle.lx_types.specs.declared.entry.EntryKey.TheVariants.{Ordinal}
use Rattle.obj_types.specs.declared.object.Seg.{Seg}
use Rattle.obj_types.specs.declared.object.Group.{Group}
use Rattle.obj_types.specs.declared.object.Piece.{Piece}
use Rattle.obj_types.specs.declared.object.Frame.TheVariants as frames
use Rattle.obj_types.specs.declared.object.Goal.TheVariants as goals
use Rattle.obj_types.specs.declared.object.FixAt.{FixAt}
use Rattle.obj_types.specs.declared.object.StartAt.{StartAt}
use Rattle.obj_types.specs.declared.object.ObjModule.{ObjModule}
use Rattle.obj_types.specs.declared.symbol.Pub.{Pub}
use Rattle.obj_types.specs.declared.symbol.PubPlace.TheVariants.{In}
use Rattle.obj_types.specs.declared.symbol.Ext.{Ext}
use Rattle.obj_types.specs.declared.symbol.Imp.{Imp}
use Rattle.obj_types.specs.declared.symbol.Exp.{Exp}

abbrev pub sample_segs : List Seg
sample_segs =
    (record { name = codes "CODE32"; class = codes "CODE"; align = 5; combine = 2; wide = true; len = 8; debug = false }) ∷ []

abbrev pub sample_groups : List Group
sample_groups = (record { name = codes "FLAT"; members = [] }) ∷ []

abbrev pub sample_exts : List Ext
sample_exts = (record { name = codes "g"; local = false; common = None }) ∷ []

abbrev pub sample_pubs : List Pub
sample_pubs = (record { name = codes "a"; local = false; place = In 1 4 }) ∷ []

abbrev pub sample_imports : List Imp
sample_imports = (record { name = codes "f"; «module» = codes "Mod"; entry = Ordinal 7 }) ∷ []

abbrev pub sample_exports : List Exp
sample_exports =
    (record { name = codes "a"; internal = codes "b"; ordinal = Some 1; resident = true; nodata = false; words = 2 }) ∷ []

abbrev pub sample_pieces : List Piece
sample_pieces = (record { seg = 1; offset = 0; bytes = 1 ∷ 2 ∷ 3 ∷ 4 ∷ 5 ∷ 6 ∷ 7 ∷ 8 ∷ [] }) ∷ []

abbrev pub sample_fixes : List FixAt
sample_fixes =
    (record { seg = 1; offset = 0; loc = 9; selfrel = true; frame = frames.Here; goal = goals.Ext 1; disp = 0 })
    ∷ (record { seg = 1; offset = 4; loc = 9; selfrel = false; frame = frames.Group 1; goal = goals.Seg 1; disp = 70000 })
    ∷ []

abbrev pub sample_start : StartAt
sample_start = record { frame = frames.OfTarget; goal = goals.Seg 1; disp = 4 }

abbrev pub sample_module : ObjModule
sample_module = record {
  name = codes "A";
  segs = sample_segs;
  groups = sample_groups;
  pubs = sample_pubs;
  exts = sample_exts;
  pieces = sample_pieces;
  fixes = sample_fixes;
  imports = sample_imports;
  exports = sample_exports;
  deflibs = codes "L" ∷ [];
  start = Some sample_start;
  comdats = [];
}
