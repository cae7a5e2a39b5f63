-- An object module whose parts are those of another is the other.
use Rattle.std.proofs.Common.{◌≡◌, ℕ, List, None, refl}
use Rattle.obj_types.specs.declared.object.Comdat.{Comdat}
use Rattle.obj_types.specs.declared.object.FixAt.{FixAt}
use Rattle.obj_types.specs.declared.object.Group.{Group}
use Rattle.obj_types.specs.declared.object.ObjModule.{ObjModule}
use Rattle.obj_types.specs.declared.object.Piece.{Piece}
use Rattle.obj_types.specs.declared.object.Seg.{Seg}
use Rattle.obj_types.specs.declared.symbol.Exp.{Exp}
use Rattle.obj_types.specs.declared.symbol.Ext.{Ext}
use Rattle.obj_types.specs.declared.symbol.Imp.{Imp}
use Rattle.obj_types.specs.declared.symbol.Pub.{Pub}

pub same_parts : (m : ObjModule) {name : List ℕ} {segs : List Seg} {groups : List Group} {pubs : List Pub} {exts : List Ext} {pieces : List Piece}
    {fixes : List FixAt} {imports : List Imp} {exports : List Exp} {deflibs : List (List ℕ)} {comdats : List Comdat} → name ≡ m.name → segs ≡ m.segs → groups ≡ m.groups
    → pubs ≡ m.pubs → exts ≡ m.exts → pieces ≡ m.pieces → fixes ≡ m.fixes → imports ≡ m.imports → exports ≡ m.exports → deflibs ≡ m.deflibs
    → comdats ≡ m.comdats → None ≡ m.start
    → record {
      name = name;
      segs = segs;
      groups = groups;
      pubs = pubs;
      exts = exts;
      pieces = pieces;
      fixes = fixes;
      imports = imports;
      exports = exports;
      deflibs = deflibs;
      comdats = comdats;
      start = None;
    } ≡ m
same_parts m a b c d e f g h i j k l = rw (a, b, c, d, e, f, g, h, i, j, k, l) refl
