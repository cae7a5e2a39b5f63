-- Which modules can be written as an object file of plain records.
use Rattle.std.specs.Prelude.{◌≡◌, ◌≢◌, ◌≤◌, ◌<◌, true, false, List, [], ◌∷◌, ◌++◌, length, None}
use Rattle.std.specs.List.{AllByRecursion}
use Rattle.obj_types.specs.declared.object.Seg.{Seg}
use Rattle.obj_types.specs.declared.object.Piece.{Piece}
use Rattle.obj_types.specs.declared.object.FixAt.{FixAt}
use Rattle.obj_types.specs.declared.object.ObjModule.{ObjModule}
use Rattle.obj_types.specs.declared.symbol.Pub.{Pub}
use Rattle.obj_types.specs.declared.symbol.PubPlace.{PubPlace}
use Rattle.obj_types.specs.declared.symbol.PubPlace.TheVariants.{In, Const}
use Rattle.obj_types.specs.declared.symbol.Ext.{Ext}
use Rattle.obj_types.specs.declared.symbol.Exp.{Exp}
use Rattle.obj_types.specs.Whole.{WholeModule}
use Rattle.omf_model.specs.Items.{is_debug}
use Rattle.omf_model.specs.Fixups.{touches}
use Rattle.implib_model.specs.ImportModule.{ImportFits}
use Rattle.omf_write.specs.ObjectNames.{names_of}
use Rattle.omf_write.specs.ObjectBytes.{grpdef_bytes, lies_on}

-- no segment of a debugger's symbols or types
abbrev pub IsNoDebug : Seg → Type 0
IsNoDebug s = (s.debug ≡ false) × (is_debug s.name s.class ≡ false)

abbrev pub IsInSegment : PubPlace → Type 0
IsInSegment (In seg offset) = Unit {0}
IsInSegment (Const value) = ⊥

-- neither local nor a constant
abbrev pub IsPlainPub : Pub → Type 0
IsPlainPub p = (p.local ≡ false) × IsInSegment p.place

-- neither local nor communal
abbrev pub IsPlainExt : Ext → Type 0
IsPlainExt e = (e.local ≡ false) × (e.common ≡ None)

-- A fixup's location lies within a piece, or it shares no byte with it.
abbrev pub LiesOn : Piece → FixAt → Type 0
LiesOn p f = lies_on p f ≡ true

abbrev pub IsOff : Piece → FixAt → Type 0
IsOff p f = touches p.seg p.offset (length p.bytes) f ≡ false

-- The fixups stand in the order of their pieces: first those of the first piece, which share no byte with another
-- piece.
abbrev pub FollowPieces : List Piece → List FixAt → Type 0
FollowPieces [] fixes = fixes ≡ []
FollowPieces (p ∷ ps) fixes =
    (own : List FixAt) × (others : List FixAt) × (fixes ≡ own ++ others)
    × AllByRecursion (LiesOn p) own × AllByRecursion (IsOff p) others
    × AllByRecursion (λ q. AllByRecursion (IsOff q) own) ps
    × FollowPieces ps others

-- An index has 15 bits.
abbrev pub IsCounted : {A : Type 0} → List A → Type 0
IsCounted xs = length xs ≤ 32767

-- A group's record has room for its members, an export has an internal name, a piece has at most 1,024 bytes, and there
-- are no COMDATs.
pub record IsWritable (m : ObjModule) : Type 0 where
  pub whole : WholeModule m
  pub names : IsCounted (names_of m)
  pub segs : IsCounted m.segs
  pub groups : IsCounted m.groups
  pub exts : IsCounted m.exts
  pub no_debug : AllByRecursion IsNoDebug m.segs
  pub members : AllByRecursion (λ g. length (grpdef_bytes (names_of m) g) < 65535) m.groups
  pub plain_pubs : AllByRecursion IsPlainPub m.pubs
  pub plain_exts : AllByRecursion IsPlainExt m.exts
  pub fit_imports : AllByRecursion ImportFits m.imports
  pub internal : AllByRecursion (λ (e : Exp). e.internal ≢ []) m.exports
  pub short : AllByRecursion (λ (p : Piece). length p.bytes ≤ 1024) m.pieces
  pub follow : FollowPieces m.pieces m.fixes
  pub no_comdats : m.comdats ≡ []
