-- When an object module is whole: what each reader of object files makes sure of.
use Rattle.std.specs.Prelude.{◌≡◌, ◌≢◌, ℕ, ◌+◌, ◌≤◌, ◌<◌, Bool, true, false, List, [], ◌∷◌, length, filter, IfSome, IsSomeAnd, ◌==◌, codes}
use Rattle.std.specs.List.{All, AllPairs, sum_by}
use Rattle.obj_types.specs.declared.limits.TheConstants.{MAX_DATA, MAX_FIXES}
use Rattle.obj_types.specs.declared.object.Seg.{Seg}
use Rattle.obj_types.specs.declared.object.Group.{Group}
use Rattle.obj_types.specs.declared.object.Piece.{Piece}
use Rattle.obj_types.specs.declared.object.Frame.{Frame}
use Rattle.obj_types.specs.declared.object.Frame.TheVariants as frames
use Rattle.obj_types.specs.declared.object.Goal.{Goal}
use Rattle.obj_types.specs.declared.object.Goal.TheVariants as goals
use Rattle.obj_types.specs.declared.object.FixAt.{FixAt}
use Rattle.obj_types.specs.declared.object.StartAt.{StartAt}
use Rattle.obj_types.specs.declared.object.Comdat.{Comdat}
use Rattle.obj_types.specs.declared.object.ObjModule.{ObjModule}
use Rattle.obj_types.specs.declared.symbol.PubPlace.{PubPlace}
use Rattle.obj_types.specs.declared.symbol.PubPlace.TheVariants.{In, Const}
use Rattle.obj_types.specs.declared.symbol.Pub.{Pub}
use Rattle.obj_types.specs.declared.symbol.Imp.{Imp}
use Rattle.obj_types.specs.declared.symbol.Exp.{Exp}
use Rattle.obj_types.specs.Items.{item, IsIndex}
use Rattle.obj_types.specs.Location.{location_len, has_selector, meets}

-- "98h SEGDEF": the alignments and combine types that there are.
pub record WholeSeg (s : Seg) : Type 0 where
  pub align : s.align ≤ 5
  pub combine : s.combine ≤ 7
  pub not_reserved : (s.combine ≢ 1) × (s.combine ≢ 3)

-- The index of a segment that is no debug segment.
abbrev pub IsPlainSeg : ObjModule → ℕ → Type 0
IsPlainSeg m i = IsSomeAnd (item m.segs i) (λ s. s.debug ≡ false)

-- So many bytes from an offset on lie in a segment that is no debug segment.
abbrev pub LiesIn : ObjModule → ℕ → ℕ → ℕ → Type 0
LiesIn m i offset len = IsSomeAnd (item m.segs i) (λ s. (s.debug ≡ false) × (offset + len ≤ s.len))

-- "9Ah GRPDEF": FLAT has no members.
pub record WholeGroup (m : ObjModule) (g : Group) : Type 0 where
  pub members : All (IsPlainSeg m) g.members
  pub flat : g.name ≡ codes "FLAT" → g.members ≡ []

-- "90h PUBDEF".
abbrev pub WholePlace : ObjModule → PubPlace → Type 0
WholePlace m (In seg offset) = IsPlainSeg m seg
WholePlace m (Const value) = Unit {0}

-- "9Ch FIXUPP": the frame methods.
abbrev pub WholeFrame : ObjModule → Frame → Type 0
WholeFrame m (frames.Seg i) = IsPlainSeg m i
WholeFrame m (frames.Group i) = IsIndex m.groups i
WholeFrame m (frames.Ext i) = IsIndex m.exts i
WholeFrame m frames.Here = Unit {0}
WholeFrame m frames.OfTarget = Unit {0}

-- "9Ch FIXUPP": the target methods.
abbrev pub WholeGoal : ObjModule → Goal → Type 0
WholeGoal m (goals.Seg i) = IsPlainSeg m i
WholeGoal m (goals.Group i) = IsIndex m.groups i
WholeGoal m (goals.Ext i) = IsIndex m.exts i

-- "9Ch FIXUPP": a location with a selector is not self-relative.
pub record WholeFix (m : ObjModule) (f : FixAt) : Type 0 where
  pub location : 0 < location_len f.loc
  pub relative : has_selector f.loc ≡ true → f.selfrel ≡ false
  pub place : LiesIn m f.seg f.offset (location_len f.loc)
  pub frame : WholeFrame m f.frame
  pub goal : WholeGoal m f.goal

-- "8Ah MODEND".
abbrev pub WholeStart : ObjModule → StartAt → Type 0
WholeStart m s = WholeFrame m s.frame × WholeGoal m s.goal

-- "88h COMENT", EXPDEF.
abbrev pub WholeExp : Exp → Type 0
WholeExp e = (e.name ≢ []) × (e.words ≤ 31)

-- "C2h COMDAT": what names no segment of a COMDAT.
abbrev pub IsApartFrame : ℕ → Frame → Type 0
IsApartFrame seg (frames.Seg i) = i ≢ seg
IsApartFrame seg (frames.Group i) = Unit {0}
IsApartFrame seg (frames.Ext i) = Unit {0}
IsApartFrame seg frames.Here = Unit {0}
IsApartFrame seg frames.OfTarget = Unit {0}

abbrev pub IsApartGoal : ℕ → Goal → Type 0
IsApartGoal seg (goals.Seg i) = i ≢ seg
IsApartGoal seg (goals.Group i) = Unit {0}
IsApartGoal seg (goals.Ext i) = Unit {0}

-- A public is in a segment.
abbrev pub is_in_seg : ℕ → PubPlace → Bool
is_in_seg seg (In i offset) = i == seg
is_in_seg seg (Const value) = false

abbrev pub pubs_in_seg : ObjModule → ℕ → List Pub
pubs_in_seg m seg = filter (λ p. is_in_seg seg p.place) m.pubs

-- The one public in a COMDAT's segment, which is at its begin.
pub record IsOnlyPublic (m : ObjModule) (c : Comdat) (p : Pub) : Type 0 where
  pub only : pubs_in_seg m c.seg ≡ p ∷ []
  pub name : p.name ≡ c.name
  pub begin : p.place ≡ In c.seg 0

-- A COMDAT's segment holds its public alone, and no frame and no goal names it.
pub record WholeComdat (m : ObjModule) (c : Comdat) : Type 0 where
  pub segment : IsIndex m.segs c.seg
  pub public : (p : Pub) × IsOnlyPublic m c p
  pub frames : All (λ (f : FixAt). IsApartFrame c.seg f.frame) m.fixes
  pub goals : All (λ (f : FixAt). IsApartGoal c.seg f.goal) m.fixes
  pub start_frame : IfSome m.start (λ (s : StartAt). IsApartFrame c.seg s.frame)
  pub start_goal : IfSome m.start (λ (s : StartAt). IsApartGoal c.seg s.goal)

pub record WholeModule (m : ObjModule) : Type 0 where
  pub segs : All WholeSeg m.segs
  pub groups : All (WholeGroup m) m.groups
  pub pubs : All (λ (p : Pub). WholePlace m p.place) m.pubs
  pub pieces : All (λ (p : Piece). LiesIn m p.seg p.offset (length p.bytes)) m.pieces
  pub fixes : All (WholeFix m) m.fixes
  pub apart : AllPairs (λ f g. meets f g ≡ false) m.fixes
  pub imports : All (λ (i : Imp). i.module ≢ []) m.imports
  pub exports : All WholeExp m.exports
  pub start : IfSome m.start (WholeStart m)
  pub data_limit : sum_by (λ (p : Piece). length p.bytes) m.pieces ≤ MAX_DATA
  pub fix_limit : length m.fixes ≤ MAX_FIXES
  pub comdats : All (WholeComdat m) m.comdats
  pub comdats_apart : AllPairs (λ (c d : Comdat). c.seg ≢ d.seg) m.comdats
