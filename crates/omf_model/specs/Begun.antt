-- What an unfinished module is: what a reader of a record may assume of the parts that it is given.
use Rattle.std.specs.Prelude.{◌≡◌, ℕ, ◌+◌, ◌<◌, ◌≤◌, ◌⊎◌, true, false, List, [], ◌∷◌, ◌++◌, length, Option, IfSome}
use Rattle.std.specs.List.{All, AllByRecursion, Contains}
use Rattle.obj_types.specs.declared.limits.TheConstants.{MAX_DATA}
use Rattle.obj_types.specs.declared.object.Piece.{Piece}
use Rattle.obj_types.specs.declared.object.Frame.{Frame}
use Rattle.obj_types.specs.declared.object.Frame.TheVariants as frames
use Rattle.obj_types.specs.declared.object.Goal.{Goal}
use Rattle.obj_types.specs.declared.object.Goal.TheVariants as goals
use Rattle.obj_types.specs.declared.object.FixAt.{FixAt}
use Rattle.obj_types.specs.declared.object.ObjModule.{ObjModule}
use Rattle.obj_types.specs.declared.symbol.PubPlace.{PubPlace}
use Rattle.obj_types.specs.declared.symbol.PubPlace.TheVariants.{In, Const}
use Rattle.obj_types.specs.declared.symbol.Pub.{Pub}
use Rattle.obj_types.specs.declared.parts.LastData.{LastData}
use Rattle.obj_types.specs.declared.parts.LastData.TheVariants as datas
use Rattle.obj_types.specs.declared.parts.ObjParts.{ObjParts}
use Rattle.obj_types.specs.declared.parts.TheConstants.{COMDAT_BASE}
use Rattle.obj_types.specs.Items.{IsIndex}
use Rattle.obj_types.specs.Location.{location_len}
use Rattle.obj_types.specs.Whole.{IsPlainSeg, LiesIn, WholeModule}
use Rattle.omf_model.specs.Blocks.{expanded_len}
use Rattle.omf_model.specs.Record.{Record, header, is_end}
use Rattle.omf_model.specs.Fixups.{has_data, data_segment, copies_of, touches}
use Rattle.omf_model.specs.ReadBlocks.{blocks_in}
use Rattle.omf_model.specs.Items.{data_so_far}
use Rattle.omf_model.specs.Parts.{parts_of}
use Rattle.omf_model.specs.Finished.{greatest_end, finished}
use Rattle.omf_model.specs.AddLists.{HasFour}
use Rattle.omf_model.specs.Good.{EachGood}

-- The records of a module so far: a header, and records each good after those before it.
pub record AreBegun (rs : List Record) : Type 0 where
  pub name : List ℕ
  pub others : List Record
  pub headed : rs ≡ header name ∷ others
  pub good : EachGood (header name ∷ []) others

-- None of them ends the module.
abbrev pub IsOpen : List Record → Type 0
IsOpen rs = AllByRecursion (λ r. is_end r ≡ false) rs

-- An unfinished module: what such records say that do not end it.
pub record IsBegun (p : ObjParts) : Type 0 where
  pub records : List Record
  pub begun : AreBegun records
  pub still : IsOpen records
  pub meant : p ≡ parts_of records

-- ---- what it gives

-- The number of the segment of a COMDAT that has begun.
abbrev pub IsComdat : ObjParts → ℕ → Type 0
IsComdat p number = (COMDAT_BASE < number) × (number ≤ COMDAT_BASE + length p.comdats)

-- The number of a segment: an index of one that is no debug segment, or that of a COMDAT.
abbrev pub IsNumber : ObjParts → ℕ → Type 0
IsNumber p number = ((number ≤ COMDAT_BASE) × IsPlainSeg p.module number) ⊎ IsComdat p number

abbrev pub IsNumbered : ObjParts → PubPlace → Type 0
IsNumbered p (In number offset) = IsNumber p number
IsNumbered p (Const value) = Unit {0}

-- So many bytes from an offset on lie within the data of a COMDAT so far, which ends within the limit.
pub record LiesInComdat (p : ObjParts) (number offset len : ℕ) : Type 0 where
  pub comdat : IsComdat p number
  pub within : offset + len ≤ greatest_end p.module.pieces number
  pub limit : offset + len ≤ MAX_DATA

-- They lie in the segment of a number.
abbrev pub LiesAt : ObjParts → ℕ → ℕ → ℕ → Type 0
LiesAt p number offset len = ((number ≤ COMDAT_BASE) × LiesIn p.module number offset len) ⊎ LiesInComdat p number offset len

-- The last data record's data lies in its segment.
abbrev pub LastFits : ObjParts → LastData → Type 0
LastFits p datas.None = Unit {0}
LastFits p (datas.Straight number offset len) = LiesAt p number offset len
LastFits p (datas.Blocks seg offset wide body) = (seg ≤ COMDAT_BASE) × LiesIn p.module seg offset (expanded_len (blocks_in wide body))
LastFits p datas.Dropped = Unit {0}

-- What a thread names came before. It may be a debug segment.
abbrev pub InFrame : ObjModule → Frame → Type 0
InFrame m (frames.Seg i) = IsIndex m.segs i
InFrame m (frames.Group i) = IsIndex m.groups i
InFrame m (frames.Ext i) = IsIndex m.exts i
InFrame m frames.Here = Unit {0}
InFrame m frames.OfTarget = Unit {0}

abbrev pub InGoal : ObjModule → Goal → Type 0
InGoal m (goals.Seg i) = IsIndex m.segs i
InGoal m (goals.Group i) = IsIndex m.groups i
InGoal m (goals.Ext i) = IsIndex m.exts i

-- The place of the last data record's data, and how long it is. Dropped data has no place.
abbrev pub last_offset : LastData → ℕ
last_offset datas.None = 0
last_offset (datas.Straight seg offset len) = offset
last_offset (datas.Blocks seg offset wide body) = offset
last_offset datas.Dropped = 0

abbrev pub last_len : LastData → ℕ
last_len datas.None = 0
last_len (datas.Straight seg offset len) = len
last_len (datas.Blocks seg offset wide body) = expanded_len (blocks_in wide body)
last_len datas.Dropped = 0

-- A fix of a fixup on the last data record: a copy of an offset at which the record has the location's bytes.
pub record IsOnLast (last : LastData) (f : FixAt) : Type 0 where
  pub segment : f.seg ≡ data_segment last
  pub offset : ℕ
  pub on_data : has_data last offset (location_len f.loc) ≡ true
  pub copy : Contains (copies_of last offset) f.offset

-- The fixes are those of fixups on earlier data records, which touch no byte of the last one, and those of
-- fixups on the last one.
pub record SplitsAtLast (last : LastData) (fixes : List FixAt) : Type 0 where
  pub earlier : List FixAt
  pub own : List FixAt
  pub joined : fixes ≡ earlier ++ own
  pub outside : AllByRecursion (λ f. touches (data_segment last) (last_offset last) (last_len last) f ≡ false) earlier
  pub inside : AllByRecursion (IsOnLast last) own

-- The module that it is at its end would be whole. What its publics, its pieces and its fixes name by number is there.
pub record IsWholeSoFar (p : ObjParts) : Type 0 where
  pub whole : WholeModule (finished p)
  pub pubs : All (λ (q : Pub). IsNumbered p q.place) p.module.pubs
  pub pieces : All (λ (q : Piece). LiesAt p q.seg q.offset (length q.bytes)) p.module.pieces
  pub fixes : All (λ (f : FixAt). LiesAt p f.seg f.offset (location_len f.loc)) p.module.fixes
  pub data_limit : data_so_far p ≤ MAX_DATA
  pub last : LastFits p p.last
  pub frames_set : All (λ (o : Option Frame). IfSome o (InFrame p.module)) p.threads.frame
  pub goals_set : All (λ (o : Option Goal). IfSome o (InGoal p.module)) p.threads.goal
  pub four : HasFour p.threads
  pub split : SplitsAtLast p.last p.module.fixes
