-- Which records are good after those before them.
use Rattle.std.specs.Prelude.{◌≡◌, ◌≢◌, ℕ, ◌+◌, ◌≤◌, Bool, true, false, List, [], ◌∷◌, ◌++◌, length, Option, IfSome, IsSome, is_some, not, ◌&&◌, bytes_eq, codes}
use Rattle.std.specs.List.{AllByRecursion, list_any}
use Rattle.obj_types.specs.declared.limits.TheConstants.{MAX_DATA, MAX_FIXES, MAX_DEPTH}
use Rattle.obj_types.specs.declared.object.Frame.{Frame}
use Rattle.obj_types.specs.declared.object.Frame.TheVariants as frames
use Rattle.obj_types.specs.declared.object.Goal.{Goal}
use Rattle.obj_types.specs.declared.object.Goal.TheVariants as goals
use Rattle.obj_types.specs.declared.parts.LastData.{LastData}
use Rattle.obj_types.specs.declared.parts.LastData.TheVariants as datas
use Rattle.obj_types.specs.declared.parts.ObjParts.{ObjParts}
use Rattle.obj_types.specs.declared.parts.TheConstants.{COMDAT_BASE}
use Rattle.obj_types.specs.Items.{IsIndex}
use Rattle.obj_types.specs.Location.{location_len}
use Rattle.obj_types.specs.Whole.{IsPlainSeg, LiesIn}
use Rattle.omf_model.specs.Blocks.{Blocks, FitBlocks, depth_of, expanded_len}
use Rattle.omf_model.specs.Comdat.{Base, ComDat, are_flags, is_selected, has_base, end_of}
use Rattle.omf_model.specs.ReadComdat.{is_in_turn, number_so_far}
use Rattle.omf_model.specs.Record.{Record, header, passed, comment, default_library, impdef, expdef, lnames, segdef, grpdef, pubdef, extdef, comdef, ledata, lidata, comdat, fixupp, modend, SegDef, PubDef, ExtDef, ComDef, FixData, FixField, thread, fixup, thread_method, by_frame_thread, frame_bits, by_target_thread, target_bits, location_of, offset_of, are_attributes}
use Rattle.omf_model.specs.Items.{name_with, is_debug_seg, communal_of, data_so_far}
use Rattle.omf_model.specs.Fixups.{frame_meant, goal_meant, has_data, has_index, fixes_by, are_apart, are_methods, have_of, is_location, is_thread_method, touches}
use Rattle.omf_model.specs.Add.{add_field}
use Rattle.omf_model.specs.Parts.{parts_of}

-- "98h SEGDEF": names that came before.
pub record GoodSegDef (p : ObjParts) (d : SegDef) : Type 0 where
  pub attributes : are_attributes d.attributes ≡ true
  pub name : IsIndex p.names d.name
  pub class : IsIndex p.names d.class
  pub overlay : d.overlay ≤ length p.names

-- "9Ah GRPDEF": a member of a group other than FLAT is no debug segment.
abbrev pub GoodMember : ObjParts → ℕ → ℕ → Type 0
GoodMember p name i = IsIndex p.module.segs i × (bytes_eq (name_with p.names name) (codes "FLAT") ≡ false → IsPlainSeg p.module i)

-- "90h PUBDEF": no group and no segment may be meant by 0. An index is no number of a COMDAT's segment.
pub record GoodPubDef (p : ObjParts) (group segment : ℕ) (defs : List PubDef) : Type 0 where
  pub in_group : group ≤ length p.module.groups
  pub in_segment : segment ≢ 0 → IsPlainSeg p.module segment
  pub index : segment ≤ COMDAT_BASE
  pub types : AllByRecursion (λ (d : PubDef). d.type ≡ 0) defs

-- "A0h LEDATA", "A2h LIDATA": data outside debug segments is within its segment's length and on no
-- location of an earlier fixup, and the module keeps its limit.
pub record GoodPlace (p : ObjParts) (seg offset len : ℕ) : Type 0 where
  pub range : LiesIn p.module seg offset len
  pub limit : data_so_far p + len ≤ MAX_DATA
  pub on_no_fix : list_any (touches seg offset len) p.module.fixes ≡ false

pub record GoodData (p : ObjParts) (seg offset len : ℕ) : Type 0 where
  pub segment : IsIndex p.module.segs seg
  pub index : seg ≤ COMDAT_BASE
  pub place : is_debug_seg p.module.segs seg ≡ false → GoodPlace p seg offset len

-- "A2h LIDATA": blocks are nested 16 deep at most.
pub record GoodBlocks (wide : Bool) (blocks : Blocks) : Type 0 where
  pub fit : FitBlocks wide blocks
  pub depth : depth_of blocks ≤ MAX_DEPTH

-- "C2h COMDAT": what came before, and no debug segment as base.
pub record GoodBase (p : ObjParts) (base : Base) : Type 0 where
  pub in_group : base.group ≤ length p.module.groups
  pub in_segment : IsPlainSeg p.module base.segment

pub record GoodComdatFields (p : ObjParts) (d : ComDat) : Type 0 where
  pub flags : are_flags d.flags ≡ true
  pub attributes : is_selected d.attributes ≡ true
  pub align : d.align ≤ 5
  pub type : d.type ≡ 0
  pub base_there : is_some d.base ≡ has_base d.attributes
  pub base : IfSome d.base (GoodBase p)
  pub name : IsIndex p.names d.name

-- It begins a COMDAT or goes on with one that has begun; its data ends within the limit of a module's data, which the module
-- keeps, and is on no location of an earlier fixup.
pub record GoodComdat (p : ObjParts) (d : ComDat) : Type 0 where
  pub fields : GoodComdatFields p d
  pub turn : is_in_turn p d ≡ true
  pub range : end_of d ≤ MAX_DATA
  pub limit : data_so_far p + length d.content ≤ MAX_DATA
  pub on_no_fix : list_any (touches (number_so_far p d) d.offset (length d.content)) p.module.fixes ≡ false

-- "9Ch FIXUPP": the methods are some, the indices that they call for are there, and the threads are set.
pub record GoodMethods (p : ObjParts) (d : FixData) : Type 0 where
  pub frame_there : is_some d.frame ≡ (not (by_frame_thread d.fix) && has_index (frame_bits d.fix))
  pub target_there : is_some d.target ≡ not (by_target_thread d.fix)
  pub methods : are_methods d.fix ≡ true
  pub frame_set : IsSome (frame_meant p.threads d)
  pub goal_set : IsSome (goal_meant p.threads d)

-- No debug segment.
abbrev pub IsPlainFrame : ObjParts → Frame → Type 0
IsPlainFrame p (frames.Seg i) = is_debug_seg p.module.segs i ≡ false
IsPlainFrame p (frames.Group i) = Unit {0}
IsPlainFrame p (frames.Ext i) = Unit {0}
IsPlainFrame p frames.Here = Unit {0}
IsPlainFrame p frames.OfTarget = Unit {0}

abbrev pub IsPlainGoal : ObjParts → Goal → Type 0
IsPlainGoal p (goals.Seg i) = is_debug_seg p.module.segs i ≡ false
IsPlainGoal p (goals.Group i) = Unit {0}
IsPlainGoal p (goals.Ext i) = Unit {0}

-- An index of a method's kind counts what came before.
abbrev pub HasMethod : ObjParts → ℕ → ℕ → Type 0
HasMethod p m i = (1 ≤ i) × (i ≤ have_of p m)

-- Frame and goal are no debug segments, and their own indices name what came before. (Those of their
-- threads did when the THREAD came.)
pub record GoodFixData (p : ObjParts) (d : FixData) : Type 0 where
  pub meant : GoodMethods p d
  pub frame_index : IfSome d.frame (HasMethod p (frame_bits d.fix))
  pub target_index : IfSome d.target (HasMethod p (target_bits d.fix))
  pub frame : IfSome (frame_meant p.threads d) (IsPlainFrame p)
  pub goal : IfSome (goal_meant p.threads d) (IsPlainGoal p)

-- A THREAD's index names something that came before, which may be a debug segment.
pub record GoodThread (p : ObjParts) (b : ℕ) (i : Option ℕ) : Type 0 where
  pub method : is_thread_method b ≡ true
  pub there : is_some i ≡ has_index (thread_method b)
  pub index : IfSome i (HasMethod p (thread_method b))

-- A FIXUP on data outside debug segments: a location that there is, within the last data record's data,
-- that shares no byte with an earlier one; the module keeps its limit.
pub record GoodFixup (p : ObjParts) (high low : ℕ) (d : FixData) : Type 0 where
  pub location : is_location high ≡ true
  pub what : GoodFixData p d
  pub on_data : has_data p.last (offset_of high low) (location_len (location_of high)) ≡ true
  pub apart : are_apart p.module.fixes (fixes_by p.last p.threads (fixup high low d)) ≡ true
  pub limit : length p.module.fixes + length (fixes_by p.last p.threads (fixup high low d)) ≤ MAX_FIXES

-- One on data of a debug segment is dropped.
abbrev pub GoodAfterData : LastData → ObjParts → ℕ → ℕ → FixData → Type 0
GoodAfterData datas.None p high low d = GoodFixup p high low d
GoodAfterData (datas.Straight seg offset len) p high low d = GoodFixup p high low d
GoodAfterData (datas.Blocks seg offset wide body) p high low d = GoodFixup p high low d
GoodAfterData datas.Dropped p high low d = GoodMethods p d

abbrev pub GoodField : ObjParts → FixField → Type 0
GoodField p (thread b index) = GoodThread p b index
GoodField p (fixup high low d) = GoodAfterData p.last p high low d

-- Each field is good after the records before and the fields of its own record before it.
abbrev pub GoodFields : ObjParts → List FixField → Type 0
GoodFields p [] = Unit {0}
GoodFields p (f ∷ rest) = GoodField p f × GoodFields (add_field p f) rest

-- The rules for each kind of record after an unfinished module.
abbrev pub GoodAfter : ObjParts → Record → Type 0
GoodAfter p (header text) = ⊥
GoodAfter p passed = Unit {0}
GoodAfter p comment = Unit {0}
GoodAfter p (default_library text) = length text ≤ 255
GoodAfter p (impdef d) = d.from ≢ []
GoodAfter p (expdef d) = d.exported ≢ []
GoodAfter p (lnames texts) = Unit {0}
GoodAfter p (segdef d) = GoodSegDef p d
GoodAfter p (grpdef name members) = IsIndex p.names name × AllByRecursion (GoodMember p name) members
GoodAfter p (pubdef local group segment frame defs) = GoodPubDef p group segment defs
GoodAfter p (extdef local defs) = AllByRecursion (λ (d : ExtDef). d.type ≡ 0) defs
GoodAfter p (comdef defs) = AllByRecursion (λ (d : ComDef). (d.type ≡ 0) × ((communal_of d.communal).len ≤ MAX_DATA)) defs
GoodAfter p (ledata seg offset content) = GoodData p seg offset (length content)
GoodAfter p (lidata wide seg offset blocks) = GoodBlocks wide blocks × GoodData p seg offset (expanded_len blocks)
GoodAfter p (comdat d) = GoodComdat p d
GoodAfter p (fixupp fields) = GoodFields p fields
GoodAfter p (modend kind start) = IfSome start (GoodFixData p)

-- Each record is good after those before it.
abbrev pub EachGood : List Record → List Record → Type 0
EachGood before [] = Unit {0}
EachGood before (r ∷ rs) = GoodAfter (parts_of before) r × EachGood (before ++ r ∷ []) rs
