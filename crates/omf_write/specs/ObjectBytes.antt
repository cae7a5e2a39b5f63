-- The bytes of an object file: one record for each name, segment, group, external, public, import, export and
-- default library, and for each piece of data its record and those of its fixups.
-- "Relocatable Object Module Format", the sections of the record types.
use Rattle.std.specs.Prelude.{ℕ, zero, suc, ◌+◌, ◌-◌, ◌*◌, ◌/◌, ◌%◌, Bool, ◌&&◌, not, List, [], ◌∷◌, ◌++◌, length, take, drop, Option, Some, None, nat_lt, nat_le, ◌==◌, if◌then◌else◌}
use Rattle.std.specs.List.{flat_map, prefix_len}
use Rattle.lx_bytes.specs.LittleEndian.{little_bytes}
use Rattle.obj_types.specs.declared.object.TheConstants.{ALIGN_ABSOLUTE}
use Rattle.obj_types.specs.declared.object.Seg.{Seg}
use Rattle.obj_types.specs.declared.object.Group.{Group}
use Rattle.obj_types.specs.declared.object.Piece.{Piece}
use Rattle.obj_types.specs.declared.object.Frame.{Frame}
use Rattle.obj_types.specs.declared.object.Frame.TheVariants as frames
use Rattle.obj_types.specs.declared.object.Goal.{Goal}
use Rattle.obj_types.specs.declared.object.Goal.TheVariants as goals
use Rattle.obj_types.specs.declared.object.FixAt.{FixAt}
use Rattle.obj_types.specs.declared.object.StartAt.{StartAt}
use Rattle.obj_types.specs.declared.object.ObjModule.{ObjModule}
use Rattle.obj_types.specs.declared.symbol.Pub.{Pub}
use Rattle.obj_types.specs.declared.symbol.PubPlace.{PubPlace}
use Rattle.obj_types.specs.declared.symbol.PubPlace.TheVariants.{In, Const}
use Rattle.obj_types.specs.declared.symbol.Ext.{Ext}
use Rattle.obj_types.specs.declared.symbol.Imp.{Imp}
use Rattle.obj_types.specs.declared.symbol.Exp.{Exp}
use Rattle.obj_types.specs.Location.{end_of}
use Rattle.omf_frame.specs.declared.comment_class.TheConstants.{DEFAULT_LIBRARY, EXTENSION, IMPDEF, EXPDEF}
use Rattle.omf_frame.specs.declared.record_type.TheConstants.{THEADR, COMENT, MODEND, MODEND_32, EXTDEF, PUBDEF_32, LNAMES, SEGDEF_32, GRPDEF, FIXUPP_32, LEDATA_32}
use Rattle.implib_model.specs.Framed.{record_of, name_bytes}
use Rattle.implib_model.specs.ImportModule.{flag_of, entry_bytes}
use Rattle.omf_write.specs.declared.fixups.TheConstants.{PER_RECORD}
use Rattle.omf_write.specs.ObjectNames.{NameList, names_of, texts, name_index}

-- ---- fields

-- an index in its shortest form
abbrev pub index_bytes : ℕ → List ℕ
index_bytes i = if nat_lt i 128 then i ∷ [] else (128 + i / 256 % 128) ∷ (i % 256) ∷ []

abbrev pub bit : Bool → ℕ
bit b = if b then 1 else 0

-- ---- names, segments, groups and symbols

abbrev pub lnames_record : List ℕ → List ℕ
lnames_record name = record_of LNAMES (name_bytes name)

abbrev pub name_records : NameList → List ℕ
name_records names = flat_map lnames_record (texts names)

-- Alignment, combine type and use32; the big bit stays clear, since the length has 4 bytes.
abbrev pub attributes_of : Seg → ℕ
attributes_of s = s.align % 8 * 32 + s.combine % 8 * 4 + bit s.wide

-- An absolute segment's frame and offset are 0.
abbrev pub place_bytes : ℕ → List ℕ
place_bytes align = if align == ALIGN_ABSOLUTE then 0 ∷ 0 ∷ 0 ∷ [] else []

abbrev pub segdef_bytes : NameList → Seg → List ℕ
segdef_bytes names s =
    attributes_of s ∷ (place_bytes s.align ++
    (little_bytes 4 s.len ++ (index_bytes (name_index names s.name) ++ (index_bytes (name_index names s.class) ++ 0 ∷ []))))

abbrev pub segdef_record : NameList → Seg → List ℕ
segdef_record names s = record_of SEGDEF_32 (segdef_bytes names s)

abbrev pub member_bytes : ℕ → List ℕ
member_bytes i = 255 ∷ index_bytes i

abbrev pub grpdef_bytes : NameList → Group → List ℕ
grpdef_bytes names g = index_bytes (name_index names g.name) ++ flat_map member_bytes g.members

abbrev pub grpdef_record : NameList → Group → List ℕ
grpdef_record names g = record_of GRPDEF (grpdef_bytes names g)

-- No type is defined, so its index is 0.
abbrev pub extdef_bytes : Ext → List ℕ
extdef_bytes e = name_bytes e.name ++ 0 ∷ []

abbrev pub extdef_record : Ext → List ℕ
extdef_record e = record_of EXTDEF (extdef_bytes e)

-- no group
abbrev pub pubdef_bytes : List ℕ → PubPlace → List ℕ
pubdef_bytes name (In seg offset) = 0 ∷ (index_bytes seg ++ (name_bytes name ++ (little_bytes 4 offset ++ 0 ∷ [])))
pubdef_bytes name (Const value) = []

abbrev pub pubdef_record : Pub → List ℕ
pubdef_record p = record_of PUBDEF_32 (pubdef_bytes p.name p.place)

-- ---- comments: flags 0, and a class

abbrev pub impdef_bytes : Imp → List ℕ
impdef_bytes i =
    0 ∷ EXTENSION ∷ IMPDEF ∷ flag_of i.entry ∷ (name_bytes i.name ++ (name_bytes i.«module» ++ entry_bytes i.name i.entry))

abbrev pub impdef_record : Imp → List ℕ
impdef_record i = record_of COMENT (impdef_bytes i)

-- An ordinal's bit is 80h, a resident name's 40h, and that of an export without data 20h.
abbrev pub ordinal_bit : Option ℕ → ℕ
ordinal_bit (Some n) = 128
ordinal_bit None = 0

abbrev pub ordinal_bytes : Option ℕ → List ℕ
ordinal_bytes (Some n) = little_bytes 2 n
ordinal_bytes None = []

abbrev pub export_flag : Exp → ℕ
export_flag e = ordinal_bit e.ordinal + bit e.resident * 64 + bit e.nodata * 32 + e.words % 32

abbrev pub expdef_bytes : Exp → List ℕ
expdef_bytes e =
    0 ∷ EXTENSION ∷ EXPDEF ∷ export_flag e ∷ (name_bytes e.name ++ (name_bytes e.internal ++ ordinal_bytes e.ordinal))

abbrev pub expdef_record : Exp → List ℕ
expdef_record e = record_of COMENT (expdef_bytes e)

abbrev pub deflib_bytes : List ℕ → List ℕ
deflib_bytes name = 0 ∷ DEFAULT_LIBRARY ∷ name

abbrev pub deflib_record : List ℕ → List ℕ
deflib_record name = record_of COMENT (deflib_bytes name)

-- ---- data and fixups

abbrev pub ledata_bytes : Piece → List ℕ
ledata_bytes p = index_bytes p.seg ++ (little_bytes 4 p.offset ++ p.bytes)

abbrev pub ledata_record : Piece → List ℕ
ledata_record p = record_of LEDATA_32 (ledata_bytes p)

abbrev pub frame_method : Frame → ℕ
frame_method (frames.Seg i) = 0
frame_method (frames.Group i) = 1
frame_method (frames.Ext i) = 2
frame_method frames.Here = 4
frame_method frames.OfTarget = 5

abbrev pub frame_bytes : Frame → List ℕ
frame_bytes (frames.Seg i) = index_bytes i
frame_bytes (frames.Group i) = index_bytes i
frame_bytes (frames.Ext i) = index_bytes i
frame_bytes frames.Here = []
frame_bytes frames.OfTarget = []

abbrev pub goal_method : Goal → ℕ
goal_method (goals.Seg i) = 0
goal_method (goals.Group i) = 1
goal_method (goals.Ext i) = 2

abbrev pub goal_index : Goal → ℕ
goal_index (goals.Seg i) = i
goal_index (goals.Group i) = i
goal_index (goals.Ext i) = i

-- The fix byte without threads, and what it says stands after it: indices, and a displacement of 4 bytes.
abbrev pub fix_data_bytes : Frame → Goal → ℕ → List ℕ
fix_data_bytes frame goal disp =
    (frame_method frame * 16 + goal_method goal) ∷ (frame_bytes frame ++ (index_bytes (goal_index goal) ++ little_bytes 4 disp))

-- The first two bytes: 80h, 40h where the location is segment-relative, its kind and its offset in the data.
abbrev pub location_high : FixAt → ℕ → ℕ
location_high f offset = 128 + bit (not f.selfrel) * 64 + f.loc % 16 * 4 + offset / 256 % 4

abbrev pub fixup_bytes : ℕ → FixAt → List ℕ
fixup_bytes from f =
    location_high f (f.offset - from) ∷ ((f.offset - from) % 256) ∷ fix_data_bytes f.frame f.goal f.disp

abbrev pub fixupp_record : ℕ → List FixAt → List ℕ
fixupp_record from fixes = record_of FIXUPP_32 (flat_map (fixup_bytes from) fixes)

-- So many records, each full but the last.
abbrev pub fixupp_records : ℕ → ℕ → List FixAt → List ℕ
fixupp_records zero from fixes = []
fixupp_records (suc n) from fixes = fixupp_record from (take PER_RECORD fixes) ++ fixupp_records n from (drop PER_RECORD fixes)

abbrev pub records_needed : List FixAt → ℕ
records_needed fixes = (length fixes + (PER_RECORD - 1)) / PER_RECORD

-- A fixup's location lies within a piece.
abbrev pub lies_on : Piece → FixAt → Bool
lies_on p f = f.seg == p.seg && (nat_le p.offset f.offset && nat_le (end_of f) (p.offset + length p.bytes))

abbrev pub on_piece : Piece → List FixAt → List FixAt
on_piece p fixes = take (prefix_len (lies_on p) fixes) fixes

abbrev pub after_piece : Piece → List FixAt → List FixAt
after_piece p fixes = drop (prefix_len (lies_on p) fixes) fixes

abbrev pub piece_records : Piece → List FixAt → List ℕ
piece_records p fixes = ledata_record p ++ fixupp_records (records_needed fixes) p.offset fixes

abbrev pub data_records : List Piece → List FixAt → List ℕ
data_records [] fixes = []
data_records (p ∷ ps) fixes = piece_records p (on_piece p fixes) ++ data_records ps (after_piece p fixes)

-- ---- the module

-- Module type C1h: a main module, with a start address that is relocated.
abbrev pub start_bytes : StartAt → List ℕ
start_bytes s = 0xC1 ∷ fix_data_bytes s.frame s.goal s.disp

abbrev pub end_record : Option StartAt → List ℕ
end_record None = record_of MODEND (0 ∷ [])
end_record (Some s) = record_of MODEND_32 (start_bytes s)

abbrev pub symbol_records : ObjModule → List ℕ
symbol_records m = flat_map extdef_record m.exts
    ++ (flat_map pubdef_record m.pubs ++ (flat_map impdef_record m.imports ++ (flat_map expdef_record m.exports ++ flat_map deflib_record m.deflibs)))

abbrev pub segment_records : NameList → ObjModule → List ℕ
segment_records names m = name_records names ++ (flat_map (segdef_record names) m.segs ++ flat_map (grpdef_record names) m.groups)

-- what stands between the header and the end
abbrev pub body_records : ObjModule → List ℕ
body_records m = segment_records (names_of m) m ++ (symbol_records m ++ data_records m.pieces m.fixes)

abbrev pub object_bytes : ObjModule → List ℕ
object_bytes m = record_of THEADR (name_bytes m.name) ++ (body_records m ++ end_record m.start)
