-- What one record gives to the lists of its module.
use Rattle.std.specs.Prelude.{ℕ, Bool, true, false, ◌&&◌, ◌||◌, List, [], ◌∷◌, length, map, ◌*◌, ◌/◌, ◌%◌, option_map, Option, Some, None, ◌==◌, if◌then◌else◌, unwrap_or, bytes_eq, codes}
use Rattle.lx_types.specs.declared.entry.EntryKey.{EntryKey}
use Rattle.lx_types.specs.declared.entry.EntryKey.TheVariants.{Ordinal, Named}
use Rattle.obj_types.specs.declared.object.Seg.{Seg}
use Rattle.obj_types.specs.declared.object.Group.{Group}
use Rattle.obj_types.specs.declared.object.Piece.{Piece}
use Rattle.obj_types.specs.declared.object.StartAt.{StartAt}
use Rattle.obj_types.specs.declared.object.Frame.TheVariants as frames
use Rattle.obj_types.specs.declared.object.Goal.TheVariants as goals
use Rattle.obj_types.specs.declared.symbol.Pub.{Pub}
use Rattle.obj_types.specs.declared.symbol.PubPlace.TheVariants.{In, Const}
use Rattle.obj_types.specs.declared.symbol.Common.{Common}
use Rattle.obj_types.specs.declared.symbol.Ext.{Ext}
use Rattle.obj_types.specs.declared.symbol.Imp.{Imp}
use Rattle.obj_types.specs.declared.symbol.Exp.{Exp}
use Rattle.std.specs.List.{sum_by}
use Rattle.obj_types.specs.declared.parts.ObjParts.{ObjParts}
use Rattle.obj_types.specs.declared.parts.BegunComdat.{BegunComdat}
use Rattle.obj_types.specs.declared.parts.LastData.{LastData}
use Rattle.obj_types.specs.declared.parts.LastData.TheVariants as datas
use Rattle.obj_types.specs.declared.parts.Threads.{Threads}
use Rattle.obj_types.specs.Items.{item}
use Rattle.omf_model.specs.Blocks.{block_bytes, expanded}
use Rattle.omf_model.specs.Record.{Record, header, default_library, impdef, expdef, lnames, segdef, grpdef, pubdef, extdef, comdef, ledata, lidata, comdat, fixupp, modend, SegDef, align_of, combine_of, is_big, is_use32, PubDef, ExtDef, ComDef, Communal, far, near, ImpDef, ExpDef, ImpEntry, by_ordinal, by_name, FixData, FixField}
use Rattle.omf_model.specs.Comdat.{ComDat, begun_with, number_of, public_with, piece_with, data_with, if_first}
use Rattle.omf_model.specs.Fixups.{frame_meant, goal_meant}

-- "96h LNAMES". The names count from 1.
abbrev pub names_in : Record → List (List ℕ)
names_in (lnames names) = names
names_in _ = []

abbrev pub name_with : List (List ℕ) → ℕ → List ℕ
name_with names i = unwrap_or (item names i) []

-- "98h SEGDEF". Big with length 0 means 65,536 bytes.
abbrev pub is_debug : List ℕ → List ℕ → Bool
is_debug name class =
    bytes_eq name (codes "$$SYMBOLS") && bytes_eq class (codes "DEBSYM")
    || bytes_eq name (codes "$$TYPES") && bytes_eq class (codes "DEBTYP")

abbrev pub seg_of : List (List ℕ) → SegDef → Seg
seg_of names d = record {
  name = name_with names d.name;
  class = name_with names d.class;
  align = align_of d.attributes;
  combine = combine_of d.attributes;
  wide = is_use32 d.attributes;
  len = if is_big d.attributes && d.len == 0 then 65536 else d.len;
  debug = is_debug (name_with names d.name) (name_with names d.class);
}

abbrev pub segs_in : List (List ℕ) → Record → List Seg
segs_in names (segdef d) = seg_of names d ∷ []
segs_in names _ = []

-- "9Ah GRPDEF". The members of FLAT are dropped.
abbrev pub group_of : List ℕ → List ℕ → Group
group_of name members = record { name = name; members = if bytes_eq name (codes "FLAT") then [] else members }

abbrev pub groups_in : List (List ℕ) → Record → List Group
groups_in names (grpdef name members) = group_of (name_with names name) members ∷ []
groups_in names _ = []

-- "C2h COMDAT": by its first record, with the names of LNAMES and the segments before it.
abbrev pub begun_in : List (List ℕ) → List Seg → Record → List BegunComdat
begun_in names segs (comdat d) = if_first d (begun_with segs (name_with names d.name) d)
begun_in names segs _ = []

abbrev pub begun_names : List BegunComdat → List (List ℕ)
begun_names begun = map (λ b. b.name) begun

-- The number of the segment of the record's name, where COMDATs of these names have begun.
abbrev pub number_in : List (List ℕ) → List (List ℕ) → ComDat → ℕ
number_in names begun d = number_of begun (name_with names d.name)

-- "90h PUBDEF", "B6h LPUBDEF". With segment index 0 the offset is a constant. "C2h COMDAT": its name.
abbrev pub pub_of : Bool → ℕ → PubDef → Pub
pub_of local segment d = record { name = d.name; local = local; place = if segment == 0 then Const d.offset else In segment d.offset }

abbrev pub pubs_in : List (List ℕ) → List (List ℕ) → Record → List Pub
pubs_in names begun (pubdef local group segment frame defs) = map (pub_of local segment) defs
pubs_in names begun (comdat d) = if_first d (public_with (number_in names begun d) (name_with names d.name) d)
pubs_in names begun _ = []

-- "8Ch EXTDEF", "B4h LEXTDEF" and "B0h COMDEF" share one numbering of externals.
abbrev pub communal_of : Communal → Common
communal_of (far count size) = record { far = true; len = count * size }
communal_of (near size) = record { far = false; len = size }

abbrev pub ext_of : Bool → ExtDef → Ext
ext_of local d = record { name = d.name; local = local; common = None }

abbrev pub com_of : ComDef → Ext
com_of d = record { name = d.name; local = false; common = Some (communal_of d.communal) }

abbrev pub exts_in : Record → List Ext
exts_in (extdef local defs) = map (ext_of local) defs
exts_in (comdef defs) = map com_of defs
exts_in _ = []

-- "88h COMENT": an empty entry name of an IMPDEF means the internal name, and an empty internal name of
-- an EXPDEF the exported name.
abbrev pub or_else : List ℕ → List ℕ → List ℕ
or_else name other = if length name == 0 then other else name

abbrev pub entry_of : List ℕ → ImpEntry → EntryKey
entry_of internal (by_ordinal n) = Ordinal n
entry_of internal (by_name name) = Named (or_else name internal)

abbrev pub import_of : ImpDef → Imp
import_of d = record { name = d.internal; «module» = d.from; entry = entry_of d.internal d.entry }

abbrev pub imports_in : Record → List Imp
imports_in (impdef d) = import_of d ∷ []
imports_in _ = []

abbrev pub export_of : ExpDef → Exp
export_of d = record {
  name = d.exported;
  internal = or_else d.internal d.exported;
  ordinal = d.ordinal;
  resident = d.flag / 64 % 2 == 1;
  nodata = d.flag / 32 % 2 == 1;
  words = d.flag % 32;
}

abbrev pub exports_in : Record → List Exp
exports_in (expdef d) = export_of d ∷ []
exports_in _ = []

abbrev pub deflibs_in : Record → List (List ℕ)
deflibs_in (default_library name) = name ∷ []
deflibs_in _ = []

-- "A0h LEDATA", "A2h LIDATA", "C2h COMDAT": the pieces, which are the data outside debug segments.
abbrev pub is_debug_seg : List Seg → ℕ → Bool
is_debug_seg segs i = unwrap_or (option_map (λ (s : Seg). s.debug) (item segs i)) false

abbrev pub outside : {A : Type 0} → List Seg → ℕ → A → List A
outside segs i x = if is_debug_seg segs i then [] else x ∷ []

abbrev pub pieces_in : List (List ℕ) → List Seg → List (List ℕ) → Record → List Piece
pieces_in names segs begun (ledata seg offset content) = outside segs seg (record { seg = seg; offset = offset; bytes = content })
pieces_in names segs begun (lidata wide seg offset blocks) = outside segs seg (record { seg = seg; offset = offset; bytes = expanded blocks })
pieces_in names segs begun (comdat d) = piece_with (number_in names begun d) d ∷ []
pieces_in names segs begun _ = []

-- The data to which the offsets of later fixups refer.
abbrev pub datas_in : List (List ℕ) → List Seg → List (List ℕ) → Record → List LastData
datas_in names segs begun (ledata seg offset content) =
    (if is_debug_seg segs seg then datas.Dropped else datas.Straight seg offset (length content)) ∷ []
datas_in names segs begun (lidata wide seg offset blocks) =
    (if is_debug_seg segs seg then datas.Dropped else datas.Blocks seg offset wide (block_bytes wide blocks)) ∷ []
datas_in names segs begun (comdat d) = data_with (number_in names begun d) d ∷ []
datas_in names segs begun _ = []

-- "9Ch FIXUPP".
abbrev pub fields_in : Record → List FixField
fields_in (fixupp fields) = fields
fields_in _ = []

-- "80h THEADR", "8Ah MODEND".
abbrev pub header_in : Record → List (List ℕ)
header_in (header name) = name ∷ []
header_in _ = []

abbrev pub start_of : Threads → Option FixData → Option StartAt
start_of ts None = None
start_of ts (Some d) = Some (record {
  frame = unwrap_or (frame_meant ts d) frames.Here;
  goal = unwrap_or (goal_meant ts d) (goals.Seg 0);
  disp = unwrap_or d.displacement 0;
})

abbrev pub starts_in : Threads → Record → List (Option StartAt)
starts_in ts (modend kind start) = start_of ts start ∷ []
starts_in ts _ = []

-- The bytes of the pieces so far.
abbrev pub data_so_far : ObjParts → ℕ
data_so_far p = sum_by (λ (piece : Piece). length piece.bytes) p.module.pieces
