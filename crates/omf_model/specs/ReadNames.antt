-- Reading the records of names, segments, groups, symbols and comments after the records before them.
-- "96h LNAMES", "98h SEGDEF", "9Ah GRPDEF", "90h PUBDEF", "8Ch EXTDEF", "B0h COMDEF", "88h COMENT".
use Rattle.std.specs.Prelude.{ℕ, ◌*◌, Bool, true, false, not, length, Result, Ok, Err, nat_le, ◌==◌, if◌then◌else◌, bytes_eq, codes}
use Rattle.lx_bytes.specs.Cursor.{Cursor}
use Rattle.obj_types.specs.declared.limits.TheConstants.{MAX_DATA}
use Rattle.obj_types.specs.declared.refusal.OmfRefusal.{OmfRefusal}
use Rattle.obj_types.specs.declared.refusal.OmfRefusal.TheVariants.{BadField, BadIndex}
use Rattle.obj_types.specs.declared.parts.ObjParts.{ObjParts}
use Rattle.lx_types.specs.Answers.{◌>>=◌}
use Rattle.omf_fields.specs.Fields.{Reading, check, checked, width, byte_at, number_at, name_at, index_at, index_below, index_or_zero, length_at, where_so, list_at}
use Rattle.omf_model.specs.Record.{Record, lnames, segdef, grpdef, pubdef, extdef, comdef, align_of, is_too_long, PubDef, ExtDef, ComDef, Communal, far, near, are_attributes}
use Rattle.omf_model.specs.Items.{name_with, is_debug_seg}

unfoldable pub lnames_at : Cursor → Result Record OmfRefusal
lnames_at c = list_at name_at c >>= λ names. Ok (lnames names)

unfoldable pub segdef_at : Bool → ObjParts → Cursor → Result Record OmfRefusal
segdef_at wide p c = do
  attributes ← byte_at c
  _ ← check (are_attributes attributes.0) (BadField c.at)
  frame ← where_so (align_of attributes.0 == 0) (number_at 2) attributes.1
  offset ← where_so (align_of attributes.0 == 0) byte_at frame.1
  len ← number_at (width wide) offset.1
  _ ← check (not (is_too_long wide attributes.0 len.0)) (BadField c.at)
  name ← index_below (length p.names) len.1
  class ← index_below (length p.names) name.1
  overlay ← index_or_zero (length p.names) class.1
  Ok (segdef (record {
    attributes = attributes.0;
    frame = frame.0;
    offset = offset.0;
    len = len.0;
    name = name.0;
    class = class.0;
    overlay = overlay.0;
  }))

-- The index of a segment that is no debug segment.
abbrev pub checked_plain : Bool → ObjParts → ℕ → ℕ × Cursor → Reading ℕ
checked_plain zero_too p at i = do
  j ← checked zero_too (length p.module.segs) at i
  _ ← check (not (is_debug_seg p.module.segs j.0)) (BadIndex at j.0 (length p.module.segs))
  Ok j

unfoldable pub plain_seg_at : ObjParts → Cursor → Reading ℕ
plain_seg_at p c = index_at c >>= checked_plain false p c.at

unfoldable pub plain_seg_or_zero : ObjParts → Cursor → Reading ℕ
plain_seg_or_zero p c = index_at c >>= checked_plain true p c.at

unfoldable pub member_at : Bool → ObjParts → Cursor → Reading ℕ
member_at flat p c = do
  mark ← byte_at c
  _ ← check (mark.0 == 255) (BadField c.at)
  if flat then index_below (length p.module.segs) mark.1 else plain_seg_at p mark.1

unfoldable pub grpdef_at : ObjParts → Cursor → Result Record OmfRefusal
grpdef_at p c = do
  name ← index_below (length p.names) c
  members ← list_at (member_at (bytes_eq (name_with p.names name.0) (codes "FLAT")) p) name.1
  Ok (grpdef name.0 members)

-- No type is ever defined, so its index is 0.
abbrev pub type_at : Cursor → Reading ℕ
type_at c = index_or_zero 0 c

unfoldable pub pub_at : Bool → Cursor → Reading PubDef
pub_at wide c = do
  name ← name_at c
  offset ← number_at (width wide) name.1
  type ← type_at offset.1
  Ok (record { name = name.0; offset = offset.0; type = type.0 }, type.1)

unfoldable pub pubdef_at : Bool → Bool → ObjParts → Cursor → Result Record OmfRefusal
pubdef_at local wide p c = do
  group ← index_or_zero (length p.module.groups) c
  segment ← plain_seg_or_zero p group.1
  frame ← where_so (segment.0 == 0) (number_at 2) segment.1
  defs ← list_at (pub_at wide) frame.1
  Ok (pubdef local group.0 segment.0 frame.0 defs)

unfoldable pub ext_at : Cursor → Reading ExtDef
ext_at c = do
  name ← name_at c
  type ← type_at name.1
  Ok (record { name = name.0; type = type.0 }, type.1)

unfoldable pub extdef_at : Bool → Cursor → Result Record OmfRefusal
extdef_at local c = list_at ext_at c >>= λ defs. Ok (extdef local defs)

-- A length over the limit of a module's data is a fault at its first number.
unfoldable pub far_at : Cursor → Reading Communal
far_at c = do
  count ← length_at c
  size ← length_at count.1
  _ ← check (nat_le (count.0 * size.0) MAX_DATA) (BadField c.at)
  Ok (far count.0 size.0, size.1)

unfoldable pub near_at : Cursor → Reading Communal
near_at c = do
  size ← length_at c
  _ ← check (nat_le size.0 MAX_DATA) (BadField c.at)
  Ok (near size.0, size.1)

unfoldable pub communal_at : Cursor → Reading Communal
communal_at c = do
  kind ← byte_at c
  if kind.0 == 0x61 then far_at kind.1 else if kind.0 == 0x62 then near_at kind.1 else Err (BadField c.at)

unfoldable pub com_at : Cursor → Reading ComDef
com_at c = do
  name ← name_at c
  type ← type_at name.1
  communal ← communal_at type.1
  Ok (record { name = name.0; type = type.0; communal = communal.0 }, communal.1)

unfoldable pub comdef_at : Cursor → Result Record OmfRefusal
comdef_at c = list_at com_at c >>= λ defs. Ok (comdef defs)
