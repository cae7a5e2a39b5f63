-- Reading the record of a COMDAT after the records before it. "C2h COMDAT".
use Rattle.std.specs.Prelude.{ℕ, ◌+◌, Bool, false, not, length, Result, Ok, nat_le, ◌==◌, if◌then◌else◌}
use Rattle.std.specs.List.{list_any}
use Rattle.lx_bytes.specs.Cursor.{Cursor}
use Rattle.obj_types.specs.declared.limits.TheConstants.{MAX_DATA}
use Rattle.obj_types.specs.declared.refusal.OmfRefusal.{OmfRefusal}
use Rattle.obj_types.specs.declared.refusal.OmfRefusal.TheVariants.{BadField, DataRange, DataOverFix, TooMany}
use Rattle.obj_types.specs.declared.parts.ObjParts.{ObjParts}
use Rattle.lx_types.specs.Answers.{◌>>=◌}
use Rattle.omf_fields.specs.Fields.{Reading, check, width, byte_at, number_at, index_at, index_below, index_or_zero, where_so}
use Rattle.omf_model.specs.Comdat.{Base, ComDat, is_continued, are_flags, is_selected, has_base, is_begun, number_of, end_of}
use Rattle.omf_model.specs.Record.{Record, comdat}
use Rattle.omf_model.specs.Items.{name_with, begun_names, data_so_far}
use Rattle.omf_model.specs.Fixups.{touches}
use Rattle.omf_model.specs.ReadNames.{type_at, checked_plain}

-- The base's segment: 0 is no index here, and a frame number does not follow it.
unfoldable pub base_segment_at : ObjParts → Cursor → Reading ℕ
base_segment_at p c = do
  i ← index_at c
  _ ← check (not (i.0 == 0)) (BadField c.at)
  checked_plain false p c.at i

unfoldable pub base_at : ObjParts → Cursor → Reading Base
base_at p c = do
  group ← index_or_zero (length p.module.groups) c
  segment ← base_segment_at p group.1
  Ok (record { group = group.0; segment = segment.0 }, segment.1)

-- The fields, whose data is all that is left. Those of a continuation are judged as well, and not compared.
unfoldable pub comdat_fields_at : Bool → ObjParts → Cursor → Result ComDat OmfRefusal
comdat_fields_at wide p c = do
  flags ← byte_at c
  _ ← check (are_flags flags.0) (BadField c.at)
  attributes ← byte_at flags.1
  _ ← check (is_selected attributes.0) (BadField flags.1.at)
  align ← byte_at attributes.1
  _ ← check (nat_le align.0 5) (BadField attributes.1.at)
  offset ← number_at (width wide) align.1
  type ← type_at offset.1
  base ← where_so (has_base attributes.0) (base_at p) type.1
  name ← index_below (length p.names) base.1
  Ok (record {
    flags = flags.0;
    attributes = attributes.0;
    align = align.0;
    offset = offset.0;
    type = type.0;
    base = base.0;
    name = name.0;
    content = name.1.left;
  })

-- A continuation is one of a COMDAT that has begun, and another record begins one.
abbrev pub is_in_turn : ObjParts → ComDat → Bool
is_in_turn p d =
    if is_continued d.flags then is_begun (begun_names p.comdats) (name_with p.names d.name)
    else not (is_begun (begun_names p.comdats) (name_with p.names d.name))

-- The number of the segment of the record's name.
abbrev pub number_so_far : ObjParts → ComDat → ℕ
number_so_far p d = number_of (begun_names p.comdats) (name_with p.names d.name)

-- The place of the offset, after three bytes.
abbrev pub offset_place : Cursor → ℕ
offset_place c = c.at + 3

-- The conditions on the whole: in turn, and data within the limit of a module's data, with the data before it too, and on no
-- location of an earlier fixup.
unfoldable pub judge_comdat : ObjParts → (record_at offset_at : ℕ) → ComDat → Result (Unit {0}) OmfRefusal
judge_comdat p record_at offset_at d = do
  _ ← check (is_in_turn p d) (BadField record_at)
  _ ← check (nat_le (end_of d) MAX_DATA) (DataRange offset_at)
  _ ← check (nat_le (data_so_far p + length d.content) MAX_DATA) (TooMany record_at)
  check (not (list_any (touches (number_so_far p d) d.offset (length d.content)) p.module.fixes)) (DataOverFix offset_at)

unfoldable pub comdat_at : Bool → ObjParts → ℕ → Cursor → Result Record OmfRefusal
comdat_at wide p at c = do
  d ← comdat_fields_at wide p c
  _ ← judge_comdat p at (offset_place c) d
  Ok (comdat d)
