-- The fields of a PUBDEF record before its names.
use Rattle.std.specs.Prelude.{ℕ, length, Ok, ◌==◌}
use Rattle.lx_bytes.specs.Cursor.{Cursor}
use Rattle.obj_types.specs.declared.parts.ObjParts.{ObjParts}
use Rattle.lx_types.specs.Answers.{◌>>=◌}
use Rattle.omf_fields.specs.Fields.{Reading, number_at, index_or_zero, where_so}
use Rattle.omf_model.specs.ReadNames.{plain_seg_or_zero}

-- The segment; the group and the frame change nothing.
unfoldable pub base_at : ObjParts → Cursor → Reading ℕ
base_at p c = do
  group ← index_or_zero (length p.module.groups) c
  segment ← plain_seg_or_zero p group.1
  frame ← where_so (segment.0 == 0) (number_at 2) segment.1
  Ok (segment.0, frame.1)
