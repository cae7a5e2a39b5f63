-- Reading data, fixups and a module's end after the records before them.
-- "A0h LEDATA", "A2h LIDATA", "9Ch FIXUPP", "8Ah MODEND".
use Rattle.omf_model.specs.Fixups.{touches}
use Rattle.std.specs.Prelude.{ℕ, ◌+◌, min, Bool, not, List, length, Result, Ok, nat_le, if◌then◌else◌, unwrap_or, option_map}
use Rattle.std.specs.List.{list_any}
use Rattle.lx_bytes.specs.Cursor.{Cursor}
use Rattle.obj_types.specs.declared.limits.TheConstants.{MAX_DATA}
use Rattle.obj_types.specs.declared.refusal.OmfRefusal.{OmfRefusal}
use Rattle.obj_types.specs.declared.refusal.OmfRefusal.TheVariants.{DataRange, DataOverFix, TooMany}
use Rattle.obj_types.specs.declared.object.Seg.{Seg}
use Rattle.obj_types.specs.declared.parts.ObjParts.{ObjParts}
use Rattle.obj_types.specs.Items.{item}
use Rattle.omf_model.specs.Blocks.{Blocks, expanded_len}
use Rattle.lx_types.specs.Answers.{◌>>=◌}
use Rattle.omf_fields.specs.Fields.{check, width, number_at, index_below}
use Rattle.omf_model.specs.Record.{Record, ledata, lidata}
use Rattle.omf_model.specs.ReadBlocks.{blocks_at}
use Rattle.omf_model.specs.Items.{is_debug_seg, data_so_far}

-- ---- data

abbrev pub seg_len : List Seg → ℕ → ℕ
seg_len segs i = unwrap_or (option_map (λ (s : Seg). s.len) (item segs i)) 0

-- The conditions on data: within its segment, within the module's limit, and on no location of an
-- earlier fixup. Of data of a debug segment none is judged.
unfoldable pub judge_data : ObjParts → ℕ → ℕ → ℕ → ℕ → ℕ → Result (Unit {0}) OmfRefusal
judge_data p at offset_at seg offset len = if is_debug_seg p.module.segs seg then Ok tt else do
  _ ← check (nat_le (offset + len) (seg_len p.module.segs seg)) (DataRange offset_at)
  _ ← check (nat_le (data_so_far p + len) MAX_DATA) (TooMany at)
  check (not (list_any (touches seg offset len) p.module.fixes)) (DataOverFix offset_at)

unfoldable pub ledata_at : Bool → ObjParts → ℕ → Cursor → Result Record OmfRefusal
ledata_at wide p at c = do
  seg ← index_below (length p.module.segs) c
  offset ← number_at (width wide) seg.1
  _ ← judge_data p at seg.1.at seg.0 offset.0 (length offset.1.left)
  Ok (ledata seg.0 offset.0 offset.1.left)

-- A length above the limit counts as one more than the limit.
abbrev pub counted_len : Blocks → ℕ
counted_len blocks = min (expanded_len blocks) (MAX_DATA + 1)

unfoldable pub lidata_at : Bool → ObjParts → ℕ → Cursor → Result Record OmfRefusal
lidata_at wide p at c = do
  seg ← index_below (length p.module.segs) c
  offset ← number_at (width wide) seg.1
  blocks ← blocks_at wide offset.1
  _ ← judge_data p at seg.1.at seg.0 offset.0 (counted_len blocks)
  Ok (lidata wide seg.0 offset.0 blocks)
