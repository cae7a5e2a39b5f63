-- A fix byte and what stands after it, and what that means.
use Rattle.std.specs.Prelude.{Bool, true, Ok, unwrap_or}
use Rattle.lx_bytes.specs.Cursor.{Cursor}
use Rattle.obj_types.specs.declared.object.Frame.TheVariants as frames
use Rattle.obj_types.specs.declared.object.Goal.TheVariants as goals
use Rattle.obj_types.specs.declared.object.StartAt.{StartAt}
use Rattle.obj_types.specs.declared.parts.Threads.{Threads}
use Rattle.obj_types.specs.declared.parts.ObjParts.{ObjParts}
use Rattle.lx_types.specs.Answers.{◌>>=◌}
use Rattle.omf_fields.specs.Fields.{Reading}
use Rattle.omf_model.specs.Record.{FixData}
use Rattle.omf_model.specs.Fixups.{frame_meant, goal_meant}
use Rattle.omf_model.specs.ReadFixups.{fix_data_at}
use Rattle.omf_fix.specs.declared.fix_data.FixFields.{FixFields}

abbrev pub data_of : FixFields → FixData
data_of d = record { fix = d.fix; frame = d.frame; target = d.target; displacement = d.displacement }

-- The frame, the target and the displacement.
abbrev pub meant : Threads → FixData → StartAt
meant ts d = record {
  frame = unwrap_or (frame_meant ts d) frames.Here;
  goal = unwrap_or (goal_meant ts d) (goals.Seg 0);
  disp = unwrap_or d.displacement 0;
}

-- A start address, from its fix byte on.
abbrev pub meant_at : Bool → ObjParts → Cursor → Reading StartAt
meant_at wide p c = do
  d ← fix_data_at true wide p c
  Ok (meant p.threads d.0, d.1)
