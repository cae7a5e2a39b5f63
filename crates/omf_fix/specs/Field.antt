-- A field of a FIXUPP record that is read and added.
use Rattle.std.specs.Prelude.{ℕ, ◌||◌, Bool, not, Ok}
use Rattle.lx_bytes.specs.Cursor.{Cursor}
use Rattle.obj_types.specs.declared.refusal.OmfRefusal.TheVariants.{BadLocation}
use Rattle.obj_types.specs.declared.parts.ObjParts.{ObjParts}
use Rattle.lx_types.specs.Answers.{◌>>=◌}
use Rattle.omf_fields.specs.Fields.{Reading, check}
use Rattle.omf_model.specs.Record.{FixData, FixField, location_of}
use Rattle.omf_model.specs.Fixups.{is_location}
use Rattle.omf_model.specs.ReadFixups.{FirstByte, is_dropped, second_of, fix_data_at}
use Rattle.omf_model.specs.Add.{add_field}
use Rattle.omf_fix.specs.declared.field.FixupFields.{FixupFields}
use Rattle.omf_fix.specs.declared.starts.FieldStart.{FieldStart}
use Rattle.omf_fix.specs.FixData.{data_of}

abbrev pub first_at : FieldStart → FirstByte
first_at start = record { of_record = start.fixupp.at; at = start.at; byte = start.byte }

-- The parts with what a field adds, and the cursor after it.
abbrev pub then_field : ObjParts → Reading FixField → Reading ObjParts
then_field p read = read >>= λ f. Ok (add_field p f.0, f.1)

-- The fields of a fixup after its first byte, before its place is judged.
abbrev pub unplaced_at : Bool → ObjParts → FirstByte → Cursor → Reading (ℕ × FixData)
unplaced_at wide p first c = do
  _ ← check (is_dropped p.last || is_location first.byte) (BadLocation first.at (location_of first.byte))
  low ← second_of first.at c
  what ← fix_data_at (not (is_dropped p.last)) wide p low.1
  Ok ((low.0, what.0), what.1)

abbrev pub unplaced : FixupFields → ℕ × FixData
unplaced x = (x.low, data_of x.data)
