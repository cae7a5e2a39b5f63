-- The unfinished module after one more record.
use Rattle.std.specs.Prelude.{ℕ, ◌+◌, List, Result, Ok}
use Rattle.lx_types.specs.Answers.{◌>>=◌}
use Rattle.lx_bytes.specs.Cursor.{Cursor}
use Rattle.obj_types.specs.declared.refusal.OmfRefusal.{OmfRefusal}
use Rattle.obj_types.specs.declared.parts.ObjParts.{ObjParts}
use Rattle.omf_model.specs.Record.{Record}
use Rattle.omf_frame.specs.declared.omf_record.Rec.{Rec}
use Rattle.omf_model.specs.Add.{add}
use Rattle.omf_model.specs.ReadModule.{reader_of}

-- The contents of a record that begins at a place.
abbrev pub contents_at : ℕ → List ℕ → Cursor
contents_at at contents = record { at = at + 3; left = contents }

-- The unfinished module with the record that was read after it.
abbrev pub then_add : ObjParts → Result Record OmfRefusal → Result ObjParts OmfRefusal
then_add p read = read >>= λ r. Ok (add p r)

-- The unfinished module after a record, or the record's first fault.
abbrev pub read_after : ObjParts → Rec → Result ObjParts OmfRefusal
read_after p rec = then_add p (reader_of rec.ty p rec.at (contents_at rec.at rec.body.now))
