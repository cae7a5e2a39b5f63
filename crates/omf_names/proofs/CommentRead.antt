-- A COMENT record is read by what it says.
use Rattle.std.proofs.Common.{◌≡◌, Result, ap, ◌∙◌}
use Rattle.lx_bytes.specs.Cursor.{Cursor}
use Rattle.obj_types.specs.declared.refusal.OmfRefusal.{OmfRefusal}
use Rattle.obj_types.specs.declared.parts.ObjParts.{ObjParts}
use Rattle.omf_frame.specs.declared.omf_record.Rec.{Rec}
use Rattle.omf_model.specs.ReadAfter.{then_add, read_after, contents_at}
use Rattle.omf_model.specs.ReadComments.{coment_at}
use Rattle.omf_model.specs.Record.{Record}

pub after : (rec : Rec) → rec.ty ≡ 0x88 → (p : ObjParts) (c : Cursor) (r : Result Record OmfRefusal) → contents_at rec.at rec.body.now ≡ c → coment_at c ≡ r → read_after p rec ≡ then_add p r
after rec kind p c r there read = rw kind (ap (λ (d : Cursor). then_add p (coment_at d)) there ∙ ap (λ (q : Result Record OmfRefusal). then_add p q) read)
