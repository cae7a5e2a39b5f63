-- A SEGDEF record is read by its fields.
use Rattle.std.proofs.Common.{◌≡◌, List, [], ◌∷◌, ◌++◌, Ok, Err, Result, inl, inr, refl, sym, ap, ◌∙◌}
use Rattle.std.specs.Prelude.{◌⊎◌}
use Rattle.obj_types.specs.declared.refusal.OmfRefusal.{OmfRefusal}
use Rattle.obj_types.specs.declared.parts.ObjParts.{ObjParts}
use Rattle.omf_frame.specs.declared.omf_record.Rec.{Rec}
use Rattle.obj_types.specs.declared.object.Seg.{Seg}
use Rattle.lx_types.specs.Answers.{as_is, Gives, as_said}
use Rattle.omf_model.specs.Items.{seg_of}
use Rattle.omf_names.specs.Segments.{def_of, segdef_record}
use Rattle.omf_names.specs.declared.segment.SegFields.{SegFields}
use Rattle.omf_model.specs.Record.{Record}
use Rattle.omf_model.specs.ReadModule.{is_wide}
use Rattle.omf_model.specs.ReadNames.{segdef_at}
use Rattle.omf_model.specs.Add.{add}
use Rattle.omf_model.specs.ReadAfter.{then_add, read_after, contents_at}

pub after : (rec : Rec) → (rec.ty ≡ 0x98) ⊎ (rec.ty ≡ 0x99) → (p : ObjParts) → read_after p rec ≡ then_add p (segdef_at (is_wide rec.ty) p (contents_at rec.at rec.body.now))
after rec (inl e) p = rw e refl
after rec (inr e) p = rw e refl

pub added : (p : ObjParts) (read : Result Record OmfRefusal) (r : Result SegFields OmfRefusal) (d : SegFields) (segs : List Seg) → Gives segdef_record as_is r read → as_said r ≡ Ok d → segs ≡ p.module.segs ++ seg_of p.names (def_of d) ∷ []
    → then_add p read ≡ Ok (record p { «module» = record p.module { segs = segs } })
unfolding add
added p read (Ok x) d segs found is more =
    let same : x ≡ d = cc in
    rw found (λ i. Ok (record p { «module» = record p.module { segs = (ap (λ (y : SegFields). p.module.segs ++ seg_of p.names (def_of y) ∷ []) same ∙ sym more) i } }))
added p read (Err e) d segs found is more = absurd cc
