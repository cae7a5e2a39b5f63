-- An LEDATA record is read by its fields.
use Rattle.std.proofs.Common.{◌≡◌, true, false, List, [], ◌∷◌, ◌++◌, length, Ok, inl, inr, refl, sym, ◌∙◌}
use Rattle.std.specs.Prelude.{◌⊎◌}
use Rattle.obj_types.specs.declared.object.Piece.{Piece}
use Rattle.obj_types.specs.declared.parts.LastData.TheVariants as datas
use Rattle.obj_types.specs.declared.parts.ObjParts.{ObjParts}
use Rattle.omf_frame.specs.declared.omf_record.Rec.{Rec}
use Rattle.omf_model.specs.Items.{is_debug_seg}
use Rattle.omf_model.specs.ReadModule.{is_wide}
use Rattle.omf_model.specs.ReadData.{ledata_at}
use Rattle.omf_model.specs.Add.{add}
use Rattle.omf_model.specs.ReadAfter.{then_add, read_after, contents_at}
use Rattle.omf_data.specs.Data.{ledata_record}
use Rattle.omf_data.proofs.Added.{added}
use Rattle.omf_data.specs.declared.straight.Straight.{Straight}

pub after : (rec : Rec) → (rec.ty ≡ 0xA0) ⊎ (rec.ty ≡ 0xA1) → (p : ObjParts) → read_after p rec ≡ then_add p (ledata_at (is_wide rec.ty) p rec.at (contents_at rec.at rec.body.now))
after rec (inl e) p = rw e refl
after rec (inr e) p = rw e refl

dropped_so : (p : ObjParts) (d : Straight) → is_debug_seg p.module.segs d.place.seg ≡ true → add p (ledata_record d) ≡ record p { last = datas.Dropped }
unfolding add
dropped_so p d debug = rw debug refl

kept_so : (p : ObjParts) (d : Straight) (pieces : List Piece) → is_debug_seg p.module.segs d.place.seg ≡ false
    → pieces ≡ p.module.pieces ++ record { seg = d.place.seg; offset = d.place.offset; bytes = d.bytes.now } ∷ []
    → add p (ledata_record d) ≡ record p { «module» = record p.module { pieces = pieces }; last = datas.Straight d.place.seg d.place.offset (length d.bytes.now) }
unfolding add
kept_so p d pieces plain more =
    rw plain (λ i. record p { «module» = record p.module { pieces = sym more i }; last = datas.Straight d.place.seg d.place.offset (length d.bytes.now) })

-- data of a debug segment
pub dropped : (rec : Rec) (p : ObjParts) (d : Straight) → (rec.ty ≡ 0xA0) ⊎ (rec.ty ≡ 0xA1)
    → ledata_at (is_wide rec.ty) p rec.at (contents_at rec.at rec.body.now) ≡ Ok (ledata_record d)
    → is_debug_seg p.module.segs d.place.seg ≡ true
    → read_after p rec ≡ Ok (record p { last = datas.Dropped })
dropped rec p d kind found debug = after rec kind p ∙ added ledata_record p d (record p { last = datas.Dropped }) _ found (dropped_so p d debug)

-- other data
pub kept : (rec : Rec) (p : ObjParts) (d : Straight) (pieces : List Piece) → (rec.ty ≡ 0xA0) ⊎ (rec.ty ≡ 0xA1)
    → ledata_at (is_wide rec.ty) p rec.at (contents_at rec.at rec.body.now) ≡ Ok (ledata_record d)
    → is_debug_seg p.module.segs d.place.seg ≡ false
    → pieces ≡ p.module.pieces ++ record { seg = d.place.seg; offset = d.place.offset; bytes = d.bytes.now } ∷ []
    → read_after p rec ≡ Ok (record p { «module» = record p.module { pieces = pieces }; last = datas.Straight d.place.seg d.place.offset (length d.bytes.now) })
kept rec p d pieces kind found plain more = after rec kind p ∙ added ledata_record p d (record p { «module» = record p.module { pieces = pieces }; last = datas.Straight d.place.seg d.place.offset (length d.bytes.now) }) _ found (kept_so p d pieces plain more)
