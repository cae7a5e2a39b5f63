-- What a PUBDEF or LPUBDEF record adds: public names.
use Rattle.std.proofs.Common.{◌≡◌, ℕ, Bool, leb, List, Option, Ok, Err, Result, refl, inl, inr, ap, ◌∙◌}
use Rattle.std.specs.Prelude.{◌⊎◌, ◌%◌, ◌==◌, length}
use Rattle.lx_bytes.specs.Cursor.{Cursor}
use Rattle.obj_types.specs.declared.refusal.OmfRefusal.{OmfRefusal}
use Rattle.obj_types.specs.declared.parts.ObjParts.{ObjParts}
use Rattle.obj_types.specs.declared.symbol.Pub.{Pub}
use Rattle.lx_types.specs.Answers.{◌>>=◌}
use Rattle.omf_fields.specs.Fields.{Reading, list_at, number_at, index_or_zero, where_so}
use Rattle.omf_frame.specs.declared.omf_record.Rec.{Rec}
use Rattle.omf_model.specs.Add.{add}
use Rattle.omf_model.specs.ReadAfter.{then_add, read_after, contents_at}
use Rattle.omf_model.specs.Items.{pub_of}
use Rattle.omf_model.specs.Record.{PubDef, pubdef}
use Rattle.omf_model.specs.ReadNames.{pub_at, pubdef_at, plain_seg_or_zero}
use Rattle.omf_names.specs.Publics.{base_at}
use Rattle.omf_names.proofs.ListRead.{ListIn, mapped, parts_or}

abbrev pub pubs : ObjParts → List Pub
pubs p = p.module.pubs

abbrev pub with_pubs : ObjParts → List Pub → ObjParts
with_pubs p xs = record p { «module» = record p.module { pubs = xs } }

pub pubs-in : ListIn pubs with_pubs
pubs-in = record { got = λ p xs. refl; twice = λ p xs ys. refl }

-- the names after the fields that they share
abbrev pub beyond : Bool → Bool → ObjParts → Reading ℕ → Result ObjParts OmfRefusal
beyond local wide p base = base >>= λ b. parts_or with_pubs p (mapped (pub_of local b.0) p.module.pubs (list_at (pub_at wide) b.1))

by_defs : (local : Bool) (g s : ℕ) (f : Option ℕ) (p : ObjParts) (r : Result (List PubDef) OmfRefusal) → then_add p (r >>= λ defs. Ok (pubdef local g s f defs)) ≡ parts_or with_pubs p (mapped (pub_of local s) p.module.pubs r)
unfolding add
by_defs local g s f p (Ok defs) = refl
by_defs local g s f p (Err e) = refl

by_frame : (local wide : Bool) (g s : ℕ) (p : ObjParts) (r : Reading (Option ℕ))
    → then_add p (r >>= λ frame. list_at (pub_at wide) frame.1 >>= λ defs. Ok (pubdef local g s frame.0 defs)) ≡ beyond local wide p (r >>= λ frame. Ok (s, frame.1))
by_frame local wide g s p (Ok f) = by_defs local g s f.0 p (list_at (pub_at wide) f.1)
by_frame local wide g s p (Err e) = refl

abbrev frame_at : ℕ → Cursor → Reading (Option ℕ)
frame_at s c = where_so (s == 0) (number_at 2) c

by_segment : (local wide : Bool) (g : ℕ) (p : ObjParts) (r : Reading ℕ)
    → then_add p (r >>= λ segment. frame_at segment.0 segment.1 >>= λ frame. list_at (pub_at wide) frame.1 >>= λ defs. Ok (pubdef local g segment.0 frame.0 defs))
    ≡ beyond local wide p (r >>= λ segment. frame_at segment.0 segment.1 >>= λ frame. Ok (segment.0, frame.1))
by_segment local wide g p (Ok s) = by_frame local wide g s.0 p (frame_at s.0 s.1)
by_segment local wide g p (Err e) = refl

by_group : (local wide : Bool) (p : ObjParts) (r : Reading ℕ)
    → then_add p (r >>= λ group. plain_seg_or_zero p group.1 >>= λ segment. frame_at segment.0 segment.1 >>= λ frame. list_at (pub_at wide) frame.1 >>= λ defs. Ok (pubdef local group.0 segment.0 frame.0 defs))
    ≡ beyond local wide p (r >>= λ group. plain_seg_or_zero p group.1 >>= λ segment. frame_at segment.0 segment.1 >>= λ frame. Ok (segment.0, frame.1))
by_group local wide p (Ok g) = by_segment local wide g.0 p (plain_seg_or_zero p g.1)
by_group local wide p (Err e) = refl

pub publics : (local wide : Bool) (p : ObjParts) (c : Cursor) → then_add p (pubdef_at local wide p c) ≡ beyond local wide p (base_at p c)
unfolding pubdef_at base_at
publics local wide p c = by_group local wide p (index_or_zero (length p.module.groups) c)

abbrev pub IsPublics : ℕ → Type 0
IsPublics ty = (ty ≡ 0x90) ⊎ (ty ≡ 0x91) ⊎ (ty ≡ 0xB6) ⊎ (ty ≡ 0xB7)

by_kind : (rec : Rec) → IsPublics rec.ty → (p : ObjParts) → read_after p rec ≡ beyond (leb 0xB6 rec.ty) (rec.ty % 2 == 1) p (base_at p (contents_at rec.at rec.body.now))
by_kind rec (inl e) p = rw e (publics _ _ p (contents_at rec.at rec.body.now))
by_kind rec (inr (inl e)) p = rw e (publics _ _ p (contents_at rec.at rec.body.now))
by_kind rec (inr (inr (inl e))) p = rw e (publics _ _ p (contents_at rec.at rec.body.now))
by_kind rec (inr (inr (inr e))) p = rw e (publics _ _ p (contents_at rec.at rec.body.now))

pub after : (rec : Rec) → IsPublics rec.ty → (p : ObjParts) (c : Cursor) → contents_at rec.at rec.body.now ≡ c → read_after p rec ≡ beyond (leb 0xB6 rec.ty) (rec.ty % 2 == 1) p (base_at p c)
after rec kind p c there = by_kind rec kind p ∙ ap (λ (d : Cursor). beyond (leb 0xB6 rec.ty) (rec.ty % 2 == 1) p (base_at p d)) there

pub base-refused : (local wide : Bool) (p : ObjParts) (r : Reading ℕ) (refusal : OmfRefusal) → r ≡ Err refusal → beyond local wide p r ≡ Err refusal
base-refused local wide p r refusal e = ap (λ (q : Reading ℕ). beyond local wide p q) e

pub based : (local wide : Bool) (p : ObjParts) (r : Reading ℕ) (s : ℕ) (d : Cursor) → r ≡ Ok (s, d) → beyond local wide p r ≡ parts_or with_pubs p (mapped (pub_of local s) p.module.pubs (list_at (pub_at wide) d))
based local wide p r s d e = ap (λ (q : Reading ℕ). beyond local wide p q) e
