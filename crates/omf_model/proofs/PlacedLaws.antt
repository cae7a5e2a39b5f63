-- The fault of a record lies in the record.
use Rattle.std.proofs.Common.{◌≡◌, ℕ, ◌+◌, ◌≤◌, Bool, true, false, eqb, length, Result, Ok, Err, refl, sym, ap, subst, arith, inl, inr}
use Rattle.std.specs.Prelude.{◌⊎◌, ◌||◌}
use Rattle.lx_bytes.specs.Cursor.{Cursor}
use Rattle.obj_types.specs.declared.refusal.OmfRefusal.{OmfRefusal}
use Rattle.obj_types.specs.declared.refusal.OmfRefusal.TheVariants.{UnknownType, BadChecksum}
use Rattle.obj_types.specs.declared.parts.ObjParts.{ObjParts}
use Rattle.omf_frame.specs.RecordType.{is_record_type}
use Rattle.lx_types.specs.Answers.{◌>>=◌}
use Rattle.omf_fields.specs.Fields.{check}
use Rattle.omf_model.specs.Record.{Record}
use Rattle.omf_model.specs.Places.{place, IsFromTo, IsInRecord}
use Rattle.omf_model.specs.RawRecord.{RawRecord, whole_at, raw_at, sum_of}
use Rattle.omf_model.specs.ReadModule.{contents_of, reader_of, record_at}
use Rattle.omf_model.proofs.RawLaws.{whole_short}
use Rattle.omf_model.proofs.ModuleLaws.{bind_err}
use Rattle.omf_model.proofs.StayLaws.{Stays, reader-in}

err-stays : (low high : ℕ) (r : Result Record OmfRefusal) (f : OmfRefusal) → Stays low high (λ x. Unit {0}) r → r ≡ Err f → IsFromTo low high f
err-stays low high (Ok x) f h e = absurd cc
err-stays low high (Err g) f h e = let same : g ≡ f = cc in subst (IsFromTo low high) same h

-- The fault of a record's contents lies in the record.
pub contents-fault : (ty : ℕ) (p : ObjParts) (at : ℕ) (c : Cursor) (f : OmfRefusal) → at ≤ c.at → reader_of ty p at c ≡ Err f → IsInRecord at c f
contents-fault ty p at c f before e = err-stays at (c.at + length c.left) (reader_of ty p at c) f (reader-in at (c.at + length c.left) ty p at (omega arith, omega (arith, before)) c (before, refl)) e

check-fault : {B : Type 0} (b : Bool) (refusal : OmfRefusal) (g : Unit {0} → Result B OmfRefusal) (f : OmfRefusal) → (check b refusal >>= g) ≡ Err f → (refusal ≡ f) ⊎ (g tt ≡ Err f)
check-fault true refusal g f e = inr e
check-fault false refusal g f e = inl cc

no-fault : (x : RawRecord) (f : OmfRefusal) → (let r : Result RawRecord OmfRefusal = Ok x in r) ≡ Err f → ⊥
no-fault x f e = absurd cc

pub around-fault : (c : Cursor) (f : OmfRefusal) → raw_at c ≡ Err f → place f ≡ c.at
unfolding raw_at
around-fault c f e =
    elim (bind_err (whole_at c) _ f e) [
      | inl h ↦ sym (ap (λ (q : OmfRefusal). place q) (whole_short c f h))
      | inr h ↦ elim (check-fault (is_record_type h.0.ty) (UnknownType c.at h.0.ty) _ f h.2) [
        | inl k ↦ sym (ap (λ (q : OmfRefusal). place q) k)
        | inr k ↦ elim (check-fault (eqb h.0.checksum 0 || eqb (sum_of h.0) 0) (BadChecksum c.at (sum_of h.0)) _ f k) [
          | inl l ↦ sym (ap (λ (q : OmfRefusal). place q) l)
          | inr l ↦ absurd (no-fault h.0 f l)
        ]
      ]
    ]

no-record : (x : Record × Cursor) (f : OmfRefusal) → (let r : Result (Record × Cursor) OmfRefusal = Ok x in r) ≡ Err f → ⊥
no-record x f e = absurd cc

pub record-fault : (p : ObjParts) (c : Cursor) (f : OmfRefusal) → record_at p c ≡ Err f → (place f ≡ c.at) ⊎ ((r : RawRecord) × (raw_at c ≡ Ok r) × IsInRecord r.at (contents_of r) f)
unfolding record_at
record-fault p c f e =
    elim (bind_err (raw_at c) _ f e) [
      | inl h ↦ inl (around-fault c f h)
      | inr h ↦ elim (bind_err (reader_of h.0.ty p h.0.at (contents_of h.0)) _ f h.2) [
        | inl k ↦ inr (h.0, h.1, contents-fault h.0.ty p h.0.at (contents_of h.0) f (omega arith) k)
        | inr k ↦ absurd (no-record (k.0, h.0.after) f k.2)
      ]
    ]
