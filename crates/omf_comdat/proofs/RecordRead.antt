-- A COMDAT record is read by its fields, and judged.
use Rattle.std.proofs.Common.{◌≡◌, ℕ, Bool, Result, Ok, Err, inl, inr, refl, sym, ap, subst, ◌∙◌}
use Rattle.std.specs.Prelude.{◌⊎◌, IfOk}
use Rattle.lx_types.specs.declared.fail.Fail.{Fail}
use Rattle.lx_types.specs.declared.fail.Fail.TheVariants.{Said, NoMemory}
use Rattle.lx_types.specs.Answers.{as_is, if_said, Gives, Tells, as_said}
use Rattle.lx_bytes.specs.Cursor.{Cursor}
use Rattle.obj_types.specs.declared.refusal.OmfRefusal.{OmfRefusal}
use Rattle.obj_types.specs.declared.parts.ObjParts.{ObjParts}
use Rattle.omf_frame.specs.declared.omf_record.Rec.{Rec}
use Rattle.omf_model.specs.ReadComdat.{comdat_fields_at, judge_comdat, offset_place, comdat_at}
use Rattle.omf_model.specs.ReadModule.{is_wide}
use Rattle.omf_model.specs.Add.{add, add_comdat}
use Rattle.omf_model.specs.ReadAfter.{then_add, read_after, contents_at}
use Rattle.omf_comdat.specs.Fields.{comdat_of}
use Rattle.omf_comdat.specs.declared.fields.ComdatFields.{ComdatFields}

pub after : (rec : Rec) → (rec.ty ≡ 0xC2) ⊎ (rec.ty ≡ 0xC3) → (p : ObjParts) → read_after p rec ≡ then_add p (comdat_at (is_wide rec.ty) p rec.at (contents_at rec.at rec.body.now))
after rec (inl e) p = rw e refl
after rec (inr e) p = rw e refl

-- what holds of what was read
pub said_ok : {A : Type 0} (P : A → Type 0) (r : Result A OmfRefusal) (x : A) → IfOk r P → as_said r ≡ Ok x → P x
said_ok P (Ok y) x h is = let same : y ≡ x = cc in subst P same h
said_ok P (Err e) x h is = absurd cc

module _ (p : ObjParts) (wide : Bool) (at : ℕ) (c : Cursor) (r : Result ComdatFields OmfRefusal) (found : Gives comdat_of as_is r (comdat_fields_at wide p c)) where
  -- the value that was given
  given : (d : ComdatFields) → as_said r ≡ Ok d → comdat_fields_at wide p c ≡ Ok (comdat_of d)
  given d is = by r found is
    where
      by : (x : Result ComdatFields OmfRefusal) → Gives comdat_of as_is x (comdat_fields_at wide p c) → as_said x ≡ Ok d → comdat_fields_at wide p c ≡ Ok (comdat_of d)
      by (Ok y) h e = let same : y ≡ d = cc in h ∙ ap (λ (z : ComdatFields). Ok (comdat_of z)) same
      by (Err f) h e = absurd cc

  pub fields_refused : {A : Type 0} (v : A → ObjParts) (fail : Fail OmfRefusal) → as_said r ≡ Err fail → Gives v if_said (Err fail) (then_add p (comdat_at wide p at c))
  unfolding comdat_at
  fields_refused v fail is = by r fail found is
    where
      by : (x : Result ComdatFields OmfRefusal) (f : Fail OmfRefusal) → Gives comdat_of as_is x (comdat_fields_at wide p c) → as_said x ≡ Err f → Gives v if_said (Err f) (then_add p (comdat_at wide p at c))
      by (Ok y) f h e = absurd cc
      by (Err g) (Said f) h e = let same : g ≡ f = cc in rw h (ap (λ (z : OmfRefusal). Err z) same)
      by (Err g) NoMemory h e = tt

  module _ (d : ComdatFields) (is : as_said r ≡ Ok d) (placed : d.offset_at ≡ offset_place c) where
    at_its_place : judge_comdat p at (offset_place c) (comdat_of d) ≡ judge_comdat p at d.offset_at (comdat_of d)
    at_its_place = ap (λ (n : ℕ). judge_comdat p at n (comdat_of d)) (sym placed)

    pub whole_refused : {A : Type 0} (v : A → ObjParts) (fail : Fail OmfRefusal) → Tells (if_said fail) (judge_comdat p at d.offset_at (comdat_of d)) → Gives v if_said (Err fail) (then_add p (comdat_at wide p at c))
    unfolding comdat_at
    whole_refused v (Said f) h = rw (given d is, at_its_place ∙ h) refl
    whole_refused v NoMemory h = tt

    pub added : (u : Unit {0}) (q : ObjParts) → judge_comdat p at d.offset_at (comdat_of d) ≡ Ok u → q ≡ add_comdat p (comdat_of d) → then_add p (comdat_at wide p at c) ≡ Ok q
    unfolding comdat_at add
    added u q h more = rw (given d is, at_its_place ∙ h) (ap (λ (z : ObjParts). Ok z) (sym more))
