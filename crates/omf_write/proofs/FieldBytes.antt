-- The fields of records that are written, as bytes spell them.
use Rattle.std.proofs.Common.{◌≡◌, ℕ, ◌+◌, ◌/◌, ◌%◌, ◌<◌, ◌≤◌, Bool, true, false, cond, List, [], ◌∷◌, length, refl, ap, arith, inl, inr}
use Rattle.std.proofs.lemmas.Bool.Decides.{nat_tests}
use Rattle.std.specs.Prelude.{Contains, nat_lt}
use Rattle.omf_frame.specs.RecordType.{IsRecordType}
use Rattle.omf_fields.specs.Forms.{byte, name, index}
use Rattle.omf_model.specs.Record.{Record}
use Rattle.omf_model.specs.Spelling.{Spells, types_of, contents_form}
use Rattle.implib_model.specs.Framed.{record_of, name_bytes}
use Rattle.omf_write.specs.ObjectBytes.{index_bytes}
use Rattle.omf_write.proofs.ImportRead.{framed}

pub spells_as : (r : Record) (ty : ℕ) (wide : Bool) (body : List ℕ) → Contains (types_of r) (ty, wide) → length body < 65535 → IsRecordType ty → contents_form wide r body → Spells (record_of ty body) r
spells_as r ty wide body is short known content = record { ty = ty; wide = wide; contents = body; is_type = is; framed = framed ty body short known; content = content }

index_by : (b : Bool) (i : ℕ) → nat_lt i 128 ≡ b → i ≤ 32767 → index i (cond b (i ∷ []) ((128 + i / 256 % 128) ∷ (i % 256) ∷ []))
index_by true i e most = inl (grind (arith, nat_tests), refl)
index_by false i e most =
    let same : i / 256 % 128 ≡ i / 256 = omega (arith, most) in
    inr (omega (arith, most), ap (λ (k : ℕ). (128 + k) ∷ (i % 256) ∷ []) same)

pub index_spelled : (i : ℕ) → i ≤ 32767 → index i (index_bytes i)
index_spelled i most = index_by (nat_lt i 128) i refl most

index_len_by : (b : Bool) (i : ℕ) → length (cond b (i ∷ []) ((128 + i / 256 % 128) ∷ (i % 256) ∷ [])) ≤ 2
index_len_by true i = omega arith
index_len_by false i = omega arith

pub index_len : (i : ℕ) → length (index_bytes i) ≤ 2
index_len i = index_len_by (nat_lt i 128) i

pub name_spelled : (text : List ℕ) → length text ≤ 255 → name text (name_bytes text)
name_spelled text short = (omega (arith, short), refl)

pub byte_spelled : (b : ℕ) → b < 256 → byte b (b ∷ [])
byte_spelled b small = (small, refl)
