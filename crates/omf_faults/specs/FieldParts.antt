-- The fields of records, and what is wrong where one is due.
-- "Record Format", "Index fields"; "B0h COMDEF" for the numbers of lengths.
use Rattle.std.specs.Prelude.{◌≡◌, ◌≢◌, ℕ, ◌≤◌, ◌<◌, ◌⊎◌, List, [], ◌∷◌, length}
use Rattle.lx_bytes.specs.Cursor.{Cursor}
use Rattle.obj_types.specs.declared.refusal.OmfRefusal.{OmfRefusal}
use Rattle.obj_types.specs.declared.refusal.OmfRefusal.TheVariants.{Short, BadField}
use Rattle.obj_types.specs.declared.parts.ObjParts.{ObjParts}
use Rattle.obj_types.specs.Whole.{IsPlainSeg}
use Rattle.omf_fields.specs.Forms.{Form, byte, number, name, index, length_form}
use Rattle.omf_fields.specs.declared.lengths.TheConstants.{MAX_SHORT_LENGTH, LENGTH_16, LENGTH_24, LENGTH_32}
use Rattle.omf_fields.specs.Spans.{Free}
use Rattle.omf_fields.specs.Faults.{PassesEnd, IsNoIndex}
use Rattle.omf_faults.specs.Parts.{Part, Wrong}

-- A field of any value: nothing is wrong but that it passes the end.
abbrev pub field : {A : Type 0} → (A → Form) → Part A
field form = record { form = form; good = Free; wrong = PassesEnd form }

abbrev pub a_byte : Part ℕ
a_byte = field byte

abbrev pub a_number : ℕ → Part ℕ
a_number n = field (number n)

abbrev pub a_name : Part (List ℕ)
a_name = field name

-- An index that may be some only, where so many came before.
abbrev pub index_with : (ℕ → Type 0) → ℕ → Part ℕ
index_with Allowed have = record { form = index; good = Allowed; wrong = λ c e. PassesEnd index c e ⊎ IsNoIndex Allowed have c e }

abbrev pub index_from_one : ℕ → Part ℕ
index_from_one have = index_with (λ i. (1 ≤ i) × (i ≤ have)) have

abbrev pub index_or_none : ℕ → Part ℕ
index_or_none have = index_with (λ i. i ≤ have) have

-- No type is ever defined.
abbrev pub no_type : Part ℕ
no_type = index_or_none 0

-- A segment that is no debug segment.
abbrev pub plain_segment : ObjParts → Part ℕ
plain_segment p = index_with (IsPlainSeg p.module) (length p.module.segs)

abbrev pub plain_segment_or_none : ObjParts → Part ℕ
plain_segment_or_none p = index_with (λ i. i ≢ 0 → IsPlainSeg p.module i) (length p.module.segs)

-- A first byte above 80h that says no width.
pub record IsNoLength (c : Cursor) (e : OmfRefusal) : Type 0 where
  pub first : ℕ
  pub rest : List ℕ
  pub stands : c.left ≡ first ∷ rest
  pub large : MAX_SHORT_LENGTH < first
  pub none : (first ≢ LENGTH_16) × (first ≢ LENGTH_24) × (first ≢ LENGTH_32)
  pub is : e ≡ BadField c.at

abbrev pub a_length : Part ℕ
a_length = record { form = length_form; good = Free; wrong = λ c e. PassesEnd length_form c e ⊎ IsNoLength c e }

-- The second byte of a field of two bytes that began at a place: the field passes the end there.
abbrev pub second_byte : ℕ → Part ℕ
second_byte began = record { form = byte; good = Free; wrong = λ c e. (c.left ≡ []) × (e ≡ Short began) }

-- So many bytes.
abbrev pub IsCut : ℕ → Wrong
IsCut n c e = (length c.left < n) × (e ≡ Short c.at)
