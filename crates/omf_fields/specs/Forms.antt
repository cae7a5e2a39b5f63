-- What bytes may spell the fields of records.
-- "Record Format", "Index fields"; "B0h COMDEF" for the numbers of lengths.
use Rattle.std.specs.Prelude.{◌≡◌, ℕ, ◌+◌, ◌/◌, ◌%◌, ◌^◌, ◌≤◌, ◌<◌, ◌⊎◌, Bool, true, false, List, [], ◌∷◌, ◌++◌, length, Option, Some, None}
use Rattle.lx_bytes.specs.LittleEndian.{little_bytes}
use Rattle.omf_fields.specs.declared.lengths.TheConstants.{MAX_SHORT_LENGTH, LENGTH_16, LENGTH_24, LENGTH_32}

-- Which bytes are allowed.
abbrev pub Form : Type 1
Form = List ℕ → Type 0

-- One form, and then another.
pub record Then (first second : Form) (bytes : List ℕ) : Type 0 where
  pub front : List ℕ
  pub back : List ℕ
  pub joined : bytes ≡ front ++ back
  pub first_so : first front
  pub second_so : second back

infixr 20 ◌then◌
abbrev pub ◌then◌ : Form → Form → Form
first then second = Then first second

abbrev pub nothing : Form
nothing bytes = bytes ≡ []

-- What is passed over.
abbrev pub anything : Form
anything bytes = Unit {0}

-- A form for each item, one after another.
abbrev pub each : {A : Type 0} → (A → Form) → List A → Form
each form [] = nothing
each form (x ∷ xs) = form x then each form xs

-- A field that stands there in some cases only.
abbrev pub present : {A : Type 0} → Bool → (A → Form) → Option A → Form
present true form (Some x) = form x
present true form None = λ bytes. ⊥
present false form (Some x) = λ bytes. ⊥
present false form None = nothing

abbrev pub byte : ℕ → Form
byte b bytes = (b < 256) × (bytes ≡ b ∷ [])

-- A number of n bytes, the lowest first.
abbrev pub number : ℕ → ℕ → Form
number n x bytes = (x < 256 ^ n) × (bytes ≡ little_bytes n x)

-- A length byte, and that many bytes.
abbrev pub name : List ℕ → Form
name text bytes = (length text < 256) × (bytes ≡ length text ∷ text)

-- One byte below 80h, or two bytes, the first with its high bit set.
abbrev pub index : ℕ → Form
index i bytes = ((i < 128) × (bytes ≡ i ∷ [])) ⊎ ((i < 2 ^ 15) × (bytes ≡ (128 + i / 256) ∷ (i % 256) ∷ []))

-- A length of COMDEF: a byte up to 80h, or 81h, 84h or 88h and a number of 2, 3 or 4 bytes.
abbrev pub length_form : ℕ → Form
length_form x bytes =
    ((x ≤ MAX_SHORT_LENGTH) × (bytes ≡ x ∷ []))
    ⊎ ((x < 2 ^ 16) × (bytes ≡ LENGTH_16 ∷ little_bytes 2 x))
    ⊎ ((x < 2 ^ 24) × (bytes ≡ LENGTH_24 ∷ little_bytes 3 x))
    ⊎ ((x < 2 ^ 32) × (bytes ≡ LENGTH_32 ∷ little_bytes 4 x))
