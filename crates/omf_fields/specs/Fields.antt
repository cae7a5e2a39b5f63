-- Fields of records, read from left to right.
-- "Record Format", "Index fields"; "B0h COMDEF" for the numbers of lengths.
use Rattle.std.specs.Prelude.{ℕ, ◌+◌, ◌-◌, ◌*◌, Bool, true, false, zero, suc, List, [], ◌∷◌, length, take, drop, Option, Some, None, Result, Ok, Err, nat_lt, nat_le, ◌==◌, if◌then◌else◌}
use Rattle.lx_types.specs.Answers.{◌>>=◌}
use Rattle.lx_bytes.specs.Cursor.{Cursor, advance}
use Rattle.lx_bytes.specs.LittleEndian.{little}
use Rattle.omf_fields.specs.Within.{within}
use Rattle.omf_fields.specs.declared.lengths.TheConstants.{MAX_SHORT_LENGTH, LENGTH_16, LENGTH_24, LENGTH_32}
use Rattle.obj_types.specs.declared.refusal.OmfRefusal.{OmfRefusal}
use Rattle.obj_types.specs.declared.refusal.OmfRefusal.TheVariants.{Short, BadField, BadIndex}

-- What stands at a cursor and the cursor after it, or the first fault.
abbrev pub Reading : Type 0 → Type 0
Reading A = Result (A × Cursor) OmfRefusal

-- The next n bytes. A field that passes its record's end is Short at its first byte.
abbrev pub bytes_at : ℕ → Cursor → Reading (List ℕ)
bytes_at n c = if nat_lt (length c.left) n then Err (Short c.at) else Ok (take n c.left, advance n c)

-- A number of n bytes.
abbrev pub number_at : ℕ → Cursor → Reading ℕ
number_at n c = if nat_lt (length c.left) n then Err (Short c.at) else Ok (little (take n c.left), advance n c)

-- An offset or a length of a numeric pair: 2 bytes in the even type, 4 in the odd one.
abbrev pub width : Bool → ℕ
width wide = if wide then 4 else 2

-- A byte.
abbrev pub byte_of : ℕ → List ℕ → Reading ℕ
byte_of at [] = Err (Short at)
byte_of at (b ∷ rest) = Ok (b, record { at = at + 1; left = rest })

abbrev pub byte_at : Cursor → Reading ℕ
byte_at c = byte_of c.at c.left

-- n more bytes of a field that began at a place, with a byte already read.
abbrev pub rest_of : ℕ → ℕ → List ℕ → Reading (List ℕ)
rest_of at n rest = if nat_lt (length rest) n then Err (Short at) else Ok (take n rest, record { at = at + 1 + n; left = drop n rest })

-- A name: a length byte, and that many bytes.
abbrev pub name_of : ℕ → List ℕ → Reading (List ℕ)
name_of at [] = Err (Short at)
name_of at (n ∷ rest) = rest_of at n rest

abbrev pub name_at : Cursor → Reading (List ℕ)
name_at c = name_of c.at c.left

-- An index: a byte below 80h, or two bytes, the first of which has its high bit set.
abbrev pub index_of : ℕ → List ℕ → Reading ℕ
index_of at [] = Err (Short at)
index_of at (b ∷ []) = if nat_lt b 128 then Ok (b, record { at = at + 1; left = [] }) else Err (Short at)
index_of at (b ∷ low ∷ rest) =
    if nat_lt b 128 then Ok (b, record { at = at + 1; left = low ∷ rest })
    else Ok ((b - 128) * 256 + low, record { at = at + 2; left = rest })

abbrev pub index_at : Cursor → Reading ℕ
index_at c = index_of c.at c.left

-- An index of one of so many, or 0 where that is allowed.
abbrev pub is_among : Bool → ℕ → ℕ → Bool
is_among zero_too have i = if i == 0 then zero_too else nat_le i have

abbrev pub checked : Bool → ℕ → ℕ → ℕ × Cursor → Reading ℕ
checked zero_too have at i = if is_among zero_too have i.0 then Ok i else Err (BadIndex at i.0 have)

-- From 1 to have.
unfoldable pub index_below : ℕ → Cursor → Reading ℕ
index_below have c = index_at c >>= checked false have c.at

-- From 0 to have.
unfoldable pub index_or_zero : ℕ → Cursor → Reading ℕ
index_or_zero have c = index_at c >>= checked true have c.at

-- A length of COMDEF: a byte up to 80h, or 81h, 84h or 88h and a number of 2, 3 or 4 bytes.
abbrev pub length_bytes : ℕ → Option ℕ
length_bytes b =
    if nat_le b MAX_SHORT_LENGTH then Some 0
    else if b == LENGTH_16 then Some 2
    else if b == LENGTH_24 then Some 3
    else if b == LENGTH_32 then Some 4
    else None

abbrev pub sized : ℕ → ℕ → Option ℕ → List ℕ → Reading ℕ
sized at b None rest = Err (BadField at)
sized at b (Some n) rest = rest_of at n rest >>= λ more. Ok (if n == 0 then b else little more.0, more.1)

abbrev pub length_of : ℕ → List ℕ → Reading ℕ
length_of at [] = Err (Short at)
length_of at (b ∷ rest) = sized at b (length_bytes b) rest

abbrev pub length_at : Cursor → Reading ℕ
length_at c = length_of c.at c.left

-- A field that stands there in some cases only.
abbrev pub where_so : {A : Type 0} → Bool → (Cursor → Reading A) → Cursor → Reading (Option A)
where_so present field c = if present then (field c >>= λ x. Ok (Some x.0, x.1)) else Ok (None, c)

-- A list of so many items.
unfoldable pub items_at : {A : Type 0} → (Cursor → Reading A) → ℕ → Cursor → Reading (List A)
items_at one zero c = Ok ([], c)
items_at one (suc n) c = do
  first ← one c
  others ← items_at one n first.1
  Ok (first.0 ∷ others.0, others.1)

-- Items up to the record's end. There are no more of them than bytes.
abbrev pub item_and_others : {A : Type 0} → (Cursor → Reading A) → (Cursor → Result (List A) OmfRefusal) → Cursor → Result (List A) OmfRefusal
item_and_others one others_at c = do
  first ← one c
  others ← others_at first.1
  Ok (first.0 ∷ others)

abbrev pub list_turn : {A : Type 0} → (Cursor → Reading A) → (Cursor → Result (List A) OmfRefusal) → Cursor → Result (List A) OmfRefusal
list_turn one others_at c = if length c.left == 0 then Ok [] else item_and_others one others_at c

abbrev pub no_items : {A : Type 0} → Cursor → Result (List A) OmfRefusal
no_items c = Ok []

unfoldable pub list_within : {A : Type 0} → (Cursor → Reading A) → ℕ → Cursor → Result (List A) OmfRefusal
list_within one most c = within (list_turn one) no_items most c

abbrev pub list_at : {A : Type 0} → (Cursor → Reading A) → Cursor → Result (List A) OmfRefusal
list_at one c = list_within one (length c.left) c

-- A condition with its refusal.
abbrev pub check : Bool → OmfRefusal → Result (Unit {0}) OmfRefusal
check true refusal = Ok tt
check false refusal = Err refusal
