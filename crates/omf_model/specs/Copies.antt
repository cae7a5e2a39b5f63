-- The copies of an offset of LIDATA's blocks, their number and the blocks' length, without expanding anything.
-- "A2h LIDATA"; what a reader computes that keeps a mark for each byte of the record.
use Rattle.std.specs.Prelude.{ℕ, zero, suc, ◌+◌, ◌-◌, ◌*◌, ◌<◌, ◌≤◌, min, Bool, ◌&&◌, List, [], ◌∷◌, ◌++◌, map, length, nat_lt, nat_le, if◌then◌else◌}
use Rattle.std.specs.List.{Contains}
use Rattle.obj_types.specs.declared.limits.TheConstants.{MAX_DATA}
use Rattle.omf_fields.specs.Fields.{width}
use Rattle.omf_model.specs.Blocks.{Blocks, none, bytes, nested, block_bytes, expanded_len, origins, contents}
use Rattle.omf_model.specs.Fixups.{places_of}

-- Each repeat of a unit shifts by the unit's length.
unfoldable pub repeated : ℕ → ℕ → List ℕ → List ℕ
repeated zero unit places = []
repeated (suc times) unit places = places ++ map (λ x. unit + x) (repeated times unit places)

-- An offset lies among so many bytes from a first one on.
abbrev pub is_inside : ℕ → ℕ → ℕ → Bool
is_inside first len offset = nat_le first offset && nat_lt offset (first + len)

abbrev pub place_in : ℕ → ℕ → ℕ → List ℕ
place_in first len offset = if is_inside first len offset then (offset - first) ∷ [] else []

-- The places in the expanded data that an offset is copied to, where the first block begins at a place.
abbrev pub block_copies : Bool → ℕ → Blocks → ℕ → List ℕ
block_copies wide at none offset = []
block_copies wide at (bytes times content rest) offset =
    let first : ℕ = at + width wide + 3 in
    repeated times (length content) (place_in first (length content) offset)
    ++ map (λ x. times * length content + x) (block_copies wide (first + length content) rest offset)
block_copies wide at (nested times inner rest) offset =
    let first : ℕ = at + width wide + 2 in
    repeated times (expanded_len inner) (block_copies wide first inner offset)
    ++ map (λ x. times * expanded_len inner + x) (block_copies wide (first + length (block_bytes wide inner)) rest offset)

-- How many these are.
abbrev pub copy_count : Bool → ℕ → Blocks → ℕ → ℕ
copy_count wide at none offset = 0
copy_count wide at (bytes times content rest) offset =
    let first : ℕ = at + width wide + 3 in
    times * (if is_inside first (length content) offset then 1 else 0) + copy_count wide (first + length content) rest offset
copy_count wide at (nested times inner rest) offset =
    let first : ℕ = at + width wide + 2 in
    times * copy_count wide first inner offset + copy_count wide (first + length (block_bytes wide inner)) rest offset

-- A length above the limit counts as one more than the limit, at every step.
abbrev pub capped : ℕ → ℕ
capped len = min len (MAX_DATA + 1)

abbrev pub capped_len : Blocks → ℕ
capped_len none = 0
capped_len (bytes times content rest) = capped (times * length content + capped_len rest)
capped_len (nested times inner rest) = capped (times * capped_len inner + capped_len rest)

-- ---- two locations on the same blocks

-- So many bytes from an offset on are bytes of one innermost block.
pub record IsInBlock (wide : Bool) (b : Blocks) (offset len : ℕ) : Type 0 where
  pub first : ℕ
  pub past : ℕ
  pub block : Contains (contents wide 0 b) (first, past)
  pub low : first ≤ offset
  pub high : offset + len ≤ past

-- Two stretches of bytes share one.
abbrev pub ShareByte : ℕ → ℕ → ℕ → ℕ → Type 0
ShareByte a la b lb = (a < b + lb) × (b < a + la)

abbrev pub HasCopy : Bool → Blocks → ℕ → Type 0
HasCopy wide b offset = (x : ℕ) × Contains (places_of offset (origins wide 0 b)) x

-- A copy of one and a copy of the other share a byte.
abbrev pub CopiesMeet : Bool → Blocks → ℕ → ℕ → ℕ → ℕ → Type 0
CopiesMeet wide b o la p lb =
    (x : ℕ) × (y : ℕ) × Contains (places_of o (origins wide 0 b)) x × Contains (places_of p (origins wide 0 b)) y × ShareByte x la y lb
