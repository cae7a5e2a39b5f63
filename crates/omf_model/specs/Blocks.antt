-- The iterated data of "A2h LIDATA": blocks, how bytes spell them and what they expand to.
use Rattle.std.specs.Prelude.{ℕ, ◌+◌, ◌*◌, ◌≤◌, ◌<◌, ◌^◌, max, Bool, List, [], ◌∷◌, ◌++◌, length}
use Rattle.std.specs.List.{repeat, range_with_len}
use Rattle.lx_bytes.specs.LittleEndian.{little_bytes}
use Rattle.omf_fields.specs.Fields.{width}

-- A list of blocks. An innermost block has its content, and each other one has blocks in it.
pub data Blocks : Type 0 where
  none : Blocks
  bytes : (times : ℕ) (content : List ℕ) (rest : Blocks) → Blocks
  nested : (times : ℕ) (inner rest : Blocks) → Blocks

abbrev pub count_of : Blocks → ℕ
count_of none = 0
count_of (bytes times content rest) = 1 + count_of rest
count_of (nested times inner rest) = 1 + count_of rest

-- The outermost blocks have the depth 1.
abbrev pub depth_of : Blocks → ℕ
depth_of none = 0
depth_of (bytes times content rest) = max 1 (depth_of rest)
depth_of (nested times inner rest) = max (1 + depth_of inner) (depth_of rest)

-- Repeat count, 2 or 4 bytes, and block count. Where that is 0 a length byte and bytes follow it,
-- otherwise that many blocks.
abbrev pub head_bytes : Bool → ℕ → ℕ → List ℕ
head_bytes wide times count = little_bytes (width wide) times ++ little_bytes 2 count

abbrev pub block_bytes : Bool → Blocks → List ℕ
block_bytes wide none = []
block_bytes wide (bytes times content rest) = head_bytes wide times 0 ++ length content ∷ content ++ block_bytes wide rest
block_bytes wide (nested times inner rest) = head_bytes wide times (count_of inner) ++ block_bytes wide inner ++ block_bytes wide rest

-- The numbers fit their fields.
abbrev pub FitBlocks : Bool → Blocks → Type 0
FitBlocks wide none = Unit {0}
FitBlocks wide (bytes times content rest) = (times < 256 ^ width wide) × (length content < 256) × FitBlocks wide rest
FitBlocks wide (nested times inner rest) =
    (times < 256 ^ width wide) × (1 ≤ count_of inner) × (count_of inner < 2 ^ 16) × FitBlocks wide inner × FitBlocks wide rest

-- A block's content, joined repeat-count times.
abbrev pub expanded : Blocks → List ℕ
expanded none = []
expanded (bytes times content rest) = repeat times content ++ expanded rest
expanded (nested times inner rest) = repeat times (expanded inner) ++ expanded rest

-- How long that is, without expanding anything.
abbrev pub expanded_len : Blocks → ℕ
expanded_len none = 0
expanded_len (bytes times content rest) = times * length content + expanded_len rest
expanded_len (nested times inner rest) = times * expanded_len inner + expanded_len rest

-- Of each expanded byte the place among the blocks' bytes that it was copied from, where the first block
-- begins at a place.
abbrev pub origins : Bool → ℕ → Blocks → List ℕ
origins wide at none = []
origins wide at (bytes times content rest) =
    let first : ℕ = at + width wide + 3 in
    repeat times (range_with_len first (length content)) ++ origins wide (first + length content) rest
origins wide at (nested times inner rest) =
    let first : ℕ = at + width wide + 2 in
    repeat times (origins wide first inner) ++ origins wide (first + length (block_bytes wide inner)) rest

-- The bytes of each innermost block, as the place of the first and the place past the last.
abbrev pub contents : Bool → ℕ → Blocks → List (ℕ × ℕ)
contents wide at none = []
contents wide at (bytes times content rest) =
    let first : ℕ = at + width wide + 3 in
    (first, first + length content) ∷ contents wide (first + length content) rest
contents wide at (nested times inner rest) =
    let first : ℕ = at + width wide + 2 in
    contents wide first inner ++ contents wide (first + length (block_bytes wide inner)) rest
