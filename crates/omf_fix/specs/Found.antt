-- What is found of an offset in the blocks of "A2h LIDATA" without writing them out: how long their data is, where the
-- offset is copied to, and the places of each innermost block's bytes.
use Rattle.std.specs.Prelude.{ℕ, ◌+◌, ◌-◌, ◌*◌, ◌≤◌, Bool, List, [], ◌∷◌, ◌++◌, length, map, Result, Ok, if◌then◌else◌}
use Rattle.lx_bytes.specs.Cursor.{Cursor}
use Rattle.lx_bytes.specs.LittleEndian.{AreBytes}
use Rattle.obj_types.specs.declared.refusal.OmfRefusal.{OmfRefusal}
use Rattle.lx_types.specs.Answers.{◌>>=◌}
use Rattle.omf_fields.specs.Fields.{Reading, width}
use Rattle.omf_model.specs.Blocks.{contents, expanded_len}
use Rattle.omf_model.specs.Copies.{repeated, place_in, block_copies}
use Rattle.omf_model.specs.ReadBlocks.{Block, innermost, outer, block_at, blocks_at}
use Rattle.omf_data.specs.Expanding.{seen}
use Rattle.omf_fix.specs.declared.found.Copies.{Copies}

-- The length, the copies and the contents.
abbrev pub Found : Type 0
Found = ℕ × List ℕ × List (ℕ × ℕ)

abbrev pub found_in : Copies → Found
found_in c = (c.len, c.places.items, c.contents.items)

-- What is not live is repeated no time.
abbrev pub live_times : Bool → ℕ → ℕ
live_times live times = if live then times else 0

-- How long a block is that is repeated once.
abbrev pub unit_len : Block → ℕ
unit_len (innermost times content) = length content
unit_len (outer times inner) = expanded_len inner

abbrev pub times_of : Block → ℕ
times_of (innermost times content) = times
times_of (outer times inner) = times

-- The copies of a number in a block that begins at a place and is repeated once.
abbrev pub unit_copies : ℕ → Bool → ℕ → Block → List ℕ
unit_copies number wide at (innermost times content) = place_in (at + width wide + 3) (length content) number
unit_copies number wide at (outer times inner) = block_copies wide (at + width wide + 2) inner number

abbrev pub block_contents : Bool → ℕ → Block → List (ℕ × ℕ)
block_contents wide at (innermost times content) = (at + width wide + 3, at + width wide + 3 + length content) ∷ []
block_contents wide at (outer times inner) = contents wide (at + width wide + 2) inner

-- A block after others.
abbrev pub with_block : ℕ → Bool → Bool → ℕ → Found → Block → Found
with_block number wide live at f b = (
  f.0 + live_times live (times_of b) * unit_len b,
  f.1 ++ map (λ x. f.0 + x) (repeated (live_times live (times_of b)) (unit_len b) (unit_copies number wide at b)),
  f.2 ++ block_contents wide at b,
)

-- The next block. The contents of a record begin at the cursor's place 3.
abbrev pub found_at : ℕ → ℕ → Bool → Bool → Found → Cursor → Reading Found
found_at number left wide live f c = seen (with_block number wide live (c.at - 3) f) (block_at left wide c)

-- All blocks up to the end.
abbrev pub blocks_found : ℕ → Bool → Found → Cursor → Result Found OmfRefusal
blocks_found number wide f c = blocks_at wide c
    >>= λ blocks. Ok (f.0 + expanded_len blocks, f.1 ++ map (λ x. f.0 + x) (block_copies wide (c.at - 3) blocks number), f.2 ++ contents wide (c.at - 3) blocks)

-- In a record's contents.
pub record IsInContents (c : Cursor) : Type 0 where
  pub after : 3 ≤ c.at
  pub bytes : AreBytes c.left
