-- Reading the blocks of "A2h LIDATA" from left to right.
use Rattle.std.specs.Prelude.{ℕ, zero, suc, Bool, List, [], ◌∷◌, Result, Ok, Err}
use Rattle.lx_bytes.specs.Cursor.{Cursor}
use Rattle.obj_types.specs.declared.limits.TheConstants.{MAX_DEPTH}
use Rattle.obj_types.specs.declared.refusal.OmfRefusal.{OmfRefusal}
use Rattle.obj_types.specs.declared.refusal.OmfRefusal.TheVariants.{Nested}
use Rattle.omf_model.specs.Blocks.{Blocks, none, bytes, nested}
use Rattle.lx_types.specs.Answers.{◌>>=◌}
use Rattle.omf_fields.specs.Fields.{Reading, width, byte_at, bytes_at, number_at, items_at, list_at}

-- One block.
pub data Block : Type 0 where
  innermost : (times : ℕ) (content : List ℕ) → Block
  outer : (times : ℕ) (inner : Blocks) → Block

abbrev pub joined : List Block → Blocks
joined [] = none
joined (innermost times content ∷ rest) = bytes times content (joined rest)
joined (outer times inner ∷ rest) = nested times inner (joined rest)

-- What follows the block count, which is 0 of an innermost block.
abbrev pub block_rest : (Cursor → Reading Block) → ℕ → ℕ → Cursor → Reading Block
block_rest block times zero c = do
  len ← byte_at c
  content ← bytes_at len.0 len.1
  Ok (innermost times content.0, content.1)
block_rest block times (suc more) c = do
  inner ← items_at block (suc more) c
  Ok (outer times (joined inner.0), inner.1)

-- A block, with so many depths left. One that is nested too deep is Nested at its first byte, after its
-- repeat count was read.
unfoldable pub block_at : ℕ → Bool → Cursor → Reading Block
block_at zero wide c = number_at (width wide) c >>= λ times. Err (Nested c.at)
block_at (suc left) wide c = do
  times ← number_at (width wide) c
  count ← number_at 2 times.1
  block_rest (block_at left wide) times.0 count.0 count.1

-- Blocks up to the record's end.
unfoldable pub blocks_at : Bool → Cursor → Result Blocks OmfRefusal
blocks_at wide c = list_at (block_at MAX_DEPTH wide) c >>= λ blocks. Ok (joined blocks)

-- The blocks that bytes spell, and none where they spell no blocks.
abbrev pub found_or_none : Result Blocks OmfRefusal → Blocks
found_or_none (Ok blocks) = blocks
found_or_none (Err refusal) = none

unfoldable pub blocks_in : Bool → List ℕ → Blocks
blocks_in wide body = found_or_none (blocks_at wide (record { at = 0; left = body }))
