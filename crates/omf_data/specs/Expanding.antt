-- What is read of the blocks of "A2h LIDATA" without keeping them: how long they are, and what they expand to.
use Rattle.std.specs.Prelude.{◌≡◌, ℕ, ◌*◌, Bool, List, ◌++◌, length, Result, Ok}
use Rattle.std.specs.List.{repeat}
use Rattle.lx_bytes.specs.Cursor.{Cursor}
use Rattle.obj_types.specs.declared.refusal.OmfRefusal.{OmfRefusal}
use Rattle.lx_types.specs.Answers.{◌>>=◌}
use Rattle.omf_fields.specs.Fields.{Reading, items_at}
use Rattle.omf_model.specs.Blocks.{block_bytes, expanded, expanded_len}
use Rattle.omf_model.specs.Copies.{capped}
use Rattle.omf_model.specs.Good.{GoodBlocks}
use Rattle.omf_model.specs.ReadBlocks.{Block, innermost, outer, block_at, blocks_at, blocks_in}
use Rattle.omf_model.specs.ReadData.{counted_len}

-- A block's data.
abbrev pub block_data : Block → List ℕ
block_data (innermost times content) = repeat times content
block_data (outer times inner) = repeat times (expanded inner)

-- How long that is, without expanding anything.
abbrev pub block_len : Block → ℕ
block_len (innermost times content) = times * length content
block_len (outer times inner) = times * expanded_len inner

-- What is read, seen by a view.
abbrev pub seen : {A B : Type 0} → (A → B) → Reading A → Reading B
seen view read = read >>= λ x. Ok (view x.0, x.1)

-- A block's length with a cap.
abbrev pub measured_at : ℕ → Bool → Cursor → Reading ℕ
measured_at left wide c = seen (λ b. capped (block_len b)) (block_at left wide c)

-- Some data, with that of a block after it.
abbrev pub expanded_at : ℕ → Bool → List ℕ → Cursor → Reading (List ℕ)
expanded_at left wide front c = seen (λ b. front ++ block_data b) (block_at left wide c)

-- So many blocks, of which the number is told alone.
abbrev pub skipped_at : ℕ → Bool → ℕ → Cursor → Reading ℕ
skipped_at left wide count c = seen (λ _. count) (items_at (block_at left wide) count c)

-- The length of the data of all blocks, with a cap.
abbrev pub counted_at : Bool → Cursor → Result ℕ OmfRefusal
counted_at wide c = blocks_at wide c >>= λ blocks. Ok (counted_len blocks)

-- The bytes are those of good blocks.
pub record SpellsBlocks (wide : Bool) (body : List ℕ) : Type 0 where
  pub spelled : body ≡ block_bytes wide (blocks_in wide body)
  pub good : GoodBlocks wide (blocks_in wide body)
