-- What is wrong in the data records: a line a field or a condition, in their order. "A0h LEDATA", "A2h LIDATA".
use Rattle.std.specs.Prelude.{◌≡◌, ◌≢◌, ℕ, zero, suc, ◌+◌, ◌≤◌, ◌⊎◌, Bool, false, [], ◌∷◌, length}
use Rattle.std.specs.List.{list_any}
use Rattle.obj_types.specs.declared.limits.TheConstants.{MAX_DATA, MAX_DEPTH}
use Rattle.obj_types.specs.declared.refusal.OmfRefusal.{OmfRefusal}
use Rattle.obj_types.specs.declared.refusal.OmfRefusal.TheVariants.{Nested, DataRange, TooMany, DataOverFix}
use Rattle.obj_types.specs.declared.parts.ObjParts.{ObjParts}
use Rattle.obj_types.specs.Whole.{LiesIn}
use Rattle.omf_fields.specs.Fields.{width}
use Rattle.omf_fields.specs.Forms.{Form}
use Rattle.omf_model.specs.Blocks.{Blocks, FitBlocks, block_bytes, depth_of}
use Rattle.omf_model.specs.ReadBlocks.{Block, joined}
use Rattle.omf_model.specs.ReadData.{counted_len}
use Rattle.omf_model.specs.Good.{GoodBlocks}
use Rattle.omf_model.specs.Items.{is_debug_seg, data_so_far}
use Rattle.omf_model.specs.Fixups.{touches}
use Rattle.omf_faults.specs.Parts.{Part, Wrong, PartThen, ConditionThen, Breaks, WrongItem, WrongOf}
use Rattle.omf_faults.specs.FieldParts.{a_byte, a_number, index_from_one, IsCut}

-- ---- conditions on the whole, after all fields. Of data of a debug segment none is judged.

-- So many bytes of a segment from an offset on.
pub record Stretch : Type 0 where
  pub segment : ℕ
  pub offset : ℕ
  pub len : ℕ

abbrev pub WrongData : ObjParts → (record_at offset_at : ℕ) → Stretch → OmfRefusal → Type 0
WrongData p record_at offset_at data_at e =
    (is_debug_seg p.module.segs data_at.segment ≡ false) × (
    ConditionThen (LiesIn p.module data_at.segment data_at.offset data_at.len) (DataRange offset_at) e (
    ConditionThen (data_so_far p + data_at.len ≤ MAX_DATA) (TooMany record_at) e (
    Breaks (list_any (touches data_at.segment data_at.offset data_at.len) p.module.fixes ≡ false) (DataOverFix offset_at) e)))

abbrev pub WrongLedata : Bool → ObjParts → ℕ → Wrong
WrongLedata wide p record_at c e =
    PartThen (index_from_one (length p.module.segs)) c e λ segment c1.
    PartThen (a_number (width wide)) c1 e λ offset c2.
    WrongData p record_at c1.at (record { segment = segment; offset = offset; len = length c2.left }) e

-- ---- blocks

-- one block
abbrev pub block_form : Bool → Block → Form
block_form wide block bytes = bytes ≡ block_bytes wide (joined (block ∷ []))

-- within so many depths
abbrev pub GoodBlock : ℕ → Bool → Block → Type 0
GoodBlock depths wide block = FitBlocks wide (joined (block ∷ [])) × (depth_of (joined (block ∷ [])) ≤ depths)

-- A block that is nested too deep is told at its first byte, once its repeat count was spelled.
abbrev pub WrongBlock : ℕ → Bool → Wrong
WrongBlock zero wide c e =
    PartThen (a_number (width wide)) c e λ times _.
    e ≡ Nested c.at
WrongBlock (suc depths) wide c e =
    PartThen (a_number (width wide)) c e λ times c1.
    PartThen (a_number 2) c1 e λ count c2.
    ((count ≡ 0) × PartThen a_byte c2 e λ len d. IsCut len d e)
    ⊎ ((count ≢ 0) × WrongOf (record { form = block_form wide; good = GoodBlock depths wide; wrong = WrongBlock depths wide }) count c2 e)

abbrev pub outermost : Bool → Part Block
outermost wide = record { form = block_form wide; good = GoodBlock MAX_DEPTH wide; wrong = WrongBlock MAX_DEPTH wide }

abbrev pub WrongLidata : Bool → ObjParts → ℕ → Wrong
WrongLidata wide p record_at c e =
    PartThen (index_from_one (length p.module.segs)) c e λ segment c1.
    PartThen (a_number (width wide)) c1 e λ offset c2.
    WrongItem (outermost wide) c2 e
    ⊎ ((blocks : Blocks) × (c2.left ≡ block_bytes wide blocks) × GoodBlocks wide blocks
    × WrongData p record_at c1.at (record { segment = segment; offset = offset; len = counted_len blocks }) e)
