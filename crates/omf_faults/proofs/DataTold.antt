-- The data records fail exactly so. "A0h LEDATA", "A2h LIDATA".
use Rattle.std.proofs.Common.{◌≡◌, ℕ, zero, suc, ◌+◌, ◌≤◌, Bool, true, false, cond, leb, List, length, Option, Some, None, Result, Err, refl, ap, ◌∙◌, arith, inl, inr}
use Rattle.std.specs.Prelude.{◌⊎◌, ◌↔◌, IsSomeAnd, not, unwrap_or, option_map}
use Rattle.std.specs.List.{list_any}
use Rattle.std.proofs.lemmas.Bool.{leb-true, le-leb}
use Rattle.lx_bytes.specs.Cursor.{Cursor}
use Rattle.lx_bytes.specs.LittleEndian.{AreBytes}
use Rattle.obj_types.specs.declared.limits.TheConstants.{MAX_DATA}
use Rattle.obj_types.specs.declared.refusal.OmfRefusal.{OmfRefusal}
use Rattle.obj_types.specs.declared.refusal.OmfRefusal.TheVariants.{DataRange, TooMany, DataOverFix}
use Rattle.obj_types.specs.declared.object.Seg.{Seg}
use Rattle.obj_types.specs.declared.parts.ObjParts.{ObjParts}
use Rattle.obj_types.specs.Items.{item}
use Rattle.lx_types.specs.Answers.{◌>>=◌}
use Rattle.omf_fields.specs.Fields.{check, width}
use Rattle.omf_fields.proofs.SpanLaws.{done}
use Rattle.omf_fields.proofs.FieldLaws.{FromOne}
use Rattle.omf_model.specs.Blocks.{Blocks, block_bytes}
use Rattle.omf_model.specs.ReadBlocks.{blocks_at}
use Rattle.omf_model.specs.Record.{Record, ledata, lidata}
use Rattle.omf_model.specs.Items.{is_debug_seg, data_so_far}
use Rattle.omf_model.specs.Fixups.{touches}
use Rattle.omf_model.specs.Good.{GoodBlocks}
use Rattle.omf_model.specs.ReadData.{seg_len, judge_data, ledata_at, counted_len, lidata_at}
use Rattle.omf_model.proofs.PlainLaws.{some_at}
use Rattle.omf_model.proofs.BlockLaws.{blocks_sound, blocks_complete}
use Rattle.omf_model.proofs.ModuleLaws.{bind_err}
use Rattle.omf_faults.specs.Parts.{ConditionThen, Breaks, WrongItem}
use Rattle.omf_faults.specs.DataRecords.{Stretch, WrongData, WrongLedata, outermost, WrongLidata}
use Rattle.omf_faults.specs.Laws.{FailsAs}
use Rattle.omf_faults.proofs.Told.{ok_no_err, err_bind, done_tells, part_tells, good_part_tells, condition_tells, breaks_tells}
use Rattle.omf_faults.proofs.FieldTold.{number_judges, below_judges}
use Rattle.omf_faults.proofs.NameTold.{is_not, is_at_most}
use Rattle.omf_faults.proofs.BlockTold.{blocks_tell}

-- ---- the conditions on data

abbrev stretch : ℕ → ℕ → ℕ → Stretch
stretch segment offset len = record { segment = segment; offset = offset; len = len }

abbrev len_of : Option Seg → ℕ
len_of o = unwrap_or (option_map (λ (s : Seg). s.len) o) 0

abbrev debug_of : Option Seg → Bool
debug_of o = unwrap_or (option_map (λ (s : Seg). s.debug) o) false

abbrev LiesAt : ℕ → ℕ → Option Seg → Type 0
LiesAt offset len o = IsSomeAnd o (λ (s : Seg). (s.debug ≡ false) × (offset + len ≤ s.len))

lies_of : (offset len : ℕ) (o : Option Seg) (s : Seg) → o ≡ Some s → debug_of o ≡ false → (leb (offset + len) (len_of o) ≡ true) ↔ LiesAt offset len o
lies_of offset len None s is plain = absurd cc
lies_of offset len (Some r) s is plain = (λ h. (plain, leb-true _ _ h), λ h. le-leb _ _ h.1)

lies : (segs : List Seg) (i offset len : ℕ) → FromOne (length segs) i → is_debug_seg segs i ≡ false → (leb (offset + len) (seg_len segs i) ≡ true) ↔ LiesAt offset len (item segs i)
lies segs zero offset len range plain = absurd (omega (arith, range.0))
lies segs (suc i) offset len range plain =
    let s = some_at segs i (omega (arith, range.1)) in
    lies_of offset len (item segs (suc i)) s.0 s.1 plain

-- data outside debug segments
abbrev judged : ObjParts → (at offset_at seg offset len : ℕ) → Result (Unit {0}) OmfRefusal
judged p at offset_at seg offset len =
    check (leb (offset + len) (seg_len p.module.segs seg)) (DataRange offset_at) >>= λ ok. check (leb (data_so_far p + len) MAX_DATA) (TooMany at) >>= λ ok'. check (not (list_any (touches seg offset len) p.module.fixes)) (DataOverFix offset_at)

abbrev WrongPlace : ObjParts → (at offset_at seg offset len : ℕ) → OmfRefusal → Type 0
WrongPlace p at offset_at seg offset len e =
    ConditionThen (LiesAt offset len (item p.module.segs seg)) (DataRange offset_at) e (
    ConditionThen (data_so_far p + len ≤ MAX_DATA) (TooMany at) e (
    Breaks (list_any (touches seg offset len) p.module.fixes ≡ false) (DataOverFix offset_at) e))

place_tells : (p : ObjParts) (at offset_at seg offset len : ℕ) (e : OmfRefusal) → FromOne (length p.module.segs) seg → is_debug_seg p.module.segs seg ≡ false → (judged p at offset_at seg offset len ≡ Err e) ↔ WrongPlace p at offset_at seg offset len e
place_tells p at offset_at seg offset len e range plain =
    condition_tells (leb (offset + len) (seg_len p.module.segs seg)) _ (lies p.module.segs seg offset len range plain) (DataRange offset_at) _ e _ λ fits.
    condition_tells (leb (data_so_far p + len) MAX_DATA) _ (is_at_most (data_so_far p + len) MAX_DATA) (TooMany at) _ e _ λ few.
    breaks_tells (not (list_any (touches seg offset len) p.module.fixes)) _ (is_not (list_any (touches seg offset len) p.module.fixes)) (DataOverFix offset_at) e

by_debug : (debug : Bool) (r : Result (Unit {0}) OmfRefusal) (e : OmfRefusal) (W : Type 0) → (debug ≡ false → (r ≡ Err e) ↔ W) → (cond debug (done tt) r ≡ Err e) ↔ ((debug ≡ false) × W)
by_debug true r e W k = (λ is. absurd (ok_no_err tt e is), λ w. let both : true ≡ false = w.0 in absurd cc)
by_debug false r e W k = (λ is. (refl, (k refl).0 is), λ w. (k refl).1 w.1)

judge_tells : (p : ObjParts) (at offset_at seg offset len : ℕ) (e : OmfRefusal) → FromOne (length p.module.segs) seg → (judge_data p at offset_at seg offset len ≡ Err e) ↔ WrongData p at offset_at (stretch seg offset len) e
unfolding judge_data
judge_tells p at offset_at seg offset len e range =
    by_debug (is_debug_seg p.module.segs seg) (judged p at offset_at seg offset len) e (WrongPlace p at offset_at seg offset len e) (λ plain. place_tells p at offset_at seg offset len e range plain)

-- ---- LEDATA, LIDATA

pub ledata_told : (wide : Bool) (p : ObjParts) (at : ℕ) → FailsAs (ledata_at wide p at) (WrongLedata wide p at)
unfolding ledata_at
ledata_told wide p at c e bytes =
    good_part_tells _ _ (below_judges (length p.module.segs)) c _ e _ bytes λ seg c1 range b1.
    part_tells _ _ (number_judges (width wide)) c1 _ e _ b1 λ offset c2 b2.
    done_tells (judge_data p at c1.at seg offset (length c2.left)) (λ ok. ledata seg offset c2.left) e _ (judge_tells p at c1.at seg offset (length c2.left) e range)

-- what follows the offset field of LIDATA
abbrev WrongBlocks : Bool → ObjParts → (at offset_at seg offset : ℕ) → Cursor → OmfRefusal → Type 0
WrongBlocks wide p at offset_at seg offset c e =
    WrongItem (outermost wide) c e
    ⊎ ((blocks : Blocks) × (c.left ≡ block_bytes wide blocks) × GoodBlocks wide blocks × WrongData p at offset_at (stretch seg offset (counted_len blocks)) e)

-- the conditions on the data of blocks, and the record
judged_blocks : Bool → ObjParts → (at offset_at seg offset : ℕ) → Blocks → Result Record OmfRefusal
judged_blocks wide p at offset_at seg offset blocks = judge_data p at offset_at seg offset (counted_len blocks) >>= λ ok. done (lidata wide seg offset blocks)

judged_tells : (wide : Bool) (p : ObjParts) (at offset_at seg offset : ℕ) (blocks : Blocks) (e : OmfRefusal) → FromOne (length p.module.segs) seg → (judged_blocks wide p at offset_at seg offset blocks ≡ Err e) ↔ WrongData p at offset_at (stretch seg offset (counted_len blocks)) e
unfolding judged_blocks
judged_tells wide p at offset_at seg offset blocks e range =
    done_tells (judge_data p at offset_at seg offset (counted_len blocks)) (λ ok. lidata wide seg offset blocks) e _ (judge_tells p at offset_at seg offset (counted_len blocks) e range)

blocks_then : (wide : Bool) (p : ObjParts) (at offset_at seg offset : ℕ) (c : Cursor) (e : OmfRefusal) → FromOne (length p.module.segs) seg → AreBytes c.left
    → ((blocks_at wide c >>= judged_blocks wide p at offset_at seg offset) ≡ Err e) ↔ WrongBlocks wide p at offset_at seg offset c e
blocks_then wide p at offset_at seg offset c e range bytes = (
  λ is. elim (bind_err (blocks_at wide c) (judged_blocks wide p at offset_at seg offset) e is) [
    | inl none ↦ inl ((blocks_tell wide c e bytes).0 none)
    | inr x ↦ let s = blocks_sound wide c x.0 bytes x.1 in inr (x.0, s.0, s.1, (judged_tells wide p at offset_at seg offset x.0 e range).0 x.2)
  ],
  λ w. elim w [
    | inl wrong ↦ err_bind (blocks_at wide c) (judged_blocks wide p at offset_at seg offset) e ((blocks_tell wide c e bytes).1 wrong)
    | inr good ↦ ap (λ (r : Result Blocks OmfRefusal). r >>= judged_blocks wide p at offset_at seg offset) (blocks_complete wide c good.0 good.1 good.2) ∙ (judged_tells wide p at offset_at seg offset good.0 e range).1 good.3
  ],
)

pub lidata_told : (wide : Bool) (p : ObjParts) (at : ℕ) → FailsAs (lidata_at wide p at) (WrongLidata wide p at)
unfolding lidata_at judged_blocks
lidata_told wide p at c e bytes =
    good_part_tells _ _ (below_judges (length p.module.segs)) c _ e _ bytes λ seg c1 range b1.
    part_tells _ _ (number_judges (width wide)) c1 _ e _ b1 λ offset c2 b2.
    blocks_then wide p at c1.at seg offset c2 e range b2
