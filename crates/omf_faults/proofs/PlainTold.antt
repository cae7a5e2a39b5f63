-- The indices of segments that are no debug segments fail exactly so.
use Rattle.std.proofs.Common.{◌≡◌, ◌≢◌, ℕ, zero, suc, ◌≤◌, true, false, List, length, refl, arith, inl, inr}
use Rattle.std.specs.Prelude.{IsSomeAnd}
use Rattle.std.proofs.lemmas.Bool.{cases_Bool}
use Rattle.obj_types.specs.declared.object.Seg.{Seg}
use Rattle.obj_types.specs.declared.parts.ObjParts.{ObjParts}
use Rattle.obj_types.specs.Items.{item}
use Rattle.obj_types.specs.Whole.{IsPlainSeg}
use Rattle.omf_fields.specs.Fields.{is_among}
use Rattle.omf_fields.proofs.FieldLaws.{among, among_or_zero, is_among_index, is_among_zero}
use Rattle.omf_model.specs.Items.{is_debug_seg}
use Rattle.omf_model.specs.ReadNames.{checked_plain, plain_seg_at, plain_seg_or_zero}
use Rattle.omf_model.proofs.PlainLaws.{plain_from, plain_index, plain_not_debug}
use Rattle.omf_faults.specs.FieldParts.{plain_segment, plain_segment_or_none}
use Rattle.omf_faults.proofs.Told.{Judges}
use Rattle.omf_faults.proofs.FieldTold.{Picks, not_both, index_with_judges}

plain_picks : (p : ObjParts) → Picks (checked_plain false p) (IsPlainSeg p.module) (length p.module.segs)
plain_picks p at x =
    elim (cases_Bool (is_among false (length p.module.segs) x.0)) [
      | inr h ↦ inr (rw h refl, λ a. let range = plain_index p.module.segs x.0 a in not_both (is_among false (length p.module.segs) x.0) (is_among_index (length p.module.segs) x.0 range.0 range.1) h)
      | inl h ↦ elim (cases_Bool (is_debug_seg p.module.segs x.0)) [
        | inl d ↦ inr (rw (h, d) refl, λ a. not_both (is_debug_seg p.module.segs x.0) d (plain_not_debug p.module.segs x.0 a))
        | inr d ↦ inl (rw (h, d) refl, plain_from p.module.segs x.0 (among (length p.module.segs) x.0 h) d)
      ]
    ]

pub plain_judges : (p : ObjParts) → Judges (plain_seg_at p) (plain_segment p)
unfolding plain_seg_at
plain_judges p = index_with_judges (checked_plain false p) (IsPlainSeg p.module) (length p.module.segs) (plain_picks p)

-- ---- or none

abbrev NoneOrPlain : List Seg → ℕ → Type 0
NoneOrPlain segs i = i ≢ 0 → IsSomeAnd (item segs i) (λ (s : Seg). s.debug ≡ false)

or_none_from : (segs : List Seg) (i : ℕ) → i ≤ length segs → is_debug_seg segs i ≡ false → NoneOrPlain segs i
or_none_from segs zero range h some = absurd (some refl)
or_none_from segs (suc i) range h some = plain_from segs (suc i) (omega arith, range) h

or_none_range : (segs : List Seg) (i : ℕ) → NoneOrPlain segs i → i ≤ length segs
or_none_range segs zero h = omega arith
or_none_range segs (suc i) h = (plain_index segs (suc i) (h (λ none. omega (arith, none)))).1

or_none_plain : (segs : List Seg) (i : ℕ) → NoneOrPlain segs i → is_debug_seg segs i ≡ false
or_none_plain segs zero h = refl
or_none_plain segs (suc i) h = plain_not_debug segs (suc i) (h (λ none. omega (arith, none)))

or_none_picks : (p : ObjParts) → Picks (checked_plain true p) (λ i. i ≢ 0 → IsPlainSeg p.module i) (length p.module.segs)
or_none_picks p at x =
    elim (cases_Bool (is_among true (length p.module.segs) x.0)) [
      | inr h ↦ inr (rw h refl, λ a. not_both (is_among true (length p.module.segs) x.0) (is_among_zero (length p.module.segs) x.0 (or_none_range p.module.segs x.0 a)) h)
      | inl h ↦ elim (cases_Bool (is_debug_seg p.module.segs x.0)) [
        | inl d ↦ inr (rw (h, d) refl, λ a. not_both (is_debug_seg p.module.segs x.0) d (or_none_plain p.module.segs x.0 a))
        | inr d ↦ inl (rw (h, d) refl, or_none_from p.module.segs x.0 (among_or_zero (length p.module.segs) x.0 h) d)
      ]
    ]

pub plain_or_none_judges : (p : ObjParts) → Judges (plain_seg_or_zero p) (plain_segment_or_none p)
unfolding plain_seg_or_zero
plain_or_none_judges p = index_with_judges (checked_plain true p) (λ i. i ≢ 0 → IsPlainSeg p.module i) (length p.module.segs) (or_none_picks p)
