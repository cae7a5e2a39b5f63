-- The data records: what is read is spelled so and good, and what is so is read. "A0h LEDATA", "A2h LIDATA".
use Rattle.omf_model.specs.Fixups.{touches}
use Rattle.std.proofs.Common.{◌≡◌, ℕ, zero, suc, ◌+◌, ◌≤◌, Bool, true, false, cond, leb, List, [], ◌∷◌, length, Option, Some, None, Ok, refl, sym, subst, arith, inl, inr}
use Rattle.std.specs.Prelude.{◌⊎◌, IsSomeAnd, not, unwrap_or, option_map}
use Rattle.std.specs.List.{list_any}
use Rattle.std.proofs.lemmas.Bool.{leb-true, le-leb, not-true}
use Rattle.lx_bytes.specs.Cursor.{Cursor}
use Rattle.lx_bytes.specs.LittleEndian.{AreBytes}
use Rattle.obj_types.specs.declared.limits.TheConstants.{MAX_DATA}
use Rattle.obj_types.specs.declared.refusal.OmfRefusal.{OmfRefusal}
use Rattle.obj_types.specs.declared.refusal.OmfRefusal.TheVariants.{DataRange, TooMany, DataOverFix}
use Rattle.obj_types.specs.declared.object.Seg.{Seg}
use Rattle.obj_types.specs.declared.parts.ObjParts.{ObjParts}
use Rattle.obj_types.specs.Items.{item}
use Rattle.lx_types.specs.Answers.{◌>>=◌}
use Rattle.omf_fields.specs.Fields.{check, width}
use Rattle.omf_model.specs.Blocks.{Blocks, block_bytes, expanded_len}
use Rattle.omf_model.specs.ReadBlocks.{blocks_at}
use Rattle.omf_model.specs.Record.{Record, ledata, lidata}
use Rattle.omf_model.specs.Items.{is_debug_seg, data_so_far}
use Rattle.omf_model.specs.ReadData.{seg_len, judge_data, ledata_at, counted_len, lidata_at}
use Rattle.omf_model.specs.Spelling.{pair, contents_form}
use Rattle.omf_model.specs.Good.{GoodAfter, GoodPlace, GoodData}
use Rattle.omf_fields.proofs.SpanLaws.{then_left, left_splits, ok_is, bind_ok, step, checked_step}
use Rattle.omf_fields.proofs.FieldLaws.{FromOne, chosen, number_sound, number_complete, below_sound, below_complete}
use Rattle.omf_model.proofs.PlainLaws.{index_small, some_at}
use Rattle.omf_model.proofs.BlockLaws.{blocks_sound, blocks_complete}
use Rattle.omf_model.proofs.NameLaws.{IsRead}

abbrev pub block_types : Bool → List (ℕ × Bool)
block_types wide = (cond wide 0xA3 0xA2, wide) ∷ []

pub bool_cases : (b : Bool) → (b ≡ true) ⊎ (b ≡ false)
bool_cases true = inl refl
bool_cases false = inr refl

abbrev len_of : Option Seg → ℕ
len_of o = unwrap_or (option_map (λ (s : Seg). s.len) o) 0

abbrev debug_of : Option Seg → Bool
debug_of o = unwrap_or (option_map (λ (s : Seg). s.debug) o) false

abbrev LiesAt : ℕ → ℕ → Option Seg → Type 0
LiesAt offset len o = IsSomeAnd o (λ (s : Seg). (s.debug ≡ false) × (offset + len ≤ s.len))

lies : (offset len : ℕ) (o : Option Seg) (s : Seg) → o ≡ Some s → debug_of o ≡ false → offset + len ≤ len_of o → LiesAt offset len o
lies offset len None s e d fits = absurd cc
lies offset len (Some r) s e d fits = (d, fits)

lies_from : (segs : List Seg) (i offset len : ℕ) → FromOne (length segs) i → is_debug_seg segs i ≡ false → offset + len ≤ seg_len segs i → LiesAt offset len (item segs i)
lies_from segs zero offset len h d fits = absurd (omega (arith, h.0))
lies_from segs (suc i) offset len h d fits =
    let s = some_at segs i (omega (arith, h.1)) in
    lies offset len (item segs (suc i)) s.0 s.1 d fits

lies_fits : (offset len : ℕ) (o : Option Seg) → LiesAt offset len o → offset + len ≤ len_of o
lies_fits offset len None h = absurd h
lies_fits offset len (Some s) h = h.1

pub check_so : (b : Bool) (refusal : OmfRefusal) (u : Unit {0}) → check b refusal ≡ Ok u → b ≡ true
check_so true refusal u e = refl
check_so false refusal u e = absurd cc

pub judge_sound : (p : ObjParts) (at offset_at seg offset len : ℕ) (u : Unit {0}) →
    FromOne (length p.module.segs) seg → judge_data p at offset_at seg offset len ≡ Ok u → is_debug_seg p.module.segs seg ≡ false → GoodPlace p seg offset len
unfolding judge_data
judge_sound p at offset_at seg offset len u range e plain =
    elim (chosen (is_debug_seg p.module.segs seg) (Ok tt) (check (leb (offset + len) (seg_len p.module.segs seg)) (DataRange offset_at) >>= λ ok. check
    (leb (data_so_far p + len) MAX_DATA) (TooMany at) >>= λ ok'. check (not (list_any (touches seg offset len) p.module.fixes)) (DataOverFix offset_at)) (Ok u) e) [
      | inl h ↦ absurd cc
      | inr h ↦
          let a = checked_step (leb (offset + len) (seg_len p.module.segs seg)) _ _ u h.1 in
          let b = checked_step (leb (data_so_far p + len) MAX_DATA) _ _ u a.1 in
          let c = check_so (not (list_any (touches seg offset len) p.module.fixes)) _ u b.1 in
          record {
            range = lies_from p.module.segs seg offset len range plain (leb-true _ _ a.0);
            limit = leb-true _ _ b.0;
            on_no_fix = not-true _ c;
          }
    ]

pub judge_complete : (p : ObjParts) (at offset_at seg offset len : ℕ) → (is_debug_seg p.module.segs seg ≡ false → GoodPlace p seg offset len) → judge_data p at offset_at seg offset len ≡ Ok tt
unfolding judge_data
judge_complete p at offset_at seg offset len good =
    elim (bool_cases (is_debug_seg p.module.segs seg)) [
      | inl h ↦ rw h refl
      | inr h ↦
          let g = good h in
          rw (h, le-leb _ _ (lies_fits offset len (item p.module.segs seg) g.range), le-leb _ _ g.limit, g.on_no_fix) refl
    ]

pub ledata_sound : (p : ObjParts) (wide : Bool) (at : ℕ) (c : Cursor) (r : Record) → AreBytes c.left → ledata_at wide p at c ≡ Ok r → IsRead (pair 0xA0) p wide c r
unfolding ledata_at
ledata_sound p wide at c r bytes e =
    step _ _ _ (below_sound (length p.module.segs)) c _ r bytes e λ seg c1 t1 g1 b1 e1.
    step _ _ _ (number_sound (width wide)) c1 _ r b1 e1 λ offset c2 t2 f2 b2 e2.
    let a = bind_ok (judge_data p at c1.at seg offset (length c2.left)) _ r e2 in
    subst (λ (q : Record). IsRead (pair 0xA0) p wide c q) (ok_is (ledata seg offset c2.left) r a.2) (
      then_left _ _ c c1 t1 (then_left _ (λ bs. bs ≡ c2.left) c1 c2 t2 refl),
      record { segment = g1; index = index_small seg t1.front t1.so; place = judge_sound p at c1.at seg offset (length c2.left) a.0 g1 a.1 },
      refl,
    )

pub ledata_complete : (p : ObjParts) (wide : Bool) (at : ℕ) (c : Cursor) (seg offset : ℕ) (content : List ℕ) →
    contents_form wide (ledata seg offset content) c.left → GoodData p seg offset (length content) → ledata_at wide p at c ≡ Ok (ledata seg offset content)
unfolding ledata_at
ledata_complete p wide at c seg offset content so good =
    let s1 = left_splits _ _ c so in
    let s2 = left_splits _ _ s1.0 s1.2 in
    rw (below_complete (length p.module.segs) c seg s1.0 s1.1 good.segment, number_complete (width wide) s1.0 offset s2.0 s2.1 tt, s2.2, judge_complete p at s1.0.at seg offset (length content) good.place) refl

-- a length within the limit is counted as it is
counted : (blocks : Blocks) (n : ℕ) → n + counted_len blocks ≤ MAX_DATA → counted_len blocks ≡ expanded_len blocks
counted blocks n h = omega (arith, h)

counted_again : (blocks : Blocks) (n : ℕ) → n + expanded_len blocks ≤ MAX_DATA → counted_len blocks ≡ expanded_len blocks
counted_again blocks n h = omega (arith, h)

counted_place : (p : ObjParts) (seg offset : ℕ) (blocks : Blocks) → GoodPlace p seg offset (counted_len blocks) → GoodPlace p seg offset (expanded_len blocks)
counted_place p seg offset blocks g = subst (λ (n : ℕ). GoodPlace p seg offset n) (counted blocks (data_so_far p) g.limit) g

expanded_place : (p : ObjParts) (seg offset : ℕ) (blocks : Blocks) → GoodPlace p seg offset (expanded_len blocks) → GoodPlace p seg offset (counted_len blocks)
expanded_place p seg offset blocks g = subst (λ (n : ℕ). GoodPlace p seg offset n) (sym (counted_again blocks (data_so_far p) g.limit)) g

pub lidata_sound : (p : ObjParts) (wide : Bool) (at : ℕ) (c : Cursor) (r : Record) → AreBytes c.left → lidata_at wide p at c ≡ Ok r → IsRead (block_types wide) p wide c r
unfolding lidata_at
lidata_sound p wide at c r bytes e =
    step _ _ _ (below_sound (length p.module.segs)) c _ r bytes e λ seg c1 t1 g1 b1 e1.
    step _ _ _ (number_sound (width wide)) c1 _ r b1 e1 λ offset c2 t2 f2 b2 e2.
    let k = bind_ok (blocks_at wide c2) _ r e2 in
    let a = bind_ok (judge_data p at c1.at seg offset (counted_len k.0)) _ r k.2 in
    let s = blocks_sound wide c2 k.0 b2 k.1 in
    subst (λ (q : Record). IsRead (block_types wide) p wide c q) (ok_is (lidata wide seg offset k.0) r a.2) (
      then_left _ _ c c1 t1 (then_left _ (λ bs. bs ≡ block_bytes wide k.0) c1 c2 t2 s.0),
      (s.1, record { segment = g1; index = index_small seg t1.front t1.so; place = λ plain. counted_place p seg offset k.0 (judge_sound p at c1.at seg offset (counted_len k.0) a.0 g1 a.1 plain) }),
      refl,
    )

pub lidata_complete : (p : ObjParts) (wide : Bool) (at : ℕ) (c : Cursor) (seg offset : ℕ) (blocks : Blocks) →
    contents_form wide (lidata wide seg offset blocks) c.left → GoodAfter p (lidata wide seg offset blocks) → lidata_at wide p at c ≡ Ok (lidata wide seg offset blocks)
unfolding lidata_at
lidata_complete p wide at c seg offset blocks so good =
    let s1 = left_splits _ _ c so in
    let s2 = left_splits _ _ s1.0 s1.2 in
    rw (
      below_complete (length p.module.segs) c seg s1.0 s1.1 good.1.segment,
      number_complete (width wide) s1.0 offset s2.0 s2.1 tt,
      blocks_complete wide s2.0 blocks s2.2 good.0,
      judge_complete p at s1.0.at seg offset (counted_len blocks) (λ plain. expanded_place p seg offset blocks (good.1.place plain)),
    ) refl
