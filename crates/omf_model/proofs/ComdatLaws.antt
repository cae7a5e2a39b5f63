-- The record of a COMDAT: what is read is spelled so and good, and what is so is read. "C2h COMDAT".
use Rattle.std.proofs.Common.{◌≡◌, ℕ, ◌+◌, ◌≤◌, Bool, true, false, eqb, leb, List, length, Option, Some, None, Ok, refl, subst, arith}
use Rattle.std.specs.Prelude.{not, is_some}
use Rattle.std.specs.List.{list_any}
use Rattle.std.proofs.lemmas.Bool.{leb-true, le-leb, ne_eqb, not-true}
use Rattle.lx_bytes.specs.Cursor.{Cursor}
use Rattle.lx_bytes.specs.LittleEndian.{AreBytes}
use Rattle.obj_types.specs.declared.limits.TheConstants.{MAX_DATA}
use Rattle.obj_types.specs.declared.parts.ObjParts.{ObjParts}
use Rattle.obj_types.specs.Whole.{IsPlainSeg}
use Rattle.omf_fields.specs.Fields.{width, index_at}
use Rattle.omf_fields.specs.Forms.{Form, index, present}
use Rattle.omf_model.specs.Comdat.{Base, ComDat, are_flags, is_selected, has_base, end_of}
use Rattle.omf_model.specs.Record.{Record, comdat}
use Rattle.omf_model.specs.Items.{data_so_far}
use Rattle.omf_model.specs.Fixups.{touches}
use Rattle.omf_model.specs.ReadNames.{checked_plain, plain_seg_at}
use Rattle.omf_model.specs.ReadComdat.{base_segment_at, base_at, comdat_fields_at, is_in_turn, number_so_far, offset_place, judge_comdat, comdat_at}
use Rattle.omf_model.specs.Spelling.{pair, base_form, comdat_form, contents_form}
use Rattle.omf_model.specs.Good.{GoodBase, GoodComdatFields, GoodComdat}
use Rattle.omf_fields.proofs.SpanLaws.{Spans, then_spans, then_splits, then_left, left_splits, Sound, Complete, ok_is, bind_ok, step, checked_step}
use Rattle.omf_fields.proofs.FieldLaws.{is_among_index, byte_sound, byte_complete, number_sound, number_complete, index_complete, or_zero_sound, or_zero_complete, below_sound, below_complete}
use Rattle.omf_fields.proofs.ListLaws.{present_sound, present_complete}
use Rattle.omf_model.proofs.PlainLaws.{plain_index, plain_not_debug, plain_sound}
use Rattle.omf_model.proofs.DataLaws.{check_so}
use Rattle.omf_model.proofs.NameLaws.{IsRead}

-- ---- the base

plain_read : (p : ObjParts) (c : Cursor) (i y : ℕ × Cursor) → index_at c ≡ Ok i → checked_plain false p c.at i ≡ Ok y → plain_seg_at p c ≡ Ok y
unfolding plain_seg_at
plain_read p c i y there e = rw there e

base_segment_sound : (p : ObjParts) → Sound (base_segment_at p) index (IsPlainSeg p.module)
unfolding base_segment_at
base_segment_sound p c x d bytes e =
    let a = bind_ok (index_at c) _ (x, d) e in
    let k = checked_step (not (eqb a.0.0 0)) _ _ (x, d) a.2 in
    plain_sound p c x d bytes (plain_read p c a.0 (x, d) a.1 k.1)

base_segment_complete : (p : ObjParts) → Complete (base_segment_at p) index (IsPlainSeg p.module)
unfolding base_segment_at
base_segment_complete p c x d t ok =
    let range = plain_index p.module.segs x ok in
    rw (index_complete c x d t tt, is_among_index _ x range.0 range.1, ne_eqb x 0 (λ none. omega (arith, none, range.0)), plain_not_debug p.module.segs x ok) refl

pub base_sound : (p : ObjParts) → Sound (base_at p) base_form (GoodBase p)
unfolding base_at
base_sound p c x d bytes e =
    step _ _ _ (or_zero_sound (length p.module.groups)) c _ (x, d) bytes e λ group c1 t1 g1 b1 e1.
    step _ _ _ (base_segment_sound p) c1 _ (x, d) b1 e1 λ segment c2 t2 g2 b2 e2.
    subst (λ (q : Base × Cursor). Spans (base_form q.0) c q.1 × GoodBase p q.0) (ok_is _ (x, d) e2)
    (then_spans (index group) (index segment) c c1 c2 t1 t2, record { in_group = g1; in_segment = g2 })

pub base_complete : (p : ObjParts) → Complete (base_at p) base_form (GoodBase p)
unfolding base_at
base_complete p c x d t ok =
    let s = then_splits (index x.group) (index x.segment) c d t in
    rw (or_zero_complete (length p.module.groups) c x.group s.0 s.1 ok.in_group, base_segment_complete p s.0 x.segment d s.2 ok.in_segment) refl

-- ---- the fields

present_there : {A : Type 0} (b : Bool) (form : A → Form) (o : Option A) (bytes : List ℕ) → present b form o bytes → is_some o ≡ b
present_there true form (Some x) bytes so = refl
present_there true form None bytes so = absurd so
present_there false form (Some x) bytes so = absurd so
present_there false form None bytes so = refl

zero_of : (n : ℕ) → n ≤ 0 → n ≡ 0
zero_of n h = omega (arith, h)

fields_sound : (p : ObjParts) (wide : Bool) (c : Cursor) (d : ComDat) → AreBytes c.left → comdat_fields_at wide p c ≡ Ok d → comdat_form wide d c.left × GoodComdatFields p d
unfolding comdat_fields_at
fields_sound p wide c d bytes e =
    step _ _ _ byte_sound c _ d bytes e λ flags c1 t1 f1 b1 e1.
    let k1 = checked_step (are_flags flags) _ _ d e1 in
    step _ _ _ byte_sound c1 _ d b1 k1.1 λ attributes c2 t2 f2 b2 e2.
    let k2 = checked_step (is_selected attributes) _ _ d e2 in
    step _ _ _ byte_sound c2 _ d b2 k2.1 λ align c3 t3 f3 b3 e3.
    let k3 = checked_step (leb align 5) _ _ d e3 in
    step _ _ _ (number_sound (width wide)) c3 _ d b3 k3.1 λ offset c4 t4 f4 b4 e4.
    step _ _ _ (or_zero_sound 0) c4 _ d b4 e4 λ ty c5 t5 g5 b5 e5.
    step _ _ _ (present_sound (has_base attributes) (base_at p) base_form (GoodBase p) (base_sound p)) c5 _ d b5 e5 λ base c6 t6 g6 b6 e6.
    step _ _ _ (below_sound (length p.names)) c6 _ d b6 e6 λ n c7 t7 g7 b7 e7.
    subst (λ (q : ComDat). comdat_form wide q c.left × GoodComdatFields p q) (ok_is _ d e7) (
      then_left _ _ c c1 t1 (then_left _ _ c1 c2 t2 (then_left _ _ c2 c3 t3 (then_left _ _ c3 c4 t4 (then_left _ _ c4 c5 t5 (then_left _ _ c5 c6 t6 (then_left _ (λ bs. bs ≡ c7.left) c6 c7 t7 refl)))))),
      record {
        flags = k1.0;
        attributes = k2.0;
        align = leb-true _ _ k3.0;
        type = zero_of ty g5;
        base_there = present_there (has_base attributes) base_form base t6.front t6.so;
        base = g6;
        name = g7;
      },
    )

fields_complete : (p : ObjParts) (wide : Bool) (c : Cursor) (d : ComDat) → comdat_form wide d c.left → GoodComdatFields p d → comdat_fields_at wide p c ≡ Ok d
unfolding comdat_fields_at
fields_complete p wide c d so good =
    let s1 = left_splits _ _ c so in
    let s2 = left_splits _ _ s1.0 s1.2 in
    let s3 = left_splits _ _ s2.0 s2.2 in
    let s4 = left_splits _ _ s3.0 s3.2 in
    let s5 = left_splits _ _ s4.0 s4.2 in
    let s6 = left_splits _ _ s5.0 s5.2 in
    let s7 = left_splits _ _ s6.0 s6.2 in
    rw (
      byte_complete c d.flags s1.0 s1.1 tt,
      good.flags,
      byte_complete s1.0 d.attributes s2.0 s2.1 tt,
      good.attributes,
      byte_complete s2.0 d.align s3.0 s3.1 tt,
      le-leb d.align 5 good.align,
      number_complete (width wide) s3.0 d.offset s4.0 s4.1 tt,
      or_zero_complete 0 s4.0 d.type s5.0 s5.1 (omega (arith, good.type)),
      present_complete (has_base d.attributes) (base_at p) base_form (GoodBase p) (base_complete p) s5.0 d.base s6.0 s6.1 good.base,
      below_complete (length p.names) s6.0 d.name s7.0 s7.1 good.name,
      s7.2,
    ) refl

-- ---- the whole

judge_sound : (p : ObjParts) (at offset_at : ℕ) (d : ComDat) (u : Unit {0}) → GoodComdatFields p d → judge_comdat p at offset_at d ≡ Ok u → GoodComdat p d
unfolding judge_comdat
judge_sound p at offset_at d u fields e =
    let turn = checked_step (is_in_turn p d) _ _ u e in
    let range = checked_step (leb (end_of d) MAX_DATA) _ _ u turn.1 in
    let limit = checked_step (leb (data_so_far p + length d.content) MAX_DATA) _ _ u range.1 in
    let apart = check_so (not (list_any (touches (number_so_far p d) d.offset (length d.content)) p.module.fixes)) _ u limit.1 in
    record { fields = fields; turn = turn.0; range = leb-true _ _ range.0; limit = leb-true _ _ limit.0; on_no_fix = not-true _ apart }

judge_complete : (p : ObjParts) (at offset_at : ℕ) (d : ComDat) → GoodComdat p d → judge_comdat p at offset_at d ≡ Ok tt
unfolding judge_comdat
judge_complete p at offset_at d good = rw (good.turn, le-leb _ _ good.range, le-leb _ _ good.limit, good.on_no_fix) refl

pub comdat_sound : (p : ObjParts) (wide : Bool) (at : ℕ) (c : Cursor) (r : Record) → AreBytes c.left → comdat_at wide p at c ≡ Ok r → IsRead (pair 0xC2) p wide c r
unfolding comdat_at
comdat_sound p wide at c r bytes e =
    let a = bind_ok (comdat_fields_at wide p c) _ r e in
    let b = bind_ok (judge_comdat p at (offset_place c) a.0) _ r a.2 in
    let s = fields_sound p wide c a.0 bytes a.1 in
    subst (λ (q : Record). IsRead (pair 0xC2) p wide c q) (ok_is (comdat a.0) r b.2) (s.0, judge_sound p at (offset_place c) a.0 b.0 s.1 b.1, refl)

pub comdat_complete : (p : ObjParts) (wide : Bool) (at : ℕ) (c : Cursor) (d : ComDat) → contents_form wide (comdat d) c.left → GoodComdat p d → comdat_at wide p at c ≡ Ok (comdat d)
unfolding comdat_at
comdat_complete p wide at c d so good = rw (fields_complete p wide c d so good.fields, judge_complete p at (offset_place c) d good) refl
