-- The records of names, segments and symbols: what is read is spelled so and good, and what is so is read.
use Rattle.std.proofs.Common.{◌≡◌, ℕ, ◌+◌, ◌*◌, ◌≤◌, Bool, true, false, cond, eqb, leb, List, [], ◌∷◌, length, Option, Some, None, Ok, Err, refl, ap, subst, ◌∙◌, arith, inl, inr, length-append}
use Rattle.std.specs.Prelude.{IfSome, not, bytes_eq, codes, ◌==◌}
use Rattle.std.specs.List.{AllByRecursion}
use Rattle.std.proofs.lemmas.Bool.{eqb-true, le-leb, leb-true, not-true}
use Rattle.lx_bytes.specs.Cursor.{Cursor}
use Rattle.lx_bytes.specs.LittleEndian.{AreBytes}
use Rattle.obj_types.specs.declared.limits.TheConstants.{MAX_DATA}
use Rattle.obj_types.specs.declared.refusal.OmfRefusal.TheVariants.{BadField}
use Rattle.obj_types.specs.declared.parts.ObjParts.{ObjParts}
use Rattle.obj_types.specs.Whole.{IsPlainSeg}
use Rattle.omf_fields.specs.Fields.{width, name_at, number_at, byte_at, index_below, list_at}
use Rattle.omf_fields.specs.Forms.{Form, ◌then◌, anything, each, byte, number, name, index, length_form}
use Rattle.omf_model.specs.Record.{Record, lnames, grpdef, segdef, SegDef, align_of, is_too_long, extdef, ExtDef, pubdef, PubDef, comdef, ComDef, Communal, far, near, are_attributes}
use Rattle.omf_model.specs.Items.{communal_of, name_with}
use Rattle.omf_model.specs.ReadNames.{lnames_at, segdef_at, ext_at, extdef_at, pub_at, pubdef_at, far_at, near_at, communal_at, com_at, comdef_at, plain_seg_at, member_at, grpdef_at}
use Rattle.omf_model.specs.Spelling.{pair, types_of, contents_form, ext_form, member_form, pub_form, com_form, communal_form}
use Rattle.omf_model.specs.Good.{GoodAfter, GoodSegDef, GoodPubDef}
use Rattle.omf_fields.proofs.SpanLaws.{Spans, then_spans, then_splits, then_left, left_splits, Sound, Complete, given, ok_is, bind_ok, step, checked_step}
use Rattle.omf_fields.proofs.FieldLaws.{Free, FromOne, chosen, name_sound, name_complete, number_sound, number_complete, byte_sound, byte_complete, or_zero_sound, or_zero_complete, below_sound, below_complete}
use Rattle.omf_fields.proofs.ListLaws.{OneByte, list_sound, list_complete, present_sound, present_complete}
use Rattle.omf_fields.proofs.LengthLaws.{length_sound, length_complete}
use Rattle.omf_fields.proofs.ItemLaws.{name-one}
use Rattle.omf_model.proofs.PlainLaws.{index_small, plain_sound, plain_complete, plain_index, or_zero_plain_sound, or_zero_plain_complete}

-- the bytes at a cursor spell a record that is good, of these types
abbrev pub IsRead : List (ℕ × Bool) → ObjParts → Bool → Cursor → Record → Type 0
IsRead types p wide c r = contents_form wide r c.left × GoodAfter p r × (types_of r ≡ types)

abbrev pub ext_types : Bool → List (ℕ × Bool)
ext_types local = cond local (pair 0xB4) ((0x8C, false) ∷ [])

abbrev pub pub_types : Bool → List (ℕ × Bool)
pub_types local = cond local (pair 0xB6) (pair 0x90)

pub all_free : {A : Type 0} (xs : List A) → AllByRecursion Free xs
all_free [] = tt
all_free (x ∷ xs) = (tt, all_free xs)

-- ---- items take bytes

pub then_one : (first second : Form) (bytes : List ℕ) → (first then second) bytes → ((front : List ℕ) → first front → 1 ≤ length front) → 1 ≤ length bytes
then_one first second bytes t one =
    let len : length bytes ≡ length t.front + length t.back = ap (λ (xs : List ℕ). length xs) t.joined ∙ length-append t.front t.back in
    omega (arith, len, one t.front t.first_so)

-- ---- LNAMES

pub lnames_sound : (p : ObjParts) (wide : Bool) (c : Cursor) (r : Record) → AreBytes c.left → lnames_at c ≡ Ok r → IsRead ((0x96, false) ∷ []) p wide c r
unfolding lnames_at
lnames_sound p wide c r bytes e =
    let a = bind_ok (list_at name_at c) _ r e in
    let l = list_sound name_at name Free name_sound name-one c a.0 bytes a.1 in
    subst (λ (q : Record). IsRead ((0x96, false) ∷ []) p wide c q) (ok_is (lnames a.0) r a.2) (l.0, tt, refl)

pub lnames_complete : (c : Cursor) (names : List (List ℕ)) → each name names c.left → lnames_at c ≡ Ok (lnames names)
unfolding lnames_at
lnames_complete c names so = rw (list_complete name_at name Free name_complete name-one c names so (all_free names)) refl

-- ---- SEGDEF

pub segdef_sound : (p : ObjParts) (wide : Bool) (c : Cursor) (r : Record) → AreBytes c.left → segdef_at wide p c ≡ Ok r → IsRead (pair 0x98) p wide c r
unfolding segdef_at
segdef_sound p wide c r bytes e =
    step byte_at byte Free byte_sound c _ r bytes e λ a c1 t1 free1 b1 e1.
    let k1 = checked_step (are_attributes a) _ _ r e1 in
    step _ _ _ (present_sound (align_of a == 0) (number_at 2) (number 2) Free (number_sound 2)) c1 _ r b1 k1.1 λ frame c2 t2 free2 b2 e2.
    step _ _ _ (present_sound (align_of a == 0) byte_at byte Free byte_sound) c2 _ r b2 e2 λ offset c3 t3 free3 b3 e3.
    step _ _ _ (number_sound (width wide)) c3 _ r b3 e3 λ len c4 t4 free4 b4 e4.
    let k2 = checked_step (not (is_too_long wide a len)) _ _ r e4 in
    step _ _ _ (below_sound (length p.names)) c4 _ r b4 k2.1 λ n c5 t5 g5 b5 e5.
    step _ _ _ (below_sound (length p.names)) c5 _ r b5 e5 λ class c6 t6 g6 b6 e6.
    step _ _ _ (or_zero_sound (length p.names)) c6 _ r b6 e6 λ overlay c7 t7 g7 b7 e7.
    subst (λ (q : Record). IsRead (pair 0x98) p wide c q) (ok_is _ r e7) (
      (not-true _ k2.0, then_left _ _ c c1 t1 (then_left _ _ c1 c2 t2 (then_left _ _ c2 c3 t3 (then_left _ _ c3 c4 t4 (then_left _ _ c4 c5 t5 (then_left _ _ c5 c6 t6 (then_left _ anything c6 c7 t7 tt))))))),
      record { attributes = k1.0; name = g5; class = g6; overlay = g7 },
      refl,
    )

pub free_option : {A : Type 0} (o : Option A) → IfSome o Free
free_option None = tt
free_option (Some x) = tt

pub segdef_complete : (p : ObjParts) (wide : Bool) (c : Cursor) (d : SegDef) → contents_form wide (segdef d) c.left → GoodSegDef p d → segdef_at wide p c ≡ Ok (segdef d)
unfolding segdef_at
segdef_complete p wide c d so good =
    let s1 = left_splits _ _ c so.1 in
    let s2 = left_splits _ _ s1.0 s1.2 in
    let s3 = left_splits _ _ s2.0 s2.2 in
    let s4 = left_splits _ _ s3.0 s3.2 in
    let s5 = left_splits _ _ s4.0 s4.2 in
    let s6 = left_splits _ _ s5.0 s5.2 in
    let s7 = left_splits _ _ s6.0 s6.2 in
    let frame = present_complete (align_of d.attributes == 0) (number_at 2) (number 2) Free (number_complete 2) s1.0 d.frame s2.0 s2.1 (free_option d.frame) in
    let offset = present_complete (align_of d.attributes == 0) byte_at byte Free byte_complete s2.0 d.offset s3.0 s3.1 (free_option d.offset) in
    rw (
      byte_complete c d.attributes s1.0 s1.1 tt,
      good.attributes,
      frame,
      offset,
      number_complete (width wide) s3.0 d.len s4.0 s4.1 tt,
      so.0,
      below_complete (length p.names) s4.0 d.name s5.0 s5.1 good.name,
      below_complete (length p.names) s5.0 d.class s6.0 s6.1 good.class,
      or_zero_complete (length p.names) s6.0 d.overlay s7.0 s7.1 good.overlay,
    ) refl

-- ---- EXTDEF

abbrev pub NoType : ExtDef → Type 0
NoType d = d.type ≡ 0

zero_of : (n : ℕ) → n ≤ 0 → n ≡ 0
zero_of n h = omega (arith, h)

pub ext_sound : Sound ext_at ext_form NoType
unfolding ext_at
ext_sound c x d bytes e =
    step _ _ _ name_sound c _ (x, d) bytes e λ n c1 t1 f1 b1 e1.
    step _ _ _ (or_zero_sound 0) c1 _ (x, d) b1 e1 λ ty c2 t2 g2 b2 e2.
    subst (λ (q : ExtDef × Cursor). Spans (ext_form q.0) c q.1 × NoType q.0) (ok_is _ (x, d) e2)
    (then_spans (name n) (index ty) c c1 c2 t1 t2, zero_of ty g2)

pub ext_complete : Complete ext_at ext_form NoType
unfolding ext_at
ext_complete c x d t ok =
    let s = then_splits (name x.name) (index x.type) c d t in
    rw (name_complete c x.name s.0 s.1 tt, or_zero_complete 0 s.0 x.type d s.2 (omega (arith, ok))) refl

pub ext_one : OneByte ext_form
ext_one d bytes h = then_one (name d.name) (index d.type) bytes h (name-one d.name)

pub extdef_sound : (p : ObjParts) (wide local : Bool) (c : Cursor) (r : Record) → AreBytes c.left → extdef_at local c ≡ Ok r → IsRead (ext_types local) p wide c r
unfolding extdef_at
extdef_sound p wide local c r bytes e =
    let a = bind_ok (list_at ext_at c) _ r e in
    let l = list_sound ext_at ext_form NoType ext_sound ext_one c a.0 bytes a.1 in
    subst (λ (q : Record). IsRead (ext_types local) p wide c q) (ok_is (extdef local a.0) r a.2) (l.0, l.1, refl)

pub extdef_complete : (local : Bool) (c : Cursor) (defs : List ExtDef) → each ext_form defs c.left → AllByRecursion NoType defs → extdef_at local c ≡ Ok (extdef local defs)
unfolding extdef_at
extdef_complete local c defs so good = rw (list_complete ext_at ext_form NoType ext_complete ext_one c defs so good) refl

-- ---- PUBDEF

abbrev pub NoPubType : PubDef → Type 0
NoPubType d = d.type ≡ 0

pub pub_sound : (wide : Bool) → Sound (pub_at wide) (pub_form wide) NoPubType
unfolding pub_at
pub_sound wide c x d bytes e =
    step _ _ _ name_sound c _ (x, d) bytes e λ n c1 t1 f1 b1 e1.
    step _ _ _ (number_sound (width wide)) c1 _ (x, d) b1 e1 λ offset c2 t2 f2 b2 e2.
    step _ _ _ (or_zero_sound 0) c2 _ (x, d) b2 e2 λ ty c3 t3 g3 b3 e3.
    subst (λ (q : PubDef × Cursor). Spans (pub_form wide q.0) c q.1 × NoPubType q.0) (ok_is _ (x, d) e3)
    (then_spans (name n) _ c c1 c3 t1 (then_spans (number (width wide) offset) (index ty) c1 c2 c3 t2 t3), zero_of ty g3)

pub pub_complete : (wide : Bool) → Complete (pub_at wide) (pub_form wide) NoPubType
unfolding pub_at
pub_complete wide c x d t ok =
    let s1 = then_splits (name x.name) _ c d t in
    let s2 = then_splits (number (width wide) x.offset) (index x.type) s1.0 d s1.2 in
    rw (name_complete c x.name s1.0 s1.1 tt, number_complete (width wide) s1.0 x.offset s2.0 s2.1 tt, or_zero_complete 0 s2.0 x.type d s2.2 (omega (arith, ok))) refl

pub pub_one : (wide : Bool) → OneByte (pub_form wide)
pub_one wide d bytes h = then_one (name d.name) _ bytes h (name-one d.name)

pub pubdef_sound : (p : ObjParts) (wide local : Bool) (c : Cursor) (r : Record) → AreBytes c.left → pubdef_at local wide p c ≡ Ok r → IsRead (pub_types local) p wide c r
unfolding pubdef_at
pubdef_sound p wide local c r bytes e =
    step _ _ _ (or_zero_sound (length p.module.groups)) c _ r bytes e λ group c1 t1 g1 b1 e1.
    step _ _ _ (or_zero_plain_sound p) c1 _ r b1 e1 λ segment c2 t2 g2 b2 e2.
    step _ _ _ (present_sound (segment == 0) (number_at 2) (number 2) Free (number_sound 2)) c2 _ r b2 e2 λ frame c3 t3 f3 b3 e3.
    let a = bind_ok (list_at (pub_at wide) c3) _ r e3 in
    let l = list_sound (pub_at wide) (pub_form wide) NoPubType (pub_sound wide) (pub_one wide) c3 a.0 b3 a.1 in
    subst (λ (q : Record). IsRead (pub_types local) p wide c q) (ok_is (pubdef local group segment frame a.0) r a.2)
    (then_left _ _ c c1 t1 (then_left _ _ c1 c2 t2 (then_left _ _ c2 c3 t3 l.0)), record { in_group = g1; in_segment = g2; index = index_small segment t2.front t2.so; types = l.1 }, refl)

pub pubdef_complete : (p : ObjParts) (wide local : Bool) (c : Cursor) (group segment : ℕ) (frame : Option ℕ) (defs : List PubDef) →
    contents_form wide (pubdef local group segment frame defs) c.left → GoodPubDef p group segment defs → pubdef_at local wide p c ≡ Ok (pubdef local group segment frame defs)
unfolding pubdef_at
pubdef_complete p wide local c group segment frame defs so good =
    let s1 = left_splits _ _ c so in
    let s2 = left_splits _ _ s1.0 s1.2 in
    let s3 = left_splits _ _ s2.0 s2.2 in
    let f = present_complete (segment == 0) (number_at 2) (number 2) Free (number_complete 2) s2.0 frame s3.0 s3.1 (free_option frame) in
    let l = list_complete (pub_at wide) (pub_form wide) NoPubType (pub_complete wide) (pub_one wide) s3.0 defs s3.2 good.types in
    rw (or_zero_complete (length p.module.groups) c group s1.0 s1.1 good.in_group, or_zero_plain_complete p s1.0 segment s2.0 s2.1 good.in_segment, f, l) refl

-- ---- GRPDEF

abbrev pub MemberIn : ObjParts → Bool → ℕ → Type 0
MemberIn p flat i = FromOne (length p.module.segs) i × (flat ≡ false → IsPlainSeg p.module i)

member_index : (p : ObjParts) (flat : Bool) → Sound (λ c. cond flat (index_below (length p.module.segs) c) (plain_seg_at p c)) index (MemberIn p flat)
member_index p true c x d bytes e = let s = below_sound (length p.module.segs) c x d bytes e in (s.0, (s.1, λ no. absurd cc))
member_index p false c x d bytes e = let s = plain_sound p c x d bytes e in (s.0, (plain_index p.module.segs x s.1, λ same. s.1))

member_index_again : (p : ObjParts) (flat : Bool) → Complete (λ c. cond flat (index_below (length p.module.segs) c) (plain_seg_at p c)) index (MemberIn p flat)
member_index_again p true c x d t ok = below_complete (length p.module.segs) c x d t ok.0
member_index_again p false c x d t ok = plain_complete p c x d t (ok.1 refl)

pub member_sound : (p : ObjParts) (flat : Bool) → Sound (member_at flat p) member_form (MemberIn p flat)
unfolding member_at
member_sound p flat c x d bytes e =
    step _ _ _ byte_sound c _ (x, d) bytes e λ mark c1 t1 f1 b1 e1.
    let k = checked_step (mark == 255) _ _ (x, d) e1 in
    let s = member_index p flat c1 x d b1 k.1 in
    (then_spans (byte 255) (index x) c c1 d (subst (λ (m : ℕ). Spans (byte m) c c1) (eqb-true mark 255 k.0) t1) s.0, s.1)

pub member_complete : (p : ObjParts) (flat : Bool) → Complete (member_at flat p) member_form (MemberIn p flat)
unfolding member_at
member_complete p flat c x d t ok =
    let s = then_splits (byte 255) (index x) c d t in
    rw (byte_complete c 255 s.0 s.1 tt) (member_index_again p flat s.0 x d s.2 ok)

pub member_one : OneByte member_form
member_one i bytes h = then_one (byte 255) (index i) bytes h (λ front f. let len : length front ≡ 1 = ap (λ (xs : List ℕ). length xs) f.1 in omega (arith, len))

abbrev flat_name : ObjParts → ℕ → Bool
flat_name p name = bytes_eq (name_with p.names name) (codes "FLAT")

pub grpdef_sound : (p : ObjParts) (wide : Bool) (c : Cursor) (r : Record) → AreBytes c.left → grpdef_at p c ≡ Ok r → IsRead ((0x9A, false) ∷ []) p wide c r
unfolding grpdef_at
grpdef_sound p wide c r bytes e =
    step _ _ _ (below_sound (length p.names)) c _ r bytes e λ n c1 t1 g1 b1 e1.
    let a = bind_ok (list_at (member_at (flat_name p n) p) c1) _ r e1 in
    let l = list_sound _ _ _ (member_sound p (flat_name p n)) member_one c1 a.0 b1 a.1 in
    subst (λ (q : Record). IsRead ((0x9A, false) ∷ []) p wide c q) (ok_is (grpdef n a.0) r a.2) (then_left _ _ c c1 t1 l.0, (g1, l.1), refl)

pub grpdef_complete : (p : ObjParts) (wide : Bool) (c : Cursor) (n : ℕ) (members : List ℕ) → contents_form wide (grpdef n members) c.left → GoodAfter p (grpdef n members) → grpdef_at p c ≡ Ok (grpdef n members)
unfolding grpdef_at
grpdef_complete p wide c n members so good =
    let s1 = left_splits _ _ c so in
    let l = list_complete _ _ _ (member_complete p (flat_name p n)) member_one s1.0 members s1.2 good.1 in
    rw (below_complete (length p.names) c n s1.0 s1.1 good.0, l) refl

-- ---- COMDEF

abbrev pub GoodCommunal : Communal → Type 0
GoodCommunal k = (communal_of k).len ≤ MAX_DATA

far_sound : (c : Cursor) (k : Communal) (d : Cursor) → AreBytes c.left →
    far_at c ≡ Ok (k, d) → (count : ℕ) × (size : ℕ) × (far count size ≡ k) × Spans (length_form count then length_form size) c d × (count * size ≤ MAX_DATA)
unfolding far_at
far_sound c k d bytes e =
    step _ _ _ length_sound c _ (k, d) bytes e λ count c1 t1 f1 b1 e1.
    step _ _ _ length_sound c1 _ (k, d) b1 e1 λ size c2 t2 f2 b2 e2.
    let h = checked_step (leb (count * size) MAX_DATA) _ _ (k, d) e2 in
    let same = ok_is _ (k, d) h.1 in
    (count, size, ap (λ (q : Communal × Cursor). q.0) same, then_spans _ _ c c1 d t1 (subst (λ (q : Cursor). Spans (length_form size) c1 q) (ap (λ (q : Communal × Cursor). q.1) same) t2), leb-true _ _ h.0)

near_sound : (c : Cursor) (k : Communal) (d : Cursor) → AreBytes c.left → near_at c ≡ Ok (k, d) → (size : ℕ) × (near size ≡ k) × Spans (length_form size) c d × (size ≤ MAX_DATA)
unfolding near_at
near_sound c k d bytes e =
    step _ _ _ length_sound c _ (k, d) bytes e λ size c1 t1 f1 b1 e1.
    let h = checked_step (leb size MAX_DATA) _ _ (k, d) e1 in
    let same = ok_is _ (k, d) h.1 in
    (size, ap (λ (q : Communal × Cursor). q.0) same, subst (λ (q : Cursor). Spans (length_form size) c q) (ap (λ (q : Communal × Cursor). q.1) same) t1, leb-true _ _ h.0)

pub communal_sound : Sound communal_at communal_form GoodCommunal
unfolding communal_at
communal_sound c k d bytes e =
    step _ _ _ byte_sound c _ (k, d) bytes e λ kind c1 t1 f1 b1 e1.
    elim (chosen (eqb kind 0x61) (far_at c1) (cond (eqb kind 0x62) (near_at c1) (Err (BadField c.at))) (given k d) e1) [
      | inl h ↦
          let s = far_sound c1 k d b1 h.1 in
          let front = subst (λ (m : ℕ). Spans (byte m) c c1) (eqb-true kind 0x61 h.0) t1 in
          subst (λ (q : Communal). Spans (communal_form q) c d × GoodCommunal q) s.2 (then_spans (byte 0x61) _ c c1 d front s.3, s.4)
      | inr h ↦ elim (chosen (eqb kind 0x62) (near_at c1) (Err (BadField c.at)) (given k d) h.1) [
        | inl l ↦
            let s = near_sound c1 k d b1 l.1 in
            let front = subst (λ (m : ℕ). Spans (byte m) c c1) (eqb-true kind 0x62 l.0) t1 in
            subst (λ (q : Communal). Spans (communal_form q) c d × GoodCommunal q) s.1 (then_spans (byte 0x62) _ c c1 d front s.2, s.3)
        | inr l ↦ absurd cc
      ]
    ]

pub communal_complete : Complete communal_at communal_form GoodCommunal
unfolding communal_at far_at near_at
communal_complete c (far count size) d t ok =
    let s1 = then_splits (byte 0x61) _ c d t in
    let s2 = then_splits (length_form count) (length_form size) s1.0 d s1.2 in
    rw (byte_complete c 0x61 s1.0 s1.1 tt, length_complete s1.0 count s2.0 s2.1 tt, length_complete s2.0 size d s2.2 tt, le-leb (count * size) MAX_DATA ok) refl
communal_complete c (near size) d t ok =
    let s1 = then_splits (byte 0x62) (length_form size) c d t in
    rw (byte_complete c 0x62 s1.0 s1.1 tt, length_complete s1.0 size d s1.2 tt, le-leb size MAX_DATA ok) refl

abbrev pub GoodCom : ComDef → Type 0
GoodCom d = (d.type ≡ 0) × GoodCommunal d.communal

pub com_sound : Sound com_at com_form GoodCom
unfolding com_at
com_sound c x d bytes e =
    step _ _ _ name_sound c _ (x, d) bytes e λ n c1 t1 f1 b1 e1.
    step _ _ _ (or_zero_sound 0) c1 _ (x, d) b1 e1 λ ty c2 t2 g2 b2 e2.
    step _ _ _ communal_sound c2 _ (x, d) b2 e2 λ k c3 t3 g3 b3 e3.
    subst (λ (q : ComDef × Cursor). Spans (com_form q.0) c q.1 × GoodCom q.0) (ok_is _ (x, d) e3)
    (then_spans (name n) _ c c1 c3 t1 (then_spans (index ty) (communal_form k) c1 c2 c3 t2 t3), (zero_of ty g2, g3))

pub com_complete : Complete com_at com_form GoodCom
unfolding com_at
com_complete c x d t ok =
    let s1 = then_splits (name x.name) _ c d t in
    let s2 = then_splits (index x.type) (communal_form x.communal) s1.0 d s1.2 in
    rw (name_complete c x.name s1.0 s1.1 tt, or_zero_complete 0 s1.0 x.type s2.0 s2.1 (omega (arith, ok.0)), communal_complete s2.0 x.communal d s2.2 ok.1) refl

pub com_one : OneByte com_form
com_one d bytes h = then_one (name d.name) _ bytes h (name-one d.name)

pub comdef_sound : (p : ObjParts) (wide : Bool) (c : Cursor) (r : Record) → AreBytes c.left → comdef_at c ≡ Ok r → IsRead ((0xB0, false) ∷ []) p wide c r
unfolding comdef_at
comdef_sound p wide c r bytes e =
    let a = bind_ok (list_at com_at c) _ r e in
    let l = list_sound com_at com_form GoodCom com_sound com_one c a.0 bytes a.1 in
    subst (λ (q : Record). IsRead ((0xB0, false) ∷ []) p wide c q) (ok_is (comdef a.0) r a.2) (l.0, l.1, refl)

pub comdef_complete : (c : Cursor) (defs : List ComDef) → each com_form defs c.left → AllByRecursion GoodCom defs → comdef_at c ≡ Ok (comdef defs)
unfolding comdef_at
comdef_complete c defs so good = rw (list_complete com_at com_form GoodCom com_complete com_one c defs so good) refl
