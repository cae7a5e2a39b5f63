-- The records of names, segments, groups and symbols fail exactly so.
use Rattle.std.proofs.Common.{◌≡◌, ℕ, ◌*◌, ◌≤◌, Bool, true, false, cond, leb, eqb, length, Err, refl, sym, ap, ◌∙◌, arith, inl, inr}
use Rattle.std.specs.Prelude.{◌⊎◌, ◌↔◌, not, ◌==◌}
use Rattle.std.proofs.lemmas.Bool.{leb-true, le-leb, eqb-true, eqb-false, eq-eqb, ne_eqb, cases_Bool}
use Rattle.lx_bytes.specs.Cursor.{Cursor}
use Rattle.lx_bytes.specs.LittleEndian.{AreBytes}
use Rattle.obj_types.specs.declared.limits.TheConstants.{MAX_DATA}
use Rattle.obj_types.specs.declared.refusal.OmfRefusal.{OmfRefusal}
use Rattle.obj_types.specs.declared.refusal.OmfRefusal.TheVariants.{BadField}
use Rattle.obj_types.specs.declared.parts.ObjParts.{ObjParts}
use Rattle.omf_fields.specs.Fields.{Reading, width, byte_at, number_at, name_at, index_below}
use Rattle.omf_fields.specs.Forms.{name}
use Rattle.omf_fields.proofs.ItemLaws.{name-one}
use Rattle.omf_model.specs.Record.{lnames, segdef, align_of, is_too_long, are_attributes, grpdef, extdef, ExtDef, pubdef, PubDef, comdef, ComDef, Communal, far, near}
use Rattle.omf_model.specs.ReadNames.{lnames_at, segdef_at, member_at, grpdef_at, plain_seg_at, ext_at, extdef_at, pub_at, pubdef_at, far_at, near_at, communal_at, com_at, comdef_at}
use Rattle.omf_model.proofs.PlainLaws.{plain_index}
use Rattle.omf_model.proofs.NameLaws.{MemberIn, ext_sound, ext_complete, pub_sound, pub_complete, member_sound, member_complete, communal_sound, communal_complete, com_sound, com_complete, ext_one, pub_one, member_one, com_one}
use Rattle.omf_faults.specs.Parts.{ConditionThen}
use Rattle.omf_faults.specs.FieldParts.{a_byte, a_number, a_name}
use Rattle.omf_faults.specs.NameRecords.{WrongLnames, WrongSegdef, segment_of, member, is_flat, WrongGrpdef, symbol, WrongPubdef, external, WrongExtdef, WrongFar, WrongNear, communal, common_symbol, WrongComdef}
use Rattle.omf_faults.specs.Laws.{FailsAs}
use Rattle.omf_faults.proofs.Told.{Judges, refused, part_tells, last_tells, condition_tells, breaks_then, itself, only_judges}
use Rattle.omf_faults.proofs.FieldTold.{byte_judges, number_judges, name_judges, below_judges, or_none_judges}
use Rattle.omf_faults.proofs.LengthTold.{length_judges}
use Rattle.omf_faults.proofs.PlainTold.{plain_judges, plain_or_none_judges}
use Rattle.omf_faults.proofs.ListTold.{items_tell}

-- ---- tests

pub is_not : (b : Bool) → (not b ≡ true) ↔ (b ≡ false)
is_not true = (λ h. absurd cc, λ h. absurd cc)
is_not false = (λ h. refl, λ h. refl)

pub is_equal : (m n : ℕ) → (eqb m n ≡ true) ↔ (m ≡ n)
is_equal m n = (λ h. eqb-true m n h, λ h. eq-eqb m n h)

pub is_at_most : (m n : ℕ) → (leb m n ≡ true) ↔ (m ≤ n)
is_at_most m n = (λ h. leb-true m n h, λ h. le-leb m n h)

-- ---- LNAMES

pub lnames_told : FailsAs lnames_at WrongLnames
unfolding lnames_at
lnames_told c e bytes = items_tell name_at a_name name_judges name-one c (λ names. lnames names) e bytes

-- ---- SEGDEF

pub segdef_told : (wide : Bool) (p : ObjParts) → FailsAs (segdef_at wide p) (WrongSegdef wide p)
unfolding segdef_at
segdef_told wide p c e bytes =
    part_tells byte_at _ byte_judges c _ e _ bytes λ a c1 b1.
    condition_tells (are_attributes a) _ (itself (are_attributes a) true) (BadField c.at) _ e _ λ ok.
    part_tells _ _ (only_judges (align_of a == 0) (number_at 2) (a_number 2) (number_judges 2)) c1 _ e _ b1 λ frame c2 b2.
    part_tells _ _ (only_judges (align_of a == 0) byte_at a_byte byte_judges) c2 _ e _ b2 λ offset c3 b3.
    part_tells _ _ (number_judges (width wide)) c3 _ e _ b3 λ len c4 b4.
    condition_tells (not (is_too_long wide a len)) _ (is_not (is_too_long wide a len)) (BadField c.at) _ e _ λ short.
    part_tells _ _ (below_judges (length p.names)) c4 _ e _ b4 λ n c5 b5.
    part_tells _ _ (below_judges (length p.names)) c5 _ e _ b5 λ class c6 b6.
    last_tells _ _ (or_none_judges (length p.names)) c6 (λ overlay. segdef (record { attributes = a; frame = frame; offset = offset; len = len; name = n; class = class; overlay = overlay.0 })) e b6

-- ---- EXTDEF

ext_tells : (c : Cursor) (e : OmfRefusal) → AreBytes c.left → (ext_at c ≡ Err e) ↔ external.wrong c e
unfolding ext_at
ext_tells c e bytes =
    part_tells name_at _ name_judges c _ e _ bytes λ n d b.
    last_tells _ _ (or_none_judges 0) d (λ type. ((let x : ExtDef = record { name = n; type = type.0 } in x), type.1)) e b

ext_judges : Judges ext_at external
ext_judges = record { sound = ext_sound; complete = ext_complete; tells = ext_tells }

pub extdef_told : (local : Bool) → FailsAs (extdef_at local) WrongExtdef
unfolding extdef_at
extdef_told local c e bytes = items_tell ext_at external ext_judges ext_one c (λ defs. extdef local defs) e bytes

-- ---- PUBDEF

pub_tells : (wide : Bool) → (c : Cursor) (e : OmfRefusal) → AreBytes c.left → (pub_at wide c ≡ Err e) ↔ (symbol wide).wrong c e
unfolding pub_at
pub_tells wide c e bytes =
    part_tells name_at _ name_judges c _ e _ bytes λ n c1 b1.
    part_tells _ _ (number_judges (width wide)) c1 _ e _ b1 λ offset c2 b2.
    last_tells _ _ (or_none_judges 0) c2 (λ type. ((let x : PubDef = record { name = n; offset = offset; type = type.0 } in x), type.1)) e b2

pub_judges : (wide : Bool) → Judges (pub_at wide) (symbol wide)
pub_judges wide = record { sound = pub_sound wide; complete = pub_complete wide; tells = pub_tells wide }

pub pubdef_told : (local wide : Bool) (p : ObjParts) → FailsAs (pubdef_at local wide p) (WrongPubdef wide p)
unfolding pubdef_at
pubdef_told local wide p c e bytes =
    part_tells _ _ (or_none_judges (length p.module.groups)) c _ e _ bytes λ group c1 b1.
    part_tells _ _ (plain_or_none_judges p) c1 _ e _ b1 λ segment c2 b2.
    part_tells _ _ (only_judges (segment == 0) (number_at 2) (a_number 2) (number_judges 2)) c2 _ e _ b2 λ frame c3 b3.
    items_tell (pub_at wide) (symbol wide) (pub_judges wide) (pub_one wide) c3 (λ defs. pubdef local group segment frame defs) e b3

-- ---- GRPDEF

member_so : (p : ObjParts) (flat : Bool) (i : ℕ) → MemberIn p flat i → (segment_of flat p).good i
member_so p true i h = h.0
member_so p false i h = h.1 refl

so_member : (p : ObjParts) (flat : Bool) (i : ℕ) → (segment_of flat p).good i → MemberIn p flat i
so_member p true i h = (h, λ no_. absurd cc)
so_member p false i h = (plain_index p.module.segs i h, λ same. h)

segment_tells : (flat : Bool) (p : ObjParts) (c : Cursor) (e : OmfRefusal) → AreBytes c.left → (cond flat (index_below (length p.module.segs) c) (plain_seg_at p c) ≡ Err e) ↔ (segment_of flat p).wrong c e
segment_tells true p c e bytes = (below_judges (length p.module.segs)).tells c e bytes
segment_tells false p c e bytes = (plain_judges p).tells c e bytes

member_tells : (p : ObjParts) (flat : Bool) → (c : Cursor) (e : OmfRefusal) → AreBytes c.left → (member_at flat p c ≡ Err e) ↔ (member flat p).wrong c e
unfolding member_at
member_tells p flat c e bytes =
    part_tells byte_at _ byte_judges c _ e _ bytes λ mark d b.
    condition_tells (eqb mark 255) _ (is_equal mark 255) (BadField c.at) _ e _ λ ok.
    segment_tells flat p d e b

member_judges : (p : ObjParts) (flat : Bool) → Judges (member_at flat p) (member flat p)
member_judges p flat = record {
  sound = λ c x d bytes is. let s = member_sound p flat c x d bytes is in (s.0, member_so p flat x s.1);
  complete = λ c x d t ok. member_complete p flat c x d t (so_member p flat x ok);
  tells = member_tells p flat;
}

pub grpdef_told : (p : ObjParts) → FailsAs (grpdef_at p) (WrongGrpdef p)
unfolding grpdef_at
grpdef_told p c e bytes =
    part_tells _ _ (below_judges (length p.names)) c _ e _ bytes λ n d b.
    items_tell (member_at (is_flat p n) p) (member (is_flat p n) p) (member_judges p (is_flat p n)) member_one d (λ members. grpdef n members) e b

-- ---- COMDEF

far_tells : (c : Cursor) (e : OmfRefusal) → AreBytes c.left → (far_at c ≡ Err e) ↔ WrongFar c e
unfolding far_at
far_tells c e bytes =
    part_tells _ _ length_judges c _ e _ bytes λ count d b.
    part_tells _ _ length_judges d _ e _ b λ size f b2.
    breaks_then (leb (count * size) MAX_DATA) _ (is_at_most (count * size) MAX_DATA) (BadField c.at) (far count size, f) e

near_tells : (c : Cursor) (e : OmfRefusal) → AreBytes c.left → (near_at c ≡ Err e) ↔ WrongNear c e
unfolding near_at
near_tells c e bytes =
    part_tells _ _ length_judges c _ e _ bytes λ size f b.
    breaks_then (leb size MAX_DATA) _ (is_at_most size MAX_DATA) (BadField c.at) (near size, f) e

abbrev lengths_at : ℕ → ℕ → Cursor → Reading Communal
lengths_at at kind d = cond (eqb kind 0x61) (far_at d) (cond (eqb kind 0x62) (near_at d) (Err (BadField at)))

abbrev WrongKind : ℕ → ℕ → Cursor → OmfRefusal → Type 0
WrongKind at kind d e = ConditionThen ((kind ≡ 0x61) ⊎ (kind ≡ 0x62)) (BadField at) e (((kind ≡ 0x61) × WrongFar d e) ⊎ ((kind ≡ 0x62) × WrongNear d e))

kind_found : (at kind : ℕ) (d : Cursor) (e : OmfRefusal) → AreBytes d.left → lengths_at at kind d ≡ Err e → WrongKind at kind d e
kind_found at kind d e bytes is =
    elim (cases_Bool (eqb kind 0x61)) [
      | inl h ↦ let k = eqb-true _ _ h in inr (inl k, inl (k, (far_tells d e bytes).0 (sym (ap (λ (b : Bool). cond b (far_at d) (cond (eqb kind 0x62) (near_at d) (Err (BadField at)))) h) ∙ is)))
      | inr h ↦
          let others : cond (eqb kind 0x62) (near_at d) (Err (BadField at)) ≡ Err e = sym (ap (λ (b : Bool). cond b (far_at d) (cond (eqb kind 0x62) (near_at d) (Err (BadField at)))) h) ∙ is in
          elim (cases_Bool (eqb kind 0x62)) [
            | inl i ↦ let k = eqb-true _ _ i in inr (inr k, inr (k, (near_tells d e bytes).0 (sym (ap (λ (b : Bool). cond b (near_at d) (Err (BadField at))) i) ∙ others)))
            | inr i ↦
                let none : refused {A = Communal × Cursor} (BadField at) ≡ Err e = sym (ap (λ (b : Bool). cond b (near_at d) (Err (BadField at))) i) ∙ others in
                inl (λ k. elim k [ inl same ↦ eqb-false _ _ h same | inr same ↦ eqb-false _ _ i same ], (let same : BadField at ≡ e = cc in sym same))
          ]
    ]

kind_shown : (at kind : ℕ) (d : Cursor) (e : OmfRefusal) → AreBytes d.left → WrongKind at kind d e → lengths_at at kind d ≡ Err e
kind_shown at kind d e bytes (inl n) = rw (ne_eqb kind 0x61 (λ same. n.0 (inl same)), ne_eqb kind 0x62 (λ same. n.0 (inr same))) (ap (λ (y : OmfRefusal). refused {A = Communal × Cursor} y) (sym n.1))
kind_shown at kind d e bytes (inr y) = elim y.1 [
  | inl w ↦ rw (eq-eqb kind 0x61 w.0) ((far_tells d e bytes).1 w.1)
  | inr w ↦
      let other : eqb kind 0x61 ≡ false = ne_eqb kind 0x61 (λ same. omega (arith, same, w.0)) in
      rw (other, eq-eqb kind 0x62 w.0) ((near_tells d e bytes).1 w.1)
]

communal_tells : (c : Cursor) (e : OmfRefusal) → AreBytes c.left → (communal_at c ≡ Err e) ↔ communal.wrong c e
unfolding communal_at
communal_tells c e bytes =
    part_tells byte_at _ byte_judges c _ e _ bytes λ kind d b.
    (kind_found c.at kind d e b, kind_shown c.at kind d e b)

communal_judges : Judges communal_at communal
communal_judges = record { sound = communal_sound; complete = communal_complete; tells = communal_tells }

com_tells : (c : Cursor) (e : OmfRefusal) → AreBytes c.left → (com_at c ≡ Err e) ↔ common_symbol.wrong c e
unfolding com_at
com_tells c e bytes =
    part_tells name_at _ name_judges c _ e _ bytes λ n c1 b1.
    part_tells _ _ (or_none_judges 0) c1 _ e _ b1 λ type c2 b2.
    last_tells _ _ communal_judges c2 (λ k. ((let x : ComDef = record { name = n; type = type; communal = k.0 } in x), k.1)) e b2

com_judges : Judges com_at common_symbol
com_judges = record { sound = com_sound; complete = com_complete; tells = com_tells }

pub comdef_told : FailsAs comdef_at WrongComdef
unfolding comdef_at
comdef_told c e bytes = items_tell com_at common_symbol com_judges com_one c (λ defs. comdef defs) e bytes
