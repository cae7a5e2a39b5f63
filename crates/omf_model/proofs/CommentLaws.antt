-- The comments: what is read is spelled so and good, and what is so is read. "88h COMENT".
use Rattle.std.proofs.Common.{◌≡◌, ◌≢◌, ℕ, ◌≤◌, Bool, true, false, cond, eqb, leb, ltb, List, [], ◌∷◌, length, Ok, refl, ap, subst, inl, inr}
use Rattle.std.specs.Prelude.{not}
use Rattle.std.proofs.lemmas.Bool.{eqb-true, eqb-false, ne_eqb, ltb-false, le-ltb, not-true}
use Rattle.lx_bytes.specs.Cursor.{Cursor}
use Rattle.lx_bytes.specs.LittleEndian.{AreBytes}
use Rattle.obj_types.specs.declared.refusal.OmfRefusal.TheVariants.{BadField}
use Rattle.obj_types.specs.declared.parts.ObjParts.{ObjParts}
use Rattle.lx_types.specs.Answers.{◌>>=◌}
use Rattle.omf_fields.specs.Fields.{byte_at, name_at, number_at}
use Rattle.omf_fields.specs.Forms.{Form, ◌then◌, anything, present, byte, number, name}
use Rattle.omf_model.specs.Record.{Record, comment, default_library, impdef, expdef, ImpDef, ImpEntry, by_ordinal, by_name, ExpDef}
use Rattle.omf_model.specs.ReadComments.{given_name_at, entry_at, impdef_at, expdef_at, extension_at, library_at, coment_at}
use Rattle.omf_model.specs.Spelling.{contents_form, class_form, entry_form}
use Rattle.omf_fields.proofs.SpanLaws.{Spans, then_spans, then_splits, then_left, left_splits, Sound, Complete, given, ok_is, step, checked_step}
use Rattle.omf_fields.proofs.FieldLaws.{Free, chosen, guard_ok, name_sound, name_complete, number_sound, number_complete, byte_sound, byte_complete}
use Rattle.omf_fields.proofs.ListLaws.{present_sound, present_complete}
use Rattle.omf_fields.proofs.ItemLaws.{not-empty}
use Rattle.omf_model.proofs.NameLaws.{IsRead, free_option}

abbrev pub comment_types : List (ℕ × Bool)
comment_types = (0x88, false) ∷ []

-- ---- names that are not empty

not_empty : (text : List ℕ) → eqb (length text) 0 ≡ false → text ≢ []
not_empty text h none = eqb-false _ _ h (ap (λ (xs : List ℕ). length xs) none)

abbrev pub IsGiven : List ℕ → Type 0
IsGiven text = text ≢ []

given_sound : Sound given_name_at name IsGiven
unfolding given_name_at
given_sound c x d bytes e =
    step _ _ _ name_sound c _ (x, d) bytes e λ n c1 t1 f1 b1 e1.
    let h = checked_step (not (eqb (length n) 0)) _ _ (x, d) e1 in
    subst (λ (q : List ℕ × Cursor). Spans (name q.0) c q.1 × IsGiven q.0) (ok_is (n, c1) (x, d) h.1) (t1, not_empty n (not-true _ h.0))

given_complete : Complete given_name_at name IsGiven
unfolding given_name_at
given_complete c x d t ok = rw (name_complete c x d t tt, not-empty x ok) refl

-- ---- IMPDEF

entry_sound : (flag : ℕ) → Sound (entry_at flag) (entry_form flag) Free
unfolding entry_at
entry_sound flag c x d bytes e =
    elim (chosen (eqb flag 0) (name_at c >>= λ n. given (by_name n.0) n.1) (number_at 2 c >>= λ n. given (by_ordinal n.0) n.1) (given x d) e) [
      | inl h ↦
          step _ _ _ name_sound c _ (x, d) bytes h.1 λ n c1 t1 f1 b1 e1.
          subst (λ (q : ImpEntry × Cursor). Spans (entry_form flag q.0) c q.1 × Unit {0}) (ok_is (by_name n, c1) (x, d) e1)
          (record { front = t1.front; joined = t1.joined; moved = t1.moved; so = (eqb-true flag 0 h.0, t1.so) }, tt)
      | inr h ↦
          step _ _ _ (number_sound 2) c _ (x, d) bytes h.1 λ n c1 t1 f1 b1 e1.
          subst (λ (q : ImpEntry × Cursor). Spans (entry_form flag q.0) c q.1 × Unit {0}) (ok_is (by_ordinal n, c1) (x, d) e1)
          (record { front = t1.front; joined = t1.joined; moved = t1.moved; so = (eqb-false flag 0 h.0, t1.so) }, tt)
    ]

entry_complete : (flag : ℕ) → Complete (entry_at flag) (entry_form flag) Free
unfolding entry_at
entry_complete flag c (by_name text) d t ok =
    let plain : Spans (name text) c d = record { front = t.front; joined = t.joined; moved = t.moved; so = t.so.1 } in
    let zero_flag : eqb flag 0 ≡ true = rw t.so.0 refl in
    rw (zero_flag, name_complete c text d plain tt) refl
entry_complete flag c (by_ordinal n) d t ok =
    let plain : Spans (number 2 n) c d = record { front = t.front; joined = t.joined; moved = t.moved; so = t.so.1 } in
    rw (ne_eqb flag 0 t.so.0, number_complete 2 c n d plain tt) refl

-- after the class and the subtype
abbrev impdef_rest : ImpDef → Form
impdef_rest d = byte d.flag then name d.internal then name d.from then entry_form d.flag d.entry then anything

impdef_sound : (c : Cursor) (r : Record) → AreBytes c.left → impdef_at c ≡ Ok r → (d : ImpDef) × (impdef d ≡ r) × impdef_rest d c.left × IsGiven d.from
unfolding impdef_at
impdef_sound c r bytes e =
    step _ _ _ byte_sound c _ r bytes e λ flag c1 t1 f1 b1 e1.
    step _ _ _ name_sound c1 _ r b1 e1 λ internal c2 t2 f2 b2 e2.
    step _ _ _ given_sound c2 _ r b2 e2 λ from c3 t3 g3 b3 e3.
    step _ _ _ (entry_sound flag) c3 _ r b3 e3 λ entry c4 t4 f4 b4 e4. (
      record { flag = flag; internal = internal; from = from; entry = entry },
      ok_is _ r e4,
      then_left _ _ c c1 t1 (then_left _ _ c1 c2 t2 (then_left _ _ c2 c3 t3 (then_left _ anything c3 c4 t4 tt))),
      g3,
    )

impdef_complete : (c : Cursor) (d : ImpDef) → impdef_rest d c.left → IsGiven d.from → impdef_at c ≡ Ok (impdef d)
unfolding impdef_at
impdef_complete c d so good =
    let s1 = left_splits _ _ c so in
    let s2 = left_splits _ _ s1.0 s1.2 in
    let s3 = left_splits _ _ s2.0 s2.2 in
    let s4 = left_splits _ _ s3.0 s3.2 in
    rw (byte_complete c d.flag s1.0 s1.1 tt, name_complete s1.0 d.internal s2.0 s2.1 tt, given_complete s2.0 d.from s3.0 s3.1 good, entry_complete d.flag s3.0 d.entry s4.0 s4.1 tt) refl

-- ---- EXPDEF

abbrev expdef_rest : ExpDef → Form
expdef_rest d = byte d.flag then name d.exported then name d.internal then present (leb 128 d.flag) (number 2) d.ordinal then anything

expdef_sound : (c : Cursor) (r : Record) → AreBytes c.left → expdef_at c ≡ Ok r → (d : ExpDef) × (expdef d ≡ r) × expdef_rest d c.left × IsGiven d.exported
unfolding expdef_at
expdef_sound c r bytes e =
    step _ _ _ byte_sound c _ r bytes e λ flag c1 t1 f1 b1 e1.
    step _ _ _ given_sound c1 _ r b1 e1 λ exported c2 t2 g2 b2 e2.
    step _ _ _ name_sound c2 _ r b2 e2 λ internal c3 t3 f3 b3 e3.
    step _ _ _ (present_sound (leb 128 flag) (number_at 2) (number 2) Free (number_sound 2)) c3 _ r b3 e3 λ ordinal c4 t4 f4 b4 e4. (
      record { flag = flag; exported = exported; internal = internal; ordinal = ordinal },
      ok_is _ r e4,
      then_left _ _ c c1 t1 (then_left _ _ c1 c2 t2 (then_left _ _ c2 c3 t3 (then_left _ anything c3 c4 t4 tt))),
      g2,
    )

expdef_complete : (c : Cursor) (d : ExpDef) → expdef_rest d c.left → IsGiven d.exported → expdef_at c ≡ Ok (expdef d)
unfolding expdef_at
expdef_complete c d so good =
    let s1 = left_splits _ _ c so in
    let s2 = left_splits _ _ s1.0 s1.2 in
    let s3 = left_splits _ _ s2.0 s2.2 in
    let s4 = left_splits _ _ s3.0 s3.2 in
    let o = present_complete (leb 128 d.flag) (number_at 2) (number 2) Free (number_complete 2) s3.0 d.ordinal s4.0 s4.1 (free_option d.ordinal) in
    rw (byte_complete c d.flag s1.0 s1.1 tt, given_complete s1.0 d.exported s2.0 s2.1 good, name_complete s2.0 d.internal s3.0 s3.1 tt, o) refl

-- ---- the class

class_spans : (class flags : ℕ) (c c1 c2 : Cursor) → Spans (byte flags) c c1 → Spans (byte class) c1 c2 → Spans (class_form class) c c2
class_spans class flags c c1 c2 t1 t2 =
    then_spans (λ bytes. (flags : ℕ) × byte flags bytes) (byte class) c c1 c2 (record { front = t1.front; joined = t1.joined; moved = t1.moved; so = (flags, t1.so) }) t2

extension_sound : (p : ObjParts) (wide : Bool) (c c2 : Cursor) (r : Record) → AreBytes c2.left → Spans (class_form 0xA0) c c2 → extension_at c2 ≡ Ok r → IsRead comment_types p wide c r
unfolding extension_at
extension_sound p wide c c2 r bytes front e =
    step _ _ _ byte_sound c2 _ r bytes e λ subtype c3 t3 f3 b3 e3.
    elim (chosen (eqb subtype 1) (impdef_at c3) (cond (eqb subtype 2) (expdef_at c3) (Ok comment)) (Ok r) e3) [
      | inl h ↦
          let s = impdef_sound c3 r b3 h.1 in
          let mark = subst (λ (m : ℕ). Spans (byte m) c2 c3) (eqb-true subtype 1 h.0) t3 in
          subst (λ (q : Record). IsRead comment_types p wide c q) s.1 (then_left (class_form 0xA0) _ c c2 front (then_left (byte 1) _ c2 c3 mark s.2), s.3, refl)
      | inr h ↦ elim (chosen (eqb subtype 2) (expdef_at c3) (Ok comment) (Ok r) h.1) [
        | inl k ↦
            let s = expdef_sound c3 r b3 k.1 in
            let mark = subst (λ (m : ℕ). Spans (byte m) c2 c3) (eqb-true subtype 2 k.0) t3 in
            subst (λ (q : Record). IsRead comment_types p wide c q) s.1 (then_left (class_form 0xA0) _ c c2 front (then_left (byte 2) _ c2 c3 mark s.2), s.3, refl)
        | inr k ↦
            subst (λ (q : Record). IsRead comment_types p wide c q) (ok_is comment r k.1)
            (inr (subtype, eqb-false subtype 1 h.0, eqb-false subtype 2 k.0, then_left (class_form 0xA0) _ c c2 front (then_left (byte subtype) anything c2 c3 t3 tt)), tt, refl)
      ]
    ]

library_sound : (p : ObjParts) (wide : Bool) (c c2 : Cursor) (r : Record) → Spans (class_form 0x9F) c c2 → library_at c2 ≡ Ok r → IsRead comment_types p wide c r
library_sound p wide c c2 r front e =
    let g = guard_ok (ltb 255 (length c2.left)) (BadField c2.at) (default_library c2.left) r e in
    subst (λ (q : Record). IsRead comment_types p wide c q) g.1 (then_left (class_form 0x9F) (λ bytes. bytes ≡ c2.left) c c2 front refl, ltb-false _ _ g.0, refl)

pub coment_sound : (p : ObjParts) (wide : Bool) (c : Cursor) (r : Record) → AreBytes c.left → coment_at c ≡ Ok r → IsRead comment_types p wide c r
unfolding coment_at
coment_sound p wide c r bytes e =
    step _ _ _ byte_sound c _ r bytes e λ flags c1 t1 f1 b1 e1.
    step _ _ _ byte_sound c1 _ r b1 e1 λ class c2 t2 f2 b2 e2.
    let front = class_spans class flags c c1 c2 t1 t2 in
    elim (chosen (eqb class 0x9F) (library_at c2) (cond (eqb class 0xA0) (extension_at c2) (Ok comment)) (Ok r) e2) [
      | inl h ↦ library_sound p wide c c2 r (subst (λ (k : ℕ). Spans (class_form k) c c2) (eqb-true class 0x9F h.0) front) h.1
      | inr h ↦ elim (chosen (eqb class 0xA0) (extension_at c2) (Ok comment) (Ok r) h.1) [
        | inl k ↦ extension_sound p wide c c2 r b2 (subst (λ (m : ℕ). Spans (class_form m) c c2) (eqb-true class 0xA0 k.0) front) k.1
        | inr k ↦
            subst (λ (q : Record). IsRead comment_types p wide c q) (ok_is comment r k.1)
            (inl (class, eqb-false class 0x9F h.0, eqb-false class 0xA0 k.0, then_left (class_form class) anything c c2 front tt), tt, refl)
      ]
    ]

-- ---- each form is read

class_reads : (class : ℕ) (c c2 : Cursor) → Spans (class_form class) c c2 → (flags : ℕ) × (c1 : Cursor) × (byte_at c ≡ Ok (flags, c1)) × (byte_at c1 ≡ Ok (class, c2))
class_reads class c c2 t =
    let s = then_splits (λ bytes. (flags : ℕ) × byte flags bytes) (byte class) c c2 t in
    let first : Spans (byte s.1.so.0) c s.0 = record { front = s.1.front; joined = s.1.joined; moved = s.1.moved; so = s.1.so.1 } in
    (s.1.so.0, s.0, byte_complete c s.1.so.0 s.0 first tt, byte_complete s.0 class c2 s.2 tt)

pub library_complete : (wide : Bool) (c : Cursor) (text : List ℕ) → contents_form wide (default_library text) c.left → length text ≤ 255 → coment_at c ≡ Ok (default_library text)
unfolding coment_at
library_complete wide c text so good =
    let s = left_splits _ _ c so in
    let k = class_reads 0x9F c s.0 s.1 in
    let short : ltb 255 (length text) ≡ false = le-ltb _ _ good in
    rw (k.2, k.3, s.2, short) refl

pub impdef_read : (wide : Bool) (c : Cursor) (d : ImpDef) → contents_form wide (impdef d) c.left → IsGiven d.from → coment_at c ≡ Ok (impdef d)
unfolding coment_at extension_at
impdef_read wide c d so good =
    let s1 = left_splits (class_form 0xA0) _ c so in
    let s2 = left_splits (byte 1) _ s1.0 s1.2 in
    let k = class_reads 0xA0 c s1.0 s1.1 in
    rw (k.2, k.3, byte_complete s1.0 1 s2.0 s2.1 tt) (impdef_complete s2.0 d s2.2 good)

pub expdef_read : (wide : Bool) (c : Cursor) (d : ExpDef) → contents_form wide (expdef d) c.left → IsGiven d.exported → coment_at c ≡ Ok (expdef d)
unfolding coment_at extension_at
expdef_read wide c d so good =
    let s1 = left_splits (class_form 0xA0) _ c so in
    let s2 = left_splits (byte 2) _ s1.0 s1.2 in
    let k = class_reads 0xA0 c s1.0 s1.1 in
    rw (k.2, k.3, byte_complete s1.0 2 s2.0 s2.1 tt) (expdef_complete s2.0 d s2.2 good)

pub comment_read : (wide : Bool) (c : Cursor) → contents_form wide comment c.left → coment_at c ≡ Ok comment
unfolding coment_at extension_at
comment_read wide c so =
    elim so [
      | inl h ↦
          let s = left_splits (class_form h.0) anything c h.3 in
          let k = class_reads h.0 c s.0 s.1 in
          rw (k.2, k.3, ne_eqb h.0 0x9F h.1, ne_eqb h.0 0xA0 h.2) refl
      | inr h ↦
          let s1 = left_splits (class_form 0xA0) _ c h.3 in
          let s2 = left_splits (byte h.0) anything s1.0 s1.2 in
          let k = class_reads 0xA0 c s1.0 s1.1 in
          rw (k.2, k.3, byte_complete s1.0 h.0 s2.0 s2.1 tt, ne_eqb h.0 1 h.1, ne_eqb h.0 2 h.2) refl
    ]
