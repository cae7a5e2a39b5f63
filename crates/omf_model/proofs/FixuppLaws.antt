-- The fields of FIXUPP and the end of a module: what is read is spelled so and good, and what is so is read.
use Rattle.std.proofs.Common.{◌≡◌, ℕ, zero, suc, ◌+◌, ◌<◌, ◌≤◌, Bool, true, false, cond, eqb, leb, ltb, List, [], ◌∷◌, length, Option, Some, None, Ok, Err, refl, ap, subst, ◌∙◌, arith, inl, inr, length-append}
use Rattle.std.specs.Prelude.{◌||◌, IfSome, not}
use Rattle.std.proofs.lemmas.Bool.{eqb-true, ne_eqb, leb-true, le-leb, ltb-true, ltb-false, lt-ltb, le-ltb}
use Rattle.std.proofs.lemmas.List.{nil_from_length}
use Rattle.lx_bytes.specs.Cursor.{Cursor}
use Rattle.lx_bytes.specs.LittleEndian.{AreBytes}
use Rattle.obj_types.specs.declared.limits.TheConstants.{MAX_FIXES}
use Rattle.obj_types.specs.declared.refusal.OmfRefusal.TheVariants.{Short}
use Rattle.obj_types.specs.declared.parts.LastData.{LastData}
use Rattle.obj_types.specs.declared.parts.LastData.TheVariants as datas
use Rattle.obj_types.specs.declared.parts.ObjParts.{ObjParts}
use Rattle.obj_types.specs.Location.{location_len}
use Rattle.omf_fields.specs.Within.{within}
use Rattle.lx_types.specs.Answers.{◌>>=◌}
use Rattle.omf_fields.specs.Fields.{byte_at}
use Rattle.omf_fields.specs.Forms.{◌then◌, anything, each, present, byte, index}
use Rattle.omf_model.specs.Record.{Record, fixupp, modend, FixData, FixField, thread, fixup, thread_method, location_of, offset_of, has_start}
use Rattle.omf_model.specs.Fixups.{has_index, has_data, fixes_by, are_apart, have_of, is_location, is_thread_method}
use Rattle.omf_model.specs.Add.{add_field}
use Rattle.omf_model.specs.ReadFixups.{FirstByte, thread_at, is_dropped, second_of, judge_fixup, fixup_at, field_at, fields_within, fixupp_at, modend_at}
use Rattle.omf_model.specs.Spelling.{pair, contents_form, field_form, fix_data_form}
use Rattle.omf_model.specs.Good.{GoodAfter, GoodMethods, GoodFixData, GoodFixup, GoodAfterData, GoodField, GoodFields}
use Rattle.omf_fields.proofs.SpanLaws.{Spans, then_spans, then_splits, then_left, left_splits, Sound, Complete, given, done, ok_is, bind_ok, step, checked_step}
use Rattle.omf_fields.proofs.FieldLaws.{Free, chosen, byte_sound, byte_complete, below_sound, below_complete}
use Rattle.omf_fields.proofs.ListLaws.{OneByte, present_sound, present_complete}
use Rattle.omf_model.proofs.DataLaws.{bool_cases, check_so}
use Rattle.omf_model.proofs.FixLaws.{absent, GoodFix, fix_sound, fix_complete}
use Rattle.omf_model.proofs.NameLaws.{IsRead, then_one}

-- ---- THREAD

abbrev first_byte : ℕ → ℕ → ℕ → FirstByte
first_byte of_record at b = record { of_record = of_record; at = at; byte = b }

thread_sound : (p : ObjParts) (wide : Bool) (record_at b : ℕ) (c0 c : Cursor) (x : FixField) (d : Cursor) →
    AreBytes c.left → b < 128 → Spans (byte b) c0 c → thread_at p (first_byte record_at c0.at b) c ≡ Ok (x, d) → Spans (field_form wide x) c0 d × GoodField p x
unfolding thread_at
thread_sound p wide record_at b c0 c x d bytes small front e =
    let k = checked_step (is_thread_method b) _ _ (x, d) e in
    step _ _ _ (present_sound (has_index (thread_method b)) _ _ _ (below_sound (have_of p (thread_method b)))) c _ (x, d) bytes k.1 λ i c1 t1 g1 b1 e1.
    let t = then_spans (byte b) (present (has_index (thread_method b)) index i) c0 c c1 front t1 in
    subst (λ (q : FixField × Cursor). Spans (field_form wide q.0) c0 q.1 × GoodField p q.0) (ok_is (thread b i, c1) (x, d) e1)
    (record { front = t.front; joined = t.joined; moved = t.moved; so = (small, t.so) }, record { method = k.0; there = absent (has_index (thread_method b)) i t1.front t1.so; index = g1 })

-- ---- FIXUP

pub second_sound : (at : ℕ) → Sound (second_of at) byte Free
second_sound at c x d bytes e =
    elim (chosen (eqb (length c.left) 0) (Err (Short at)) (byte_at c) (given x d) e) [
      | inl h ↦ absurd cc
      | inr h ↦ byte_sound c x d bytes h.1
    ]

pub second_complete : (at : ℕ) → Complete (second_of at) byte Free
second_complete at c x d t ok =
    let long : length c.left ≡ 1 + length d.left = ap (λ (xs : List ℕ). length xs) t.joined ∙ length-append t.front d.left ∙ ap (λ (xs : List ℕ). length xs + length d.left) t.so.1 in
    rw (ne_eqb (length c.left) 0 (λ none. omega (arith, none, long))) (byte_complete c x d t ok)

abbrev Dropped : ObjParts → Bool
Dropped p = is_dropped p.last

-- what is judged, by whether the data was dropped
good_by : (last : LastData) (p : ObjParts) (high low : ℕ) (d : FixData) → (is_dropped last ≡ true → GoodMethods p d) → (is_dropped last ≡ false → GoodFixup p high low d) → GoodAfterData last p high low d
good_by datas.None p high low d m g = g refl
good_by (datas.Straight seg start len) p high low d m g = g refl
good_by (datas.Blocks seg start wide body) p high low d m g = g refl
good_by datas.Dropped p high low d m g = m refl

good_dropped : (last : LastData) (p : ObjParts) (high low : ℕ) (d : FixData) → GoodAfterData last p high low d → is_dropped last ≡ true → GoodMethods p d
good_dropped datas.None p high low d g e = absurd cc
good_dropped (datas.Straight seg start len) p high low d g e = absurd cc
good_dropped (datas.Blocks seg start wide body) p high low d g e = absurd cc
good_dropped datas.Dropped p high low d g e = g

good_kept : (last : LastData) (p : ObjParts) (high low : ℕ) (d : FixData) → GoodAfterData last p high low d → is_dropped last ≡ false → GoodFixup p high low d
good_kept datas.None p high low d g e = g
good_kept (datas.Straight seg start len) p high low d g e = g
good_kept (datas.Blocks seg start wide body) p high low d g e = g
good_kept datas.Dropped p high low d g e = absurd cc

judge_so : (p : ObjParts) (record_at at high low : ℕ) (d : FixData) (u : Unit {0}) → judge_fixup p (first_byte record_at at high) low d ≡ Ok u → is_location high ≡ true → GoodFixData p d → GoodFixup p high low d
unfolding judge_fixup
judge_so p record_at at high low d u e loc good =
    let a = checked_step (has_data p.last (offset_of high low) (location_len (location_of high))) _ _ u e in
    let b = checked_step (are_apart p.module.fixes (fixes_by p.last p.threads (fixup high low d))) _ _ u a.1 in
    let c = check_so (leb (length p.module.fixes + length (fixes_by p.last p.threads (fixup high low d))) MAX_FIXES) _ u b.1 in
    record { location = loc; what = good; on_data = a.0; apart = b.0; limit = leb-true _ _ c }

judge_again : (p : ObjParts) (record_at at high low : ℕ) (d : FixData) → GoodFixup p high low d → judge_fixup p (first_byte record_at at high) low d ≡ Ok tt
unfolding judge_fixup
judge_again p record_at at high low d g = rw (g.on_data, g.apart, le-leb _ _ g.limit) refl

or_right : (a b : Bool) → (a || b) ≡ true → a ≡ false → b ≡ true
or_right true b e n = absurd cc
or_right false b e n = e

fixup_sound : (p : ObjParts) (wide : Bool) (record_at high : ℕ) (c0 c : Cursor) (x : FixField) (d : Cursor) → AreBytes c.left →
    128 ≤ high → Spans (byte high) c0 c → fixup_at wide p (first_byte record_at c0.at high) c ≡ Ok (x, d) → Spans (field_form wide x) c0 d × GoodField p x
unfolding fixup_at
fixup_sound p wide record_at high c0 c x d bytes large front e =
    let k = checked_step (is_dropped p.last || is_location high) _ _ (x, d) e in
    step _ _ _ (second_sound c0.at) c _ (x, d) bytes k.1 λ low c1 t1 f1 b1 e1.
    step _ _ _ (fix_sound p wide (not (is_dropped p.last))) c1 _ (x, d) b1 e1 λ what c2 t2 g2 b2 e2.
    let j = bind_ok (cond (is_dropped p.last) (Ok tt) (judge_fixup p (first_byte record_at c0.at high) low what)) _ (x, d) e2 in
    let t = then_spans (byte high) (byte low then fix_data_form wide what) c0 c c2 front (then_spans (byte low) (fix_data_form wide what) c c1 c2 t1 t2) in
    let kept : is_dropped p.last ≡ false → GoodFixup p high low what = λ n.
    judge_so p record_at c0.at high low what j.0 (subst (λ (b : Bool). cond b (Ok tt) (judge_fixup p (first_byte record_at c0.at high) low what) ≡ done j.0) n j.1)
    (or_right _ _ k.0 n) (g2.1 (ap (λ (b : Bool). not b) n)) in
    subst (λ (q : FixField × Cursor). Spans (field_form wide q.0) c0 q.1 × GoodField p q.0) (ok_is (fixup high low what, c2) (x, d) j.2)
    (record { front = t.front; joined = t.joined; moved = t.moved; so = (large, t.so) }, good_by p.last p high low what (λ y. g2.0) kept)

pub field_sound : (p : ObjParts) (wide : Bool) (record_at : ℕ) → Sound (field_at wide p record_at) (field_form wide) (GoodField p)
unfolding field_at
field_sound p wide record_at c x d bytes e =
    step _ _ _ byte_sound c _ (x, d) bytes e λ b c1 t1 f1 b1 e1.
    elim (chosen (ltb b 128) (thread_at p (first_byte record_at c.at b) c1) (fixup_at wide p (first_byte record_at c.at b) c1) (given x d) e1) [
      | inl h ↦ thread_sound p wide record_at b c c1 x d b1 (ltb-true _ _ h.0) t1 h.1
      | inr h ↦ fixup_sound p wide record_at b c c1 x d b1 (ltb-false _ _ h.0) t1 h.1
    ]

fixup_so : (p : ObjParts) (high low : ℕ) (d : FixData) → GoodAfterData p.last p high low d → ((is_dropped p.last || is_location high) ≡ true) × GoodFix (not (is_dropped p.last)) p d
fixup_so p high low d g =
    elim (bool_cases (is_dropped p.last)) [
      | inl h ↦ (rw h refl, (good_dropped p.last p high low d g h, λ y. let bad : not true ≡ true = subst (λ (b : Bool). not b ≡ true) h y in absurd cc))
      | inr h ↦ let k = good_kept p.last p high low d g h in (rw (h, k.location) refl, (k.what.meant, λ y. k.what))
    ]

judged_again : (p : ObjParts) (record_at at high low : ℕ) (d : FixData) → GoodAfterData p.last p high low d → cond (is_dropped p.last) (Ok tt) (judge_fixup p (first_byte record_at at high) low d) ≡ Ok tt
judged_again p record_at at high low d g =
    elim (bool_cases (is_dropped p.last)) [
      | inl h ↦ rw h refl
      | inr h ↦ rw h (judge_again p record_at at high low d (good_kept p.last p high low d g h))
    ]

pub field_complete : (p : ObjParts) (wide : Bool) (record_at : ℕ) → Complete (field_at wide p record_at) (field_form wide) (GoodField p)
unfolding field_at thread_at fixup_at
field_complete p wide record_at c (thread b i) d t ok =
    let plain : Spans (byte b then present (has_index (thread_method b)) index i) c d = record { front = t.front; joined = t.joined; moved = t.moved; so = t.so.1 } in
    let s = then_splits (byte b) (present (has_index (thread_method b)) index i) c d plain in
    let r = present_complete (has_index (thread_method b)) _ _ _ (below_complete (have_of p (thread_method b))) s.0 i d s.2 ok.index in
    rw (byte_complete c b s.0 s.1 tt, lt-ltb b 128 t.so.0, ok.method, r) refl
field_complete p wide record_at c (fixup high low what) d t ok =
    let plain : Spans (byte high then byte low then fix_data_form wide what) c d = record { front = t.front; joined = t.joined; moved = t.moved; so = t.so.1 } in
    let s1 = then_splits (byte high) (byte low then fix_data_form wide what) c d plain in
    let s2 = then_splits (byte low) (fix_data_form wide what) s1.0 d s1.2 in
    let so = fixup_so p high low what ok in
    rw (byte_complete c high s1.0 s1.1 tt, le-ltb high 128 t.so.0, so.0, second_complete c.at s1.0 low s2.0 s2.1 tt, fix_complete p wide (not (is_dropped p.last)) s2.0 what d s2.2 so.1, judged_again p record_at c.at high low what ok) refl

-- ---- the fields

pub field_one : (wide : Bool) → OneByte (field_form wide)
field_one wide (thread b i) bytes h = then_one (byte b) _ bytes h.1 (λ front f. let len : length front ≡ 1 = ap (λ (xs : List ℕ). length xs) f.1 in omega (arith, len))
field_one wide (fixup high low what) bytes h = then_one (byte high) _ bytes h.1 (λ front f. let len : length front ≡ 1 = ap (λ (xs : List ℕ). length xs) f.1 in omega (arith, len))

fields_sound : (wide : Bool) (record_at most : ℕ) (p : ObjParts) (c : Cursor) (xs : List FixField) →
    AreBytes c.left → length c.left ≤ most → fields_within wide record_at most p c ≡ Ok xs → each (field_form wide) xs c.left × GoodFields p xs
unfolding fields_within within
fields_sound wide record_at zero p c xs bytes few e =
    subst (λ (ys : List FixField). each (field_form wide) ys c.left × GoodFields p ys) (ok_is [] xs e) (nil_from_length c.left (omega (arith, few)), tt)
fields_sound wide record_at (suc most) p c xs bytes few e =
    elim (chosen (eqb (length c.left) 0) (Ok []) (field_at wide p record_at c >>= λ first. fields_within wide record_at most (add_field p first.0) first.1 >>= λ others. Ok (first.0 ∷ others)) (Ok xs) e) [
      | inl h ↦ subst (λ (ys : List FixField). each (field_form wide) ys c.left × GoodFields p ys) (ok_is [] xs h.1) (nil_from_length c.left (eqb-true _ _ h.0), tt)
      | inr h ↦
          step _ _ _ (field_sound p wide record_at) c _ xs bytes h.1 λ x c1 t1 g1 b1 e1.
          let a = bind_ok (fields_within wide record_at most (add_field p x) c1) _ xs e1 in
          let shorter : length c.left ≡ length t1.front + length c1.left = ap (λ (ys : List ℕ). length ys) t1.joined ∙ length-append t1.front c1.left in
          let rest = fields_sound wide record_at most (add_field p x) c1 a.0 b1 (omega (arith, few, shorter, field_one wide x t1.front t1.so)) a.1 in
          subst (λ (ys : List FixField). each (field_form wide) ys c.left × GoodFields p ys) (ok_is (x ∷ a.0) xs a.2) (then_left (field_form wide x) (each (field_form wide) a.0) c c1 t1 rest.0, (g1, rest.1))
    ]

fields_complete : (wide : Bool) (record_at : ℕ) (xs : List FixField) (most : ℕ) (p : ObjParts) (c : Cursor) →
    length c.left ≤ most → each (field_form wide) xs c.left → GoodFields p xs → fields_within wide record_at most p c ≡ Ok xs
unfolding fields_within within
fields_complete wide record_at [] zero p c few so ok = refl
fields_complete wide record_at [] (suc most) p c few so ok = rw so refl
fields_complete wide record_at (x ∷ xs) zero p c few so ok =
    let s = left_splits (field_form wide x) (each (field_form wide) xs) c so in
    let long : length c.left ≡ length s.1.front + length s.0.left = ap (λ (ys : List ℕ). length ys) s.1.joined ∙ length-append s.1.front s.0.left in
    absurd (omega (arith, few, long, field_one wide x s.1.front s.1.so))
fields_complete wide record_at (x ∷ xs) (suc most) p c few so ok =
    let s = left_splits (field_form wide x) (each (field_form wide) xs) c so in
    let long : length c.left ≡ length s.1.front + length s.0.left = ap (λ (ys : List ℕ). length ys) s.1.joined ∙ length-append s.1.front s.0.left in
    let grows = field_one wide x s.1.front s.1.so in
    let some : eqb (length c.left) 0 ≡ false = ne_eqb _ _ (λ none. omega (arith, none, long, grows)) in
    let rest = fields_complete wide record_at xs most (add_field p x) s.0 (omega (arith, few, long, grows)) s.2 ok.1 in
    rw (some, field_complete p wide record_at c x s.0 s.1 ok.0, rest) refl

pub fixupp_sound : (p : ObjParts) (wide : Bool) (at : ℕ) (c : Cursor) (r : Record) → AreBytes c.left → fixupp_at wide p at c ≡ Ok r → IsRead (pair 0x9C) p wide c r
unfolding fixupp_at
fixupp_sound p wide at c r bytes e =
    let a = bind_ok (fields_within wide at (length c.left) p c) _ r e in
    let f = fields_sound wide at (length c.left) p c a.0 bytes (omega arith) a.1 in
    subst (λ (q : Record). IsRead (pair 0x9C) p wide c q) (ok_is (fixupp a.0) r a.2) (f.0, f.1, refl)

pub fixupp_complete : (p : ObjParts) (wide : Bool) (at : ℕ) (c : Cursor) (fields : List FixField) → each (field_form wide) fields c.left → GoodFields p fields → fixupp_at wide p at c ≡ Ok (fixupp fields)
unfolding fixupp_at
fixupp_complete p wide at c fields so good = rw (fields_complete wide at fields (length c.left) p c (omega arith) so good) refl

-- ---- MODEND

judged_start : (p : ObjParts) (o : Option FixData) → IfSome o (GoodFix true p) → IfSome o (GoodFixData p)
judged_start p None h = tt
judged_start p (Some d) h = h.1 refl

start_judged : (p : ObjParts) (o : Option FixData) → IfSome o (GoodFixData p) → IfSome o (GoodFix true p)
start_judged p None h = tt
start_judged p (Some d) h = (h.meant, λ y. h)

pub modend_sound : (p : ObjParts) (wide : Bool) (c : Cursor) (r : Record) → AreBytes c.left → modend_at wide p c ≡ Ok r → IsRead (pair 0x8A) p wide c r
unfolding modend_at
modend_sound p wide c r bytes e =
    step _ _ _ byte_sound c _ r bytes e λ kind c1 t1 f1 b1 e1.
    step _ _ _ (present_sound (has_start kind) _ _ _ (fix_sound p wide true)) c1 _ r b1 e1 λ start c2 t2 g2 b2 e2.
    subst (λ (q : Record). IsRead (pair 0x8A) p wide c q) (ok_is (modend kind start) r e2)
    (then_left (byte kind) _ c c1 t1 (then_left _ anything c1 c2 t2 tt), judged_start p start g2, refl)

pub modend_complete : (p : ObjParts) (wide : Bool) (c : Cursor) (kind : ℕ) (start : Option FixData) →
    contents_form wide (modend kind start) c.left → GoodAfter p (modend kind start) → modend_at wide p c ≡ Ok (modend kind start)
unfolding modend_at
modend_complete p wide c kind start so good =
    let s1 = left_splits (byte kind) _ c so in
    let s2 = left_splits (present (has_start kind) (fix_data_form wide) start) anything s1.0 s1.2 in
    let f = present_complete (has_start kind) _ _ _ (fix_complete p wide true) s1.0 start s2.0 s2.1 (start_judged p start good) in
    rw (byte_complete c kind s1.0 s1.1 tt, f) refl
