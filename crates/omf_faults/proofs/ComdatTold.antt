-- The record of a COMDAT fails exactly so. "C2h COMDAT".
use Rattle.std.proofs.Common.{◌≡◌, ◌≢◌, ℕ, zero, suc, ◌+◌, Bool, true, false, cond, eqb, leb, List, length, Result, Ok, Err, refl, sym, ap, subst, ◌∙◌, arith, inl, inr}
use Rattle.std.specs.Prelude.{◌↔◌, not}
use Rattle.std.specs.List.{list_any}
use Rattle.std.proofs.lemmas.Bool.{eqb-false, ne_eqb, cases_Bool}
use Rattle.lx_bytes.specs.Cursor.{Cursor}
use Rattle.lx_bytes.specs.LittleEndian.{AreBytes}
use Rattle.obj_types.specs.declared.limits.TheConstants.{MAX_DATA}
use Rattle.obj_types.specs.declared.refusal.OmfRefusal.{OmfRefusal}
use Rattle.obj_types.specs.declared.refusal.OmfRefusal.TheVariants.{BadField, DataRange, TooMany, DataOverFix}
use Rattle.obj_types.specs.declared.parts.ObjParts.{ObjParts}
use Rattle.lx_types.specs.Answers.{◌>>=◌}
use Rattle.omf_fields.specs.Fields.{Reading, check, width, byte_at, index_at}
use Rattle.omf_fields.specs.Forms.{byte}
use Rattle.omf_fields.proofs.SpanLaws.{Spans, done}
use Rattle.omf_model.specs.Comdat.{Base, ComDat, is_continued, are_flags, is_selected, has_base, is_begun, end_of}
use Rattle.omf_model.specs.Record.{Record, comdat}
use Rattle.omf_model.specs.Items.{name_with, begun_names, is_debug_seg, data_so_far}
use Rattle.omf_model.specs.Fixups.{touches}
use Rattle.omf_model.specs.ReadNames.{checked_plain, plain_seg_or_zero}
use Rattle.omf_model.specs.ReadComdat.{base_segment_at, base_at, comdat_fields_at, is_in_turn, number_so_far, offset_place, judge_comdat, comdat_at}
use Rattle.omf_model.proofs.ComdatLaws.{base_sound, base_complete}
use Rattle.omf_faults.specs.Parts.{Part, PartThen, ConditionThen, Breaks}
use Rattle.omf_faults.specs.FieldParts.{a_byte}
use Rattle.omf_faults.specs.ComdatRecords.{WrongBaseSegment, the_base, Named, WrongNamed, WrongComdat}
use Rattle.omf_faults.specs.Laws.{FailsAs}
use Rattle.omf_faults.proofs.Told.{Judges, part_tells, spanned_part_tells, done_tells, condition_tells, breaks_tells, breaks_then, itself, only_judges}
use Rattle.omf_faults.proofs.FieldTold.{byte_judges, number_judges, below_judges, or_none_judges}
use Rattle.omf_faults.proofs.PlainTold.{plain_or_none_judges}
use Rattle.omf_faults.proofs.NameTold.{is_not, is_at_most}

-- ---- the base

is_some_index : (i : ℕ) → (not (eqb i 0) ≡ true) ↔ (i ≢ 0)
is_some_index i = (λ h. eqb-false i 0 ((is_not (eqb i 0)).0 h), λ h. (is_not (eqb i 0)).1 (ne_eqb i 0 h))

-- segment 0 is refused before or after the test of the others
not_none : ObjParts → ℕ → ℕ × Cursor → Reading ℕ
not_none p at i = check (not (eqb i.0 0)) (BadField at) >>= λ ok. done i

zero_late : (p : ObjParts) (at i : ℕ) (d : Cursor) → (check (not (eqb i 0)) (BadField at) >>= λ ok. checked_plain false p at (i, d)) ≡ (checked_plain true p at (i, d) >>= not_none p at)
unfolding not_none
zero_late p at zero d = refl
zero_late p at (suc i) d =
    let some : eqb (suc i) 0 ≡ false = ne_eqb (suc i) 0 (λ e. omega (arith, e)) in
    elim (cases_Bool (leb (suc i) (length p.module.segs))) [
      | inr h ↦ rw (some, h) refl
      | inl h ↦ elim (cases_Bool (is_debug_seg p.module.segs (suc i))) [
        | inl d ↦ rw (some, h, d) refl
        | inr d ↦ rw (some, h, d, some) refl
      ]
    ]

base_segment_is : (p : ObjParts) (c : Cursor) → base_segment_at p c ≡ (plain_seg_or_zero p c >>= not_none p c.at)
unfolding base_segment_at plain_seg_or_zero
base_segment_is p c = by (index_at c)
  where
    by : (r : Reading ℕ) → (r >>= λ i. check (not (eqb i.0 0)) (BadField c.at) >>= λ ok. checked_plain false p c.at i) ≡ ((r >>= checked_plain true p c.at) >>= not_none p c.at)
    by (Ok i) = zero_late p c.at i.0 i.1
    by (Err e) = refl

base_segment_tells : (p : ObjParts) (c : Cursor) (e : OmfRefusal) → AreBytes c.left → (base_segment_at p c ≡ Err e) ↔ WrongBaseSegment p c e
unfolding not_none
base_segment_tells p c e bytes =
    let k = part_tells _ _ (plain_or_none_judges p) c (not_none p c.at) e (λ segment d. Breaks (segment ≢ 0) (BadField c.at) e) bytes (λ segment d b. breaks_then (not (eqb segment 0)) _ (is_some_index segment) (BadField c.at) (segment, d) e) in
    (λ is. k.0 (sym (base_segment_is p c) ∙ is), λ w. base_segment_is p c ∙ k.1 w)

base_tells : (p : ObjParts) (c : Cursor) (e : OmfRefusal) → AreBytes c.left → (base_at p c ≡ Err e) ↔ (the_base p).wrong c e
unfolding base_at
base_tells p c e bytes =
    part_tells _ _ (or_none_judges (length p.module.groups)) c _ e _ bytes λ group d b.
    done_tells (base_segment_at p d) (λ segment. ((let x : Base = record { group = group; segment = segment.0 } in x), segment.1)) e _ (base_segment_tells p d e b)

base_judges : (p : ObjParts) → Judges (base_at p) (the_base p)
base_judges p = record { sound = base_sound p; complete = base_complete p; tells = base_tells p }

-- ---- conditions on the whole

abbrev named : ObjParts → ComDat → Named
named p d = record { name = name_with p.names d.name; continued = is_continued d.flags; offset = d.offset; len = length d.content }

is_turn : (continued begun : Bool) → (cond continued begun (not begun) ≡ true) ↔ (begun ≡ continued)
is_turn true begun = (λ h. h, λ h. h)
is_turn false begun = is_not begun

judge_tells : (p : ObjParts) (at offset_at : ℕ) (d : ComDat) (e : OmfRefusal) → (judge_comdat p at offset_at d ≡ Err e) ↔ WrongNamed p at offset_at (named p d) e
unfolding judge_comdat
judge_tells p at offset_at d e =
    condition_tells (is_in_turn p d) _ (is_turn (is_continued d.flags) (is_begun (begun_names p.comdats) (name_with p.names d.name))) (BadField at) _ e _ λ turn.
    condition_tells (leb (end_of d) MAX_DATA) _ (is_at_most (end_of d) MAX_DATA) (DataRange offset_at) _ e _ λ range.
    condition_tells (leb (data_so_far p + length d.content) MAX_DATA) _ (is_at_most (data_so_far p + length d.content) MAX_DATA) (TooMany at) _ e _ λ limit.
    breaks_tells (not (list_any (touches (number_so_far p d) d.offset (length d.content)) p.module.fixes)) _ (is_not (list_any (touches (number_so_far p d) d.offset (length d.content)) p.module.fixes)) (DataOverFix offset_at) e

-- ---- the fields, and what is after them

and_then : {A B C : Type 0} (r : Result A OmfRefusal) (f : A → Result B OmfRefusal) (g : B → Result C OmfRefusal) → ((r >>= f) >>= g) ≡ (r >>= λ x. f x >>= g)
and_then (Ok x) f g = refl
and_then (Err e) f g = refl

abbrev FailsAfter : {B C : Type 0} → Result B OmfRefusal → (B → Result C OmfRefusal) → OmfRefusal → Type 0
FailsAfter r g e = (r >>= g) ≡ Err e

spanned_before : {A B C : Type 0} (read : Cursor → Reading A) (part : Part A) → Judges read part → (c : Cursor) (f : A × Cursor → Result B OmfRefusal) (g : B → Result C OmfRefusal) (e : OmfRefusal) (After : A → Cursor → Type 0) → AreBytes c.left
    → ((x : A) (d : Cursor) → Spans (part.form x) c d → AreBytes d.left → FailsAfter (f (x, d)) g e ↔ After x d) → FailsAfter (read c >>= f) g e ↔ PartThen part c e After
spanned_before read part j c f g e After bytes k =
    let t = spanned_part_tells read part j c (λ x. f x >>= g) e After bytes k in
    (λ is. t.0 (sym (and_then (read c) f g) ∙ is), λ w. and_then (read c) f g ∙ t.1 w)

part_before : {A B C : Type 0} (read : Cursor → Reading A) (part : Part A) → Judges read part → (c : Cursor) (f : A × Cursor → Result B OmfRefusal) (g : B → Result C OmfRefusal) (e : OmfRefusal) (After : A → Cursor → Type 0) → AreBytes c.left
    → ((x : A) (d : Cursor) → AreBytes d.left → FailsAfter (f (x, d)) g e ↔ After x d) → FailsAfter (read c >>= f) g e ↔ PartThen part c e After
part_before read part j c f g e After bytes k = spanned_before read part j c f g e After bytes (λ x d t b. k x d b)

condition_before : {B C : Type 0} (b : Bool) (Holds : Type 0) → (b ≡ true) ↔ Holds → (refusal : OmfRefusal) (f : Unit {0} → Result B OmfRefusal) (g : B → Result C OmfRefusal) (e : OmfRefusal) (After : Type 0)
    → (Holds → FailsAfter (f tt) g e ↔ After) → FailsAfter (check b refusal >>= f) g e ↔ ConditionThen Holds refusal e After
condition_before b Holds h refusal f g e After k =
    let t = condition_tells b Holds h refusal (λ x. f x >>= g) e After k in
    (λ is. t.0 (sym (and_then (check b refusal) f g) ∙ is), λ w. and_then (check b refusal) f g ∙ t.1 w)

-- the cursor after a byte
after_byte : (b : ℕ) (c d : Cursor) → Spans (byte b) c d → d.at ≡ c.at + 1
after_byte b c d t = let one : length t.front ≡ 1 = ap (λ (xs : List ℕ). length xs) t.so.1 in omega (arith, t.moved, one)

-- the conditions on the whole, where the offset is told at its place
judged : ObjParts → (at offset_at : ℕ) → ComDat → Result Record OmfRefusal
judged p at offset_at d = judge_comdat p at offset_at d >>= λ ok. done (comdat d)

judged_tells : (p : ObjParts) (at offset_at there : ℕ) (d : ComDat) (e : OmfRefusal) → there ≡ offset_at → (judged p at offset_at d ≡ Err e) ↔ WrongNamed p at there (named p d) e
unfolding judged
judged_tells p at offset_at there d e same = subst (λ (n : ℕ). (judged p at offset_at d ≡ Err e) ↔ WrongNamed p at n (named p d) e) (sym same) (done_tells (judge_comdat p at offset_at d) (λ ok. comdat d) e _ (judge_tells p at offset_at d e))

pub comdat_told : (wide : Bool) (p : ObjParts) (at : ℕ) → FailsAs (comdat_at wide p at) (WrongComdat wide p at)
unfolding comdat_at comdat_fields_at judged
comdat_told wide p at c e bytes =
    spanned_before byte_at a_byte byte_judges c _ (judged p at (offset_place c)) e _ bytes λ flags c1 t1 b1.
    condition_before (are_flags flags) _ (itself (are_flags flags) true) (BadField c.at) _ _ e _ λ ok1.
    spanned_before byte_at a_byte byte_judges c1 _ _ e _ b1 λ attributes c2 t2 b2.
    condition_before (is_selected attributes) _ (itself (is_selected attributes) true) (BadField c1.at) _ _ e _ λ ok2.
    spanned_before byte_at a_byte byte_judges c2 _ _ e _ b2 λ align c3 t3 b3.
    condition_before (leb align 5) _ (is_at_most align 5) (BadField c2.at) _ _ e _ λ ok3.
    part_before _ _ (number_judges (width wide)) c3 _ _ e _ b3 λ offset c4 b4.
    part_before _ _ (or_none_judges 0) c4 _ _ e _ b4 λ ty c5 b5.
    part_before _ _ (only_judges (has_base attributes) (base_at p) (the_base p) (base_judges p)) c5 _ _ e _ b5 λ base c6 b6.
    part_before _ _ (below_judges (length p.names)) c6 _ _ e _ b6 λ n c7 b7.
    judged_tells p at (offset_place c) c3.at (record { flags = flags; attributes = attributes; align = align; offset = offset; type = ty; base = base; name = n; content = c7.left }) e
    (omega (arith, after_byte flags c c1 t1, after_byte attributes c1 c2 t2, after_byte align c2 c3 t3))
