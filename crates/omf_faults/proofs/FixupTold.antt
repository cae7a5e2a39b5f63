-- FIXUPP and MODEND fail exactly so.
use Rattle.std.proofs.Common.{◌≡◌, ◌≢◌, ℕ, ◌+◌, ◌<◌, ◌≤◌, Bool, true, false, cond, eqb, ltb, leb, List, [], ◌∷◌, length, Ok, Err, refl, sym, ap, ◌∙◌, arith, inl, inr}
use Rattle.std.specs.Prelude.{◌||◌, ◌⊎◌, ◌↔◌, not}
use Rattle.std.proofs.lemmas.Bool.{ltb-true, ltb-false, lt-ltb, le-ltb, ne_eqb, cases_Bool}
use Rattle.lx_bytes.specs.Cursor.{Cursor}
use Rattle.lx_bytes.specs.LittleEndian.{AreBytes}
use Rattle.obj_types.specs.declared.limits.TheConstants.{MAX_FIXES}
use Rattle.obj_types.specs.declared.refusal.OmfRefusal.{OmfRefusal}
use Rattle.obj_types.specs.declared.refusal.OmfRefusal.TheVariants.{Short, BadField, BadLocation, NoData, FixOverlap, TooMany}
use Rattle.obj_types.specs.declared.parts.LastData.{LastData}
use Rattle.obj_types.specs.declared.parts.LastData.TheVariants as datas
use Rattle.obj_types.specs.declared.parts.ObjParts.{ObjParts}
use Rattle.obj_types.specs.Location.{location_len}
use Rattle.lx_types.specs.Answers.{◌>>=◌}
use Rattle.omf_fields.specs.Within.{within}
use Rattle.omf_fields.specs.Fields.{Reading, check, byte_of, byte_at}
use Rattle.omf_fields.specs.Forms.{byte}
use Rattle.omf_model.specs.Record.{fixupp, modend, FixData, FixField, thread, fixup, thread_method, location_of, offset_of, has_start}
use Rattle.omf_model.specs.Fixups.{has_index, has_data, fixes_by, are_apart, have_of, is_location, is_thread_method}
use Rattle.omf_model.specs.Good.{GoodField}
use Rattle.omf_model.specs.Spelling.{field_form}
use Rattle.omf_model.specs.ReadFixups.{FirstByte, thread_at, is_dropped, second_of, judge_fixup, fixup_at, fix_data_at, field_at, fields_within, fields_at, fixupp_at, modend_at}
use Rattle.omf_model.proofs.FixuppLaws.{field_sound, field_complete, field_one, second_sound, second_complete}
use Rattle.omf_faults.specs.Parts.{ConditionThen, Breaks}
use Rattle.omf_faults.specs.FieldParts.{second_byte}
use Rattle.omf_faults.specs.FixupRecords.{WrongThread, WrongJudged, WrongDropped, WrongFixup, WrongField, fields, WrongFixupp, WrongModend}
use Rattle.omf_faults.specs.Laws.{FailsAs}
use Rattle.omf_faults.proofs.Told.{Judges, refused, ok_no_err, done_tells, part_tells, last_tells, condition_tells, breaks_tells, itself, choose_tells, only_judges, after_tells}
use Rattle.omf_faults.proofs.FieldTold.{byte_judges, below_judges}
use Rattle.omf_faults.proofs.NameTold.{is_at_most}
use Rattle.omf_faults.proofs.FixTold.{fix_judges}

abbrev first_byte : ℕ → ℕ → ℕ → FirstByte
first_byte of_record at b = record { of_record = of_record; at = at; byte = b }

-- ---- THREAD

thread_tells : (p : ObjParts) (record_at at b : ℕ) (c : Cursor) (e : OmfRefusal) → AreBytes c.left → (thread_at p (first_byte record_at at b) c ≡ Err e) ↔ WrongThread p (first_byte record_at at b) c e
unfolding thread_at
thread_tells p record_at at b c e bytes =
    condition_tells (is_thread_method b) _ (itself (is_thread_method b) true) (BadField at) _ e _ λ ok.
    last_tells _ _ (only_judges (has_index (thread_method b)) _ _ (below_judges (have_of p (thread_method b)))) c (λ i. (thread b i.0, i.1)) e bytes

-- ---- FIXUP

second_tells : (at place : ℕ) (left : List ℕ) (e : OmfRefusal) → (cond (eqb (length left) 0) (refused {A = ℕ × Cursor} (Short at)) (byte_of place left) ≡ Err e) ↔ ((left ≡ []) × (e ≡ Short at))
second_tells at place [] e = (λ is. (refl, (let same : Short at ≡ e = cc in sym same)), λ w. ap (λ (y : OmfRefusal). refused {A = ℕ × Cursor} y) (sym w.1))
second_tells at place (b ∷ rest) e =
    let filled : eqb (length (b ∷ rest)) 0 ≡ false = ne_eqb _ _ (λ none. omega (arith, none)) in
    let reads : cond (eqb (length (b ∷ rest)) 0) (refused {A = ℕ × Cursor} (Short at)) (byte_of place (b ∷ rest)) ≡ byte_of place (b ∷ rest) = rw filled refl in
    (λ is. absurd (ok_no_err (b, (let d : Cursor = record { at = place + 1; left = rest } in d)) e (sym reads ∙ is)), λ w. let no_ = w.0 in absurd cc)

second_judges : (at : ℕ) → Judges (second_of at) (second_byte at)
second_judges at = record { sound = second_sound at; complete = second_complete at; tells = λ c e bytes. second_tells at c.at c.left e }

abbrev WrongPlace : ObjParts → (record_at at high low : ℕ) → FixData → OmfRefusal → Type 0
WrongPlace p record_at at high low what e =
    ConditionThen (has_data p.last (offset_of high low) (location_len (location_of high)) ≡ true) (NoData at) e (
    ConditionThen (are_apart p.module.fixes (fixes_by p.last p.threads (fixup high low what)) ≡ true) (FixOverlap at) e (
    Breaks (length p.module.fixes + length (fixes_by p.last p.threads (fixup high low what)) ≤ MAX_FIXES) (TooMany record_at) e))

judge_tells : (p : ObjParts) (record_at at high low : ℕ) (what : FixData) (e : OmfRefusal) → (judge_fixup p (first_byte record_at at high) low what ≡ Err e) ↔ WrongPlace p record_at at high low what e
unfolding judge_fixup
judge_tells p record_at at high low what e =
    condition_tells (has_data p.last (offset_of high low) (location_len (location_of high))) _ (itself _ true) (NoData at) _ e _ λ there.
    condition_tells (are_apart p.module.fixes (fixes_by p.last p.threads (fixup high low what))) _ (itself _ true) (FixOverlap at) _ e _ λ apart.
    breaks_tells (leb (length p.module.fixes + length (fixes_by p.last p.threads (fixup high low what))) MAX_FIXES) _ (is_at_most _ MAX_FIXES) (TooMany record_at) e

-- a fixup, where it is known whether its data was dropped
abbrev fixup_with : Bool → Bool → ObjParts → FirstByte → Cursor → Reading FixField
fixup_with dropped wide p first c =
    check (dropped || is_location first.byte) (BadLocation first.at (location_of first.byte)) >>= λ ok. second_of first.at c >>= λ low. fix_data_at (not dropped) wide p low.1 >>= λ what.
    cond dropped (Ok tt) (judge_fixup p first low.0 what.0) >>= λ ok'. Ok (fixup first.byte low.0 what.0, what.1)

judged_tells : (wide : Bool) (p : ObjParts) (record_at at high : ℕ) (c : Cursor) (e : OmfRefusal) → AreBytes c.left → (fixup_with false wide p (first_byte record_at at high) c ≡ Err e) ↔ WrongJudged wide p (first_byte record_at at high) c e
judged_tells wide p record_at at high c e bytes =
    condition_tells (is_location high) _ (itself (is_location high) true) (BadLocation at (location_of high)) _ e _ λ ok.
    part_tells _ _ (second_judges at) c _ e _ bytes λ low c1 b1.
    part_tells _ _ (fix_judges true wide p) c1 _ e _ b1 λ what c2 b2.
    done_tells (judge_fixup p (first_byte record_at at high) low what) (λ ok'. (fixup high low what, c2)) e _ (judge_tells p record_at at high low what e)

dropped_tells : (wide : Bool) (p : ObjParts) (record_at at high : ℕ) (c : Cursor) (e : OmfRefusal) → AreBytes c.left → (fixup_with true wide p (first_byte record_at at high) c ≡ Err e) ↔ WrongDropped wide p (first_byte record_at at high) c e
dropped_tells wide p record_at at high c e bytes =
    part_tells _ _ (second_judges at) c _ e _ bytes λ low c1 b1.
    last_tells _ _ (fix_judges false wide p) c1 (λ what. (fixup high low what.0, what.1)) e b1

dropped_is : (last : LastData) → (is_dropped last ≡ true) ↔ (last ≡ datas.Dropped)
dropped_is datas.None = (λ h. absurd cc, λ h. absurd cc)
dropped_is (datas.Straight seg start len) = (λ h. absurd cc, λ h. absurd cc)
dropped_is (datas.Blocks seg start wide body) = (λ h. absurd cc, λ h. absurd cc)
dropped_is datas.Dropped = (λ h. refl, λ h. refl)

kept_is : (last : LastData) → (is_dropped last ≡ false) ↔ (last ≢ datas.Dropped)
kept_is last = (
  λ h same. let both : true ≡ false = sym ((dropped_is last).1 same) ∙ h in absurd cc,
  λ h. elim (cases_Bool (is_dropped last)) [ inl is ↦ absurd (h ((dropped_is last).0 is)) | inr is ↦ is ],
)

-- which of two a fixup is, by a test
by_dropped : (dropped : Bool) (Yes No : Type 0) → (dropped ≡ true) ↔ Yes → (dropped ≡ false) ↔ No → (wide : Bool) (p : ObjParts) (record_at at high : ℕ) (c : Cursor) (e : OmfRefusal) → AreBytes c.left
    → (fixup_with dropped wide p (first_byte record_at at high) c ≡ Err e) ↔ ((Yes × WrongDropped wide p (first_byte record_at at high) c e) ⊎ (No × WrongJudged wide p (first_byte record_at at high) c e))
by_dropped true Yes No y n wide p record_at at high c e bytes =
    let k = dropped_tells wide p record_at at high c e bytes in
    (λ is. inl (y.0 refl, k.0 is), λ w. elim w [ inl h ↦ k.1 h.1 | inr h ↦ (let both : true ≡ false = n.1 h.0 in absurd cc) ])
by_dropped false Yes No y n wide p record_at at high c e bytes =
    let k = judged_tells wide p record_at at high c e bytes in
    (λ is. inr (n.0 refl, k.0 is), λ w. elim w [ inl h ↦ (let both : false ≡ true = y.1 h.0 in absurd cc) | inr h ↦ k.1 h.1 ])

fixup_tells : (wide : Bool) (p : ObjParts) (record_at at high : ℕ) (c : Cursor) (e : OmfRefusal) → AreBytes c.left → (fixup_at wide p (first_byte record_at at high) c ≡ Err e) ↔ WrongFixup wide p (first_byte record_at at high) c e
unfolding fixup_at
fixup_tells wide p record_at at high c e bytes = by_dropped (is_dropped p.last) _ _ (dropped_is p.last) (kept_is p.last) wide p record_at at high c e bytes

-- ---- the fields

is_below : (m n : ℕ) → (ltb m n ≡ true) ↔ (m < n)
is_below m n = (λ h. ltb-true m n h, λ h. lt-ltb m n h)

is_not_below : (m n : ℕ) → (ltb m n ≡ false) ↔ (n ≤ m)
is_not_below m n = (λ h. ltb-false m n h, λ h. le-ltb m n h)

field_tells : (wide : Bool) (record_at : ℕ) (p : ObjParts) (c : Cursor) (e : OmfRefusal) → AreBytes c.left → (field_at wide p record_at c ≡ Err e) ↔ WrongField wide record_at p c e
unfolding field_at
field_tells wide record_at p c e bytes =
    part_tells byte_at _ byte_judges c _ e _ bytes λ b d bd.
    choose_tells (ltb b 128) _ _ (is_below b 128) (is_not_below b 128) _ _ e _ _ (λ low. thread_tells p record_at c.at b d e bd) (λ high. fixup_tells wide p record_at c.at b d e bd)

field_judges : (wide : Bool) (record_at : ℕ) (p : ObjParts) → Judges (field_at wide p record_at) (record { form = field_form wide; good = GoodField p; wrong = WrongField wide record_at p })
field_judges wide record_at p = record { sound = field_sound p wide record_at; complete = field_complete p wide record_at; tells = field_tells wide record_at p }

fields_tell : (wide : Bool) (record_at : ℕ) (p : ObjParts) (c : Cursor) (e : OmfRefusal) → AreBytes c.left → (fields_at wide record_at p c ≡ Err e) ↔ WrongFixupp wide p record_at c e
unfolding fields_within within
fields_tell wide record_at p c e bytes =
    after_tells (λ s. field_at wide s record_at) (fields wide record_at) (field_judges wide record_at) (field_one wide) (λ n s d. fields_within wide record_at n s d) (λ s d. refl) (λ n s d. refl) (length c.left) p c e bytes (omega arith)

pub fixupp_told : (wide : Bool) (p : ObjParts) (record_at : ℕ) → FailsAs (fixupp_at wide p record_at) (WrongFixupp wide p record_at)
unfolding fixupp_at
fixupp_told wide p record_at c e bytes = done_tells (fields_at wide record_at p c) (λ fields. fixupp fields) e _ (fields_tell wide record_at p c e bytes)

pub modend_told : (wide : Bool) (p : ObjParts) → FailsAs (modend_at wide p) (WrongModend wide p)
unfolding modend_at
modend_told wide p c e bytes =
    part_tells byte_at _ byte_judges c _ e _ bytes λ kind d b.
    last_tells _ _ (only_judges (has_start kind) _ _ (fix_judges true wide p)) d (λ start. modend kind start.0) e b
