-- Lists of items, and fields that stand there in some cases only.
use Rattle.std.proofs.Common.{◌≡◌, ℕ, zero, suc, ◌+◌, ◌≤◌, Bool, true, false, eqb, List, [], ◌∷◌, length, Option, Some, None, Result, Ok, refl, ap, subst, ◌∙◌, arith, inl, inr, length-append}
use Rattle.std.specs.Prelude.{IfSome}
use Rattle.std.specs.List.{AllByRecursion}
use Rattle.std.proofs.lemmas.Bool.{eqb-true, ne_eqb}
use Rattle.std.proofs.lemmas.List.{nil_from_length}
use Rattle.lx_bytes.specs.Cursor.{Cursor}
use Rattle.lx_bytes.specs.LittleEndian.{AreBytes}
use Rattle.obj_types.specs.declared.refusal.OmfRefusal.{OmfRefusal}
use Rattle.lx_types.specs.Answers.{◌>>=◌}
use Rattle.omf_fields.specs.Fields.{Reading, where_so, list_within, list_at}
use Rattle.omf_fields.specs.Within.{within}
use Rattle.omf_fields.specs.Forms.{Form, each, present}
use Rattle.omf_fields.proofs.SpanLaws.{Spans, bytes_after, then_left, left_splits, spans_nothing, nothing_spans, Sound, Complete, given, done, ok_is, bind_ok}
use Rattle.omf_fields.proofs.FieldLaws.{chosen}

-- ---- in some cases only

pub present_sound : {A : Type 0} (b : Bool) (read : Cursor → Reading A) (form : A → Form) (P : A → Type 0) → Sound read form P → Sound (where_so b read) (present b form) (λ o. IfSome o P)
present_sound {A} true read form P sound c o d bytes e =
    let b = bind_ok (read c) (λ x. given (Some x.0) x.1) (o, d) e in
    let t = sound c b.0.0 b.0.1 bytes b.1 in
    subst (λ (p : Option A × Cursor). Spans (present true form p.0) c p.1 × IfSome p.0 P) (ok_is (Some b.0.0, b.0.1) (o, d) b.2) t
present_sound {A} false read form P sound c o d bytes e =
    subst (λ (p : Option A × Cursor). Spans (present false form p.0) c p.1 × IfSome p.0 P) (ok_is (None, c) (o, d) e) (spans_nothing c, tt)

pub present_complete : {A : Type 0} (b : Bool) (read : Cursor → Reading A) (form : A → Form) (P : A → Type 0) → Complete read form P → Complete (where_so b read) (present b form) (λ o. IfSome o P)
present_complete true read form P complete c (Some x) d t ok = rw (complete c x d t ok) refl
present_complete true read form P complete c None d t ok = absurd t.so
present_complete false read form P complete c (Some x) d t ok = absurd t.so
present_complete {A} false read form P complete c None d t ok = ap (λ (k : Cursor). given {A = Option A} None k) (nothing_spans c d t)

-- ---- lists up to the end

-- an item spans a byte at least
abbrev pub OneByte : {A : Type 0} → (A → Form) → Type 0
OneByte {A} form = (x : A) (bytes : List ℕ) → form x bytes → 1 ≤ length bytes

within_sound : {A : Type 0} (read : Cursor → Reading A) (form : A → Form) (P : A → Type 0) → Sound read form P → OneByte form → (most : ℕ) (c : Cursor) (xs : List A) → AreBytes c.left → length c.left ≤ most → list_within read most c ≡ Ok xs → each form xs c.left × AllByRecursion P xs
unfolding list_within within
within_sound {A} read form P sound one zero c xs bytes few e =
    subst (λ (ys : List A). each form ys c.left × AllByRecursion P ys) (ok_is [] xs e) (nil_from_length c.left (omega (arith, few)), tt)
within_sound {A} read form P sound one (suc most) c xs bytes few e =
    let step : A × Cursor → Result (List A) OmfRefusal = λ first. list_within read most first.1 >>= λ others. Ok (first.0 ∷ others) in
    elim (chosen (eqb (length c.left) 0) (Ok []) (read c >>= step) (Ok xs) e) [
      | inl h ↦ subst (λ (ys : List A). each form ys c.left × AllByRecursion P ys) (ok_is [] xs h.1) (nil_from_length c.left (eqb-true _ _ h.0), tt)
      | inr h ↦
          let a = bind_ok (read c) step xs h.1 in
          let b = bind_ok (list_within read most a.0.1) (λ others. done (a.0.0 ∷ others)) xs a.2 in
          let t = sound c a.0.0 a.0.1 bytes a.1 in
          let shorter : length c.left ≡ length t.0.front + length a.0.1.left = ap (λ (ys : List ℕ). length ys) t.0.joined ∙ length-append t.0.front a.0.1.left in
          let grows = one a.0.0 t.0.front t.0.so in
          let rest = within_sound read form P sound one most a.0.1 b.0 (bytes_after (form a.0.0) c a.0.1 t.0 bytes) (omega (arith, few, shorter, grows)) b.1 in
          subst (λ (ys : List A). each form ys c.left × AllByRecursion P ys) (ok_is (a.0.0 ∷ b.0) xs b.2) (then_left (form a.0.0) (each form b.0) c a.0.1 t.0 rest.0, (t.1, rest.1))
    ]

pub list_sound : {A : Type 0} (read : Cursor → Reading A) (form : A → Form) (P : A → Type 0) → Sound read form P → OneByte form → (c : Cursor) (xs : List A) → AreBytes c.left → list_at read c ≡ Ok xs → each form xs c.left × AllByRecursion P xs
list_sound read form P sound one c xs bytes e = within_sound read form P sound one (length c.left) c xs bytes (omega arith) e

within_complete : {A : Type 0} (read : Cursor → Reading A) (form : A → Form) (P : A → Type 0) → Complete read form P → OneByte form → (xs : List A) (most : ℕ) (c : Cursor) → length c.left ≤ most → each form xs c.left → AllByRecursion P xs → list_within read most c ≡ Ok xs
unfolding list_within within
within_complete {A} read form P complete one [] zero c few so ok = refl
within_complete {A} read form P complete one [] (suc most) c few so ok = rw so refl
within_complete {A} read form P complete one (x ∷ xs) zero c few so ok =
    let s = left_splits (form x) (each form xs) c so in
    let long : length c.left ≡ length s.1.front + length s.0.left = ap (λ (ys : List ℕ). length ys) s.1.joined ∙ length-append s.1.front s.0.left in
    absurd (omega (arith, few, long, one x s.1.front s.1.so))
within_complete {A} read form P complete one (x ∷ xs) (suc most) c few so ok =
    let s = left_splits (form x) (each form xs) c so in
    let long : length c.left ≡ length s.1.front + length s.0.left = ap (λ (ys : List ℕ). length ys) s.1.joined ∙ length-append s.1.front s.0.left in
    let grows = one x s.1.front s.1.so in
    let some : eqb (length c.left) 0 ≡ false = ne_eqb _ _ (λ none. omega (arith, none, long, grows)) in
    let rest = within_complete read form P complete one xs most s.0 (omega (arith, few, long, grows)) s.2 ok.1 in
    rw (some, complete c x s.0 s.1 ok.0, rest) refl

pub list_complete : {A : Type 0} (read : Cursor → Reading A) (form : A → Form) (P : A → Type 0) → Complete read form P → OneByte form → (c : Cursor) (xs : List A) → each form xs c.left → AllByRecursion P xs → list_at read c ≡ Ok xs
list_complete read form P complete one c xs so ok = within_complete read form P complete one xs (length c.left) c (omega arith) so ok
