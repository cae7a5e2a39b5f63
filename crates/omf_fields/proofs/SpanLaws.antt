-- What stands between two cursors, form after form.
use Rattle.std.proofs.Common.{◌≡◌, ℕ, ◌+◌, Bool, true, false, List, [], ◌++◌, length, get_or, Result, Ok, Err, refl, sym, ap, ◌∙◌, append_assoc, arith, length-append}
use Rattle.std.proofs.Math.Seq.{get_or-append-add}
use Rattle.lx_bytes.specs.Cursor.{Cursor}
use Rattle.lx_bytes.specs.LittleEndian.{AreBytes}
use Rattle.obj_types.specs.declared.refusal.OmfRefusal.{OmfRefusal}
use Rattle.lx_types.specs.Answers.{◌>>=◌}
use Rattle.omf_fields.specs.Fields.{Reading, check}
use Rattle.omf_fields.specs.Forms.{Form, ◌then◌, nothing}
pub use Rattle.omf_fields.specs.Spans.{Spans}

pub cursor_is : (d : Cursor) (at : ℕ) (left : List ℕ) → at ≡ d.at → left ≡ d.left → (let c : Cursor = record { at = at; left = left } in c) ≡ d
cursor_is d at left p q = λ i. record { at = p i; left = q i }

pub bytes_after : (form : Form) (c d : Cursor) → Spans form c d → AreBytes c.left → AreBytes d.left
bytes_after form c d t h i =
    let there : get_or c.left (length t.front + i) 0 ≡ get_or d.left i 0 = ap (λ (xs : List ℕ). get_or xs (length t.front + i) 0) t.joined ∙ get_or-append-add t.front d.left i 0 in
    rw (← there) (h (length t.front + i))

-- a form and then another, from cursor to cursor
pub then_spans : (first second : Form) (c d e : Cursor) → Spans first c d → Spans second d e → Spans (first then second) c e
then_spans first second c d e s t = record {
  front = s.front ++ t.front;
  joined = s.joined ∙ ap (λ (xs : List ℕ). s.front ++ xs) t.joined ∙ sym (append_assoc s.front t.front e.left);
  moved = omega (arith, s.moved, t.moved, length-append s.front t.front);
  so = record { front = s.front; back = t.front; joined = refl; first_so = s.so; second_so = t.so };
}

pub then_splits : (first second : Form) (c e : Cursor) → Spans (first then second) c e → (d : Cursor) × Spans first c d × Spans second d e
then_splits first second c e t =
    let f = t.so.front in
    let b = t.so.back in
    let long : length t.front ≡ length f + length b = ap (λ (xs : List ℕ). length xs) t.so.joined ∙ length-append f b in (
      record { at = c.at + length f; left = b ++ e.left },
      record { front = f; joined = t.joined ∙ ap (λ (xs : List ℕ). xs ++ e.left) t.so.joined ∙ append_assoc f b e.left; moved = refl; so = t.so.first_so },
      record { front = b; joined = refl; moved = omega (arith, t.moved, long); so = t.so.second_so },
    )

-- a form at a cursor, and then one for all bytes that are left
pub then_left : (first second : Form) (c d : Cursor) → Spans first c d → second d.left → (first then second) c.left
then_left first second c d t h = record { front = t.front; back = d.left; joined = t.joined; first_so = t.so; second_so = h }

pub left_splits : (first second : Form) (c : Cursor) → (first then second) c.left → (d : Cursor) × Spans first c d × second d.left
left_splits first second c t = (
  record { at = c.at + length t.front; left = t.back },
  record { front = t.front; joined = t.joined; moved = refl; so = t.first_so },
  t.second_so,
)

pub spans_nothing : (c : Cursor) → Spans nothing c c
spans_nothing c = record { front = []; joined = refl; moved = omega arith; so = refl }

pub nothing_spans : (c d : Cursor) → Spans nothing c d → c ≡ d
nothing_spans c d t =
    let empty : length t.front ≡ 0 = ap (λ (xs : List ℕ). length xs) t.so in
    cursor_is d c.at c.left (omega (arith, t.moved, empty)) (t.joined ∙ ap (λ (xs : List ℕ). xs ++ d.left) t.so)

-- What is read has its form, and what has the form is read.
abbrev pub Sound : {A : Type 0} → (Cursor → Reading A) → (A → Form) → (A → Type 0) → Type 0
Sound {A} read form P = (c : Cursor) (x : A) (d : Cursor) → AreBytes c.left → read c ≡ Ok (x, d) → Spans (form x) c d × P x

abbrev pub Complete : {A : Type 0} → (Cursor → Reading A) → (A → Form) → (A → Type 0) → Type 0
Complete {A} read form P = (c : Cursor) (x : A) (d : Cursor) → Spans (form x) c d → P x → read c ≡ Ok (x, d)

abbrev pub done : {A : Type 0} → A → Result A OmfRefusal
done x = Ok x

-- a value and the cursor after it
abbrev pub given : {A : Type 0} → A → Cursor → Reading A
given x d = Ok (x, d)

pub ok_is : {A : Type 0} (x y : A) → done x ≡ done y → x ≡ y
ok_is x y e = cc

-- the value of a step that did not fail
pub bind_ok : {A B : Type 0} (r : Result A OmfRefusal) (f : A → Result B OmfRefusal) (y : B) → (r >>= f) ≡ Ok y → (x : A) × (r ≡ Ok x) × (f x ≡ Ok y)
bind_ok (Ok x) f y e = (x, refl, e)
bind_ok (Err d) f y e = absurd cc

-- a step of a reading that did not fail, and what stands there
pub step : {A B G : Type 0} (read : Cursor → Reading A) (form : A → Form) (P : A → Type 0) → Sound read form P → (c : Cursor) (f : A × Cursor → Result B OmfRefusal) (y : B) → AreBytes c.left → (read c >>= f) ≡ Ok y
    → ((x : A) (d : Cursor) → Spans (form x) c d → P x → AreBytes d.left → f (x, d) ≡ Ok y → G) → G
step read form P sound c f y bytes e k =
    let a = bind_ok (read c) f y e in
    let t = sound c a.0.0 a.0.1 bytes a.1 in
    k a.0.0 a.0.1 t.0 t.1 (bytes_after (form a.0.0) c a.0.1 t.0 bytes) a.2

-- a condition that held
pub checked_step : {B : Type 0} (b : Bool) (refusal : OmfRefusal) (f : Unit {0} → Result B OmfRefusal) (y : B) → (check b refusal >>= f) ≡ Ok y → (b ≡ true) × (f tt ≡ Ok y)
checked_step true refusal f y e = (refl, e)
checked_step false refusal f y e = absurd cc
