-- What may be wrong where a part of a record's contents is due: a fault stands after good parts only.
-- "Record Format".
use Rattle.std.specs.Prelude.{◌≡◌, ◌≢◌, ℕ, ◌<◌, ◌⊎◌, Bool, true, List, [], ◌∷◌, length, Option, IfSome}
use Rattle.lx_bytes.specs.Cursor.{Cursor}
use Rattle.obj_types.specs.declared.refusal.OmfRefusal.{OmfRefusal}
use Rattle.omf_fields.specs.Forms.{Form, present}
use Rattle.omf_fields.specs.Spans.{Spans}

-- A refusal says what is wrong from a cursor on.
abbrev pub Wrong : Type 1
Wrong = Cursor → OmfRefusal → Type 0

-- A part of a record's contents: how bytes spell a value of it, which values are good, and what is wrong where it is
-- due and no good value is spelled.
pub record Part (A : Type 0) : Type 1 where
  pub form : A → Form
  pub good : A → Type 0
  pub wrong : Wrong

-- The part is wrong; or a good value of it is spelled, and what is after it is wrong.
abbrev pub PartThen : {A : Type 0} → Part A → Cursor → OmfRefusal → (A → Cursor → Type 0) → Type 0
PartThen {A} part c e After = part.wrong c e ⊎ ((x : A) × (d : Cursor) × Spans (part.form x) c d × part.good x × After x d)

-- A condition does not hold, and this is its refusal; or it holds, and what is after it is wrong.
abbrev pub ConditionThen : Type 0 → OmfRefusal → OmfRefusal → Type 0 → Type 0
ConditionThen Holds refusal e After = ((Holds → ⊥) × (e ≡ refusal)) ⊎ (Holds × After)

-- the last condition
abbrev pub Breaks : Type 0 → OmfRefusal → OmfRefusal → Type 0
Breaks Holds refusal e = (Holds → ⊥) × (e ≡ refusal)

-- A part that stands there in some cases only.
abbrev pub only : {A : Type 0} → Bool → Part A → Part (Option A)
only there part = record {
  form = present there part.form;
  good = λ o. IfSome o part.good;
  wrong = λ c e. (there ≡ true) × part.wrong c e;
}

-- ---- lists, by what is known at each item

-- The items of a list: their form, which are good by what is known where one begins, what is known after one, and what is
-- wrong where the next one is due.
pub record Items (S A : Type 0) : Type 1 where
  pub form : A → Form
  pub good : S → A → Type 0
  pub next : S → A → S
  pub wrong : S → Wrong

-- Items are spelled one after another from a cursor to another, each good by what is known where it begins.
abbrev pub Stand : {S A : Type 0} → Items S A → S → List A → Cursor → Cursor → Type 0
Stand items s [] c d = c ≡ d
Stand items s (x ∷ xs) c d = (m : Cursor) × Spans (items.form x) c m × items.good s x × Stand items (items.next s x) xs m d

-- what is known after items
abbrev pub known_after : {S A : Type 0} → Items S A → S → List A → S
known_after items s [] = s
known_after items s (x ∷ xs) = known_after items (items.next s x) xs

-- Items go on to the record's end: some stand there, bytes are left after them, and there it is wrong.
pub record WrongAfter {S A : Type 0} (items : Items S A) (s : S) (c : Cursor) (e : OmfRefusal) : Type 0 where
  pub those : List A
  pub there : Cursor
  pub stand : Stand items s those c there
  pub some_left : there.left ≢ []
  pub wrong : items.wrong (known_after items s those) there e

-- Items of which nothing else is known.
abbrev pub alike : {A : Type 0} → Part A → Items (Unit {0}) A
alike part = record { form = part.form; good = λ _. part.good; next = λ known _. known; wrong = λ _. part.wrong }

abbrev pub WrongItem : {A : Type 0} → Part A → Cursor → OmfRefusal → Type 0
WrongItem part c e = WrongAfter (alike part) tt c e

-- Of so many items fewer stand there, and the next one is wrong.
pub record WrongOf {A : Type 0} (part : Part A) (n : ℕ) (c : Cursor) (e : OmfRefusal) : Type 0 where
  pub those : List A
  pub there : Cursor
  pub stand : Stand (alike part) tt those c there
  pub fewer : length those < n
  pub wrong : part.wrong there e
