-- Reading from left to right, with the first fault that is met.
use Rattle.std.specs.Prelude.{◌≡◌, ℕ, zero, suc, ◌+◌, ◌<◌, List, [], ◌∷◌, ◌++◌, length, take, drop, map, Option, Some, None, Result, Ok, Err, nat_lt, if◌then◌else◌}
use Rattle.std.specs.List.{range_with_len}
use Rattle.lx_bytes.specs.Cursor.{Cursor, advance}
use Rattle.lx_bytes.specs.LittleEndian.{little}
use Rattle.lx_types.specs.declared.refusal.LxRefusal.{LxRefusal}
use Rattle.lx_types.specs.declared.refusal.LxKind.{LxKind}
use Rattle.lx_types.specs.declared.refusal.LxKind.TheVariants.{Short}
pub use Rattle.lx_types.specs.Answers.{◌>>=◌}

-- what is wrong, and where
abbrev pub fault : LxKind → ℕ → LxRefusal
fault kind at = record { at = at; kind = kind }

-- ---- fields at places of a file

-- the number in the n bytes at a place, the lowest byte first
abbrev pub number_at : ℕ → List ℕ → ℕ → ℕ
number_at n bytes at = little (take n (drop at bytes))

-- n bytes at a place pass the end
abbrev pub short_at : ℕ → List ℕ → ℕ → Option LxRefusal
short_at n bytes at = if nat_lt (length bytes) (at + n) then Some (fault Short at) else None

-- the first fault of a list of places that each have one or none
abbrev pub first : {A : Type 0} → List (Option A) → Option A
first [] = None
first (Some x ∷ others) = Some x
first (None ∷ others) = first others

-- the same where one fault or none is followed by others
infixr 8 ◌then◌
abbrev pub ◌then◌ : {A : Type 0} → Option A → Option A → Option A
(Some x) then other = Some x
None then other = other

-- the first fault of the entries 0 to n - 1 of a table
abbrev pub first_of : ℕ → (ℕ → Option LxRefusal) → Option LxRefusal
first_of n fault_of = first (map fault_of (range_with_len 0 n))

-- ---- fields one after the other

-- What a reading gives: a value and the cursor after it, or the fault.
abbrev pub Read : Type 0 → Type 0
Read A = Result (A × Cursor) LxRefusal

-- a cursor at the first of the bytes, which stand at a place
abbrev pub cursor : ℕ → List ℕ → Cursor
cursor at bytes = record { at = at; left = bytes }

-- the next n bytes, and the number in them
abbrev pub text : ℕ → Cursor → Read (List ℕ)
text n c = if nat_lt (length c.left) n then Err (fault Short c.at) else Ok (take n c.left, advance n c)

abbrev pub number : ℕ → Cursor → Read ℕ
number n c = if nat_lt (length c.left) n then Err (fault Short c.at) else Ok (little (take n c.left), advance n c)

-- ---- many, one after the other

-- What a step of a table reads after a cursor, where something is known: an item and what is known after
-- it, or that the table ends.
abbrev pub Step : Type 0 → Type 0 → Type 0
Step S A = S → Cursor → Read (Option (A × S))

abbrev pub ends : {S A : Type 0} → Cursor → Read (Option (A × S))
ends c = Ok (None, c)

-- The items of a table up to its end, and the cursor after it; or up to the first fault, and that fault.
pub record Many (A : Type 0) : Type 0 where
  pub items : List A
  pub end : Result Cursor LxRefusal

abbrev pub ends_at : {A : Type 0} → Cursor → Many A
ends_at c = record { items = []; end = Ok c }

abbrev pub faulty : {A : Type 0} → LxRefusal → Many A
faulty e = record { items = []; end = Err e }

abbrev pub with_front : {A : Type 0} → A → Many A → Many A
with_front x others = record { items = x ∷ others.items; end = others.end }

-- items, and then those of the rest of a table
abbrev pub front : {A : Type 0} → List A → Many A → Many A
front before others = record { items = before ++ others.items; end = others.end }

abbrev pub after_item : {S A : Type 0} → (S → Cursor → Many A) → Cursor → Option (A × S) → Many A
after_item others c None = ends_at c
after_item others c (Some item) = with_front item.0 (others item.1 c)

abbrev pub after_step : {S A : Type 0} → (S → Cursor → Many A) → Read (Option (A × S)) → Many A
after_step others (Ok read) = after_item others read.1 read.0
after_step others (Err e) = faulty e

-- what at most n steps read
unfoldable pub many_from : {S A : Type 0} → Step S A → ℕ → S → Cursor → Many A
many_from step zero known c = ends_at c
many_from step (suc n) known c = after_step (many_from step n) (step known c)

-- What the steps read, one after the other, up to the one that ends. Each step takes a byte or more, so
-- that they are never more than the bytes.
unfoldable pub many : {S A : Type 0} → Step S A → S → Cursor → Many A
many step known c = many_from step (suc (length c.left)) known c

-- What stands after the first step decides what many give: nothing where the step ends; the item and what
-- is read after it; the step's fault.
abbrev pub Shortens : {S A : Type 0} → Step S A → Type 0
Shortens {S} {A} step = (known : S) (c d : Cursor) (item : A × S) → step known c ≡ Ok (Some item, d) → length d.left < length c.left

pub record OneByOne {S A : Type 0} (step : Step S A) : Type 0 where
  pub shorter : Shortens step
  pub none : (known : S) (c d : Cursor) → step known c ≡ Ok (None, d) → many step known c ≡ ends_at d
  pub more : (known : S) (c d : Cursor) (item : A × S) → step known c ≡ Ok (Some item, d) → many step known c ≡ with_front item.0 (many step item.1 d)
  pub wrong : (known : S) (c : Cursor) (e : LxRefusal) → step known c ≡ Err e → many step known c ≡ faulty e

-- the items of a table that is read whole, or its fault
abbrev pub whole : {A : Type 0} → Many A → Result (List A) LxRefusal
whole m = m.end >>= λ _. Ok m.items

-- ---- tables of a file

-- What is read of a table that stands at a place of the file, by itself: a fault's place in the table
-- becomes one in the file.
abbrev pub placed : {A : Type 0} → ℕ → Result A LxRefusal → Result A LxRefusal
placed at (Ok x) = Ok x
placed at (Err e) = Err (fault e.kind (at + e.at))

-- the fault of a reading, and its value
abbrev pub fault_of : {A : Type 0} → Result A LxRefusal → Option LxRefusal
fault_of (Ok x) = None
fault_of (Err e) = Some e

abbrev pub value_or : {A : Type 0} → A → Result A LxRefusal → A
value_or other (Ok x) = x
value_or other (Err e) = other
