-- One field of the header's table after another, and what stands where no field is short.
use Rattle.std.proofs.Common.{◌≡◌, ℕ, ◌+◌, ◌<◌, ◌≤◌, Bool, true, false, cond, Option, Some, None, List, [], ◌∷◌, ◌++◌, length, take, drop, map, refl, sym, ap, ◌∙◌, get_or, ltb, drop-cons, add-one, arith}
use Rattle.std.specs.Prelude.{Result, Ok, Err, IsErrAnd, OnOk}
use Rattle.std.proofs.lemmas.List.{drop_all}
use borrow.Author.Tests.{ltb-false}
use Rattle.lx_types.specs.declared.refusal.LxRefusal.{LxRefusal}
use Rattle.lx_types.specs.declared.refusal.LxKind.TheVariants.{Field as WrongField, Short}
use Rattle.lx_model.specs.declared.header_fields.TheConstants.{HEAP_SIZE}
use Rattle.lx_model.specs.Reading.{first, fault}
use Rattle.lx_model.specs.Header.{Row, row, row_fault, rows}
use Rattle.lx_head.specs.declared.rows.Field.{Field}
use Rattle.lx_head.specs.declared.rows.TheConstants.{FIELDS}
use Rattle.lx_head.specs.Rows.{row_of, fault_among, fields_fault}
use Rattle.lx_types.specs.Answers.{as_is}
use Rattle.lx_model.specs.Judging.{Judged}

-- ---- the loop

pub field_good : (fs : List Field) (i : ℕ) (d : Field) (file : List ℕ) (place : ℕ) → i < length fs → row_fault file place (row_of (get_or fs i d)) ≡ None →
    fault_among (drop i fs) file place ≡ fault_among (drop (i + 1) fs) file place
unfolding fault_among
field_good fs i d file place lt good = rw (add-one, drop-cons fs i d, good) refl

pub field_wrong : (fs : List Field) (i : ℕ) (d : Field) (file : List ℕ) (place : ℕ) (e : LxRefusal) → i < length fs → row_fault file place (row_of (get_or fs i d)) ≡ Some e →
    fault_among (drop i fs) file place ≡ Some e
unfolding fault_among
field_wrong fs i d file place e lt wrong = rw (drop-cons fs i d, wrong) refl

pub all_good : (fs : List Field) (i : ℕ) (file : List ℕ) (place : ℕ) → length fs ≤ i → fault_among (drop i fs) file place ≡ None
unfolding fault_among
all_good fs i file place ended = rw (drop_all i fs ended) refl

-- a refusal that is handed on
pub refused : {A : Type 0} (answer : Result A LxRefusal) (fault : Option LxRefusal) (e : LxRefusal) → IsErrAnd answer (λ x. x ≡ e) → fault ≡ Some e → Judged as_is answer fault
refused (Ok x) fault e is wrong = absurd is
refused (Err x) fault e is wrong = wrong ∙ ap Some (sym is)

-- ---- the table

pub table_is : (file : List ℕ) (place : ℕ) → fault_among FIELDS file place ≡ fields_fault file place
unfolding fault_among fields_fault
table_is file place = refl

-- ---- the room

none_after : (o : Option LxRefusal) (others : List (Option LxRefusal)) → first (o ∷ others) ≡ None → (o ≡ None) × (first others ≡ None)
none_after None others is = (refl, is)
none_after (Some e) others is = absurd cc

last_good : (f : Row → Option LxRefusal) (front : List Row) (last : Row) → first (map f (front ++ last ∷ [])) ≡ None → f last ≡ None
last_good f [] last none = (none_after (f last) [] none).0
last_good f (r ∷ front) last none = last_good f front last (none_after (f r) (map f (front ++ last ∷ [])) none).1

abbrev heap : Row
heap = row HEAP_SIZE 4 (λ _. true) WrongField

room_of : (file : List ℕ) (place : ℕ) → row_fault file place heap ≡ None → place + 172 ≤ length file
room_of file place none = by_end (ltb (length file) (place + HEAP_SIZE + 4)) refl none
  where
    by_end : (b : Bool) → ltb (length file) (place + HEAP_SIZE + 4) ≡ b → cond b (Some (fault Short (place + HEAP_SIZE))) None ≡ None → place + 172 ≤ length file
    by_end true e is = absurd cc
    by_end false e is = let long = ltb-false (length file) (place + HEAP_SIZE + 4) e in omega (arith, long)

pub room : (file : List ℕ) (place : ℕ) → fields_fault file place ≡ None → place + 172 ≤ length file
unfolding fields_fault
room file place none = room_of file place (last_good (row_fault file place) (take 44 rows) heap none)

pub room_where_good : (answer : Result (Unit {0}) LxRefusal) (file : List ℕ) (place : ℕ) → Judged as_is answer (fields_fault file place) → OnOk answer (place + 172 ≤ length file)
room_where_good (Ok done) file place good = room file place good
room_where_good (Err e) file place wrong = tt
