-- A table that is read entry by entry: the entries so far, and what is left.
use Rattle.std.proofs.Common.{◌≡◌, ℕ, ◌+◌, ◌*◌, ◌-◌, ◌<◌, ◌≤◌, List, [], ◌∷◌, ◌++◌, map, Option, Some, None, Result, Ok, Err, refl, sym, subst, ap, ◌∙◌, append_assoc, append-nil, arith}
use Rattle.std.specs.Prelude.{IsErrAnd}
use Rattle.std.specs.List.{range_with_len}
use Rattle.lx_types.specs.declared.fail.Fail.{Fail}
use Rattle.lx_types.specs.declared.fail.Fail.TheVariants.{Said}
use Rattle.lx_types.specs.declared.refusal.LxRefusal.{LxRefusal}
use Rattle.lx_model.specs.Reading.{first, first_of, short_at}
use Rattle.lx_model.specs.Header.{page_count, object_count}
use Rattle.lx_model.specs.Tables.{object_entry, object_place, object_fault, objects_of, objects_fault, page_entry, page_place, page_or_zero, page_fault, page_heads, pages_fault}
use Rattle.lx_types.specs.Answers.{as_is, if_said, as_said}
use Rattle.lx_model.specs.Judging.{Judged, Judges}
use Rattle.lx_entry.proofs.EntryLoop.{left_more}

-- ---- faults

-- what is wrong with all entries is wrong with those that are left
abbrev pub IsLeft : (ℕ → Option LxRefusal) → ℕ → ℕ → Type 0
IsLeft f n k = first (map f (range_with_len k (n - k))) ≡ first_of n f

pub left_start : (f : ℕ → Option LxRefusal) (n : ℕ) → IsLeft f n 0
left_start f n =
    let all : n - 0 ≡ n = omega arith in
    ap (λ (m : ℕ). first (map f (range_with_len 0 m))) all

pub left_good : (f : ℕ → Option LxRefusal) (n k : ℕ) → k < n → f k ≡ None → IsLeft f n k → IsLeft f n (k + 1)
left_good f n k lt none kept =
    let m = n - (k + 1) in
    let here : first (map f (range_with_len k (n - k))) ≡ first (None ∷ map f (range_with_len (k + 1) m)) =
    ap (λ (i : ℕ). first (map f (range_with_len k i))) (left_more n k lt) ∙ ap (λ (x : Option LxRefusal). first (x ∷ map f (range_with_len (k + 1) m))) none in
    sym here ∙ kept

pub left_wrong : (f : ℕ → Option LxRefusal) (n k : ℕ) (e : LxRefusal) → k < n → f k ≡ Some e → IsLeft f n k → first_of n f ≡ Some e
left_wrong f n k e lt some kept =
    let m = n - (k + 1) in
    sym kept ∙ ap (λ (i : ℕ). first (map f (range_with_len k i))) (left_more n k lt) ∙ ap (λ (x : Option LxRefusal). first (x ∷ map f (range_with_len (k + 1) m))) some

pub left_none : (f : ℕ → Option LxRefusal) (n k : ℕ) → n ≤ k → IsLeft f n k → first_of n f ≡ None
left_none f n k ended kept =
    let none : n - k ≡ 0 = omega arith in
    sym kept ∙ ap (λ (i : ℕ). first (map f (range_with_len k i))) none

-- ---- faults and values

-- the entries so far with those that are left are all of them, and what is wrong is wrong with those that are left
pub record Kept {X : Type 0} (f : ℕ → Option LxRefusal) (g : ℕ → X) (n k : ℕ) (before : List X) : Type 0 where
  pub items : before ++ map g (range_with_len k (n - k)) ≡ map g (range_with_len 0 n)
  pub faults : IsLeft f n k

pub kept_start : {X : Type 0} (f : ℕ → Option LxRefusal) (g : ℕ → X) (n : ℕ) → Kept f g n 0 []
kept_start f g n =
    let all : n - 0 ≡ n = omega arith in
    record { items = ap (λ (m : ℕ). map g (range_with_len 0 m)) all; faults = left_start f n }

pub kept_more : {X : Type 0} (f : ℕ → Option LxRefusal) (g : ℕ → X) (n k : ℕ) (before : List X) → k < n → f k ≡ None → Kept f g n k before → Kept f g n (k + 1) (before ++ g k ∷ [])
kept_more {X} f g n k before lt none kept =
    let items : map g (range_with_len k (n - k)) ≡ g k ∷ map g (range_with_len (k + 1) (n - (k + 1))) = ap (λ (i : ℕ). map g (range_with_len k i)) (left_more n k lt) in
    record {
      items = append_assoc before (g k ∷ []) (map g (range_with_len (k + 1) (n - (k + 1)))) ∙ ap (λ (xs : List X). before ++ xs) (sym items) ∙ kept.items;
      faults = left_good f n k lt none kept.faults;
    }

pub kept_wrong : {X : Type 0} (f : ℕ → Option LxRefusal) (g : ℕ → X) (n k : ℕ) (before : List X) (e : LxRefusal) → k < n → f k ≡ Some e → Kept f g n k before → first_of n f ≡ Some e
kept_wrong f g n k before e lt some kept = left_wrong f n k e lt some kept.faults

pub kept_end : {X : Type 0} (f : ℕ → Option LxRefusal) (g : ℕ → X) (n k : ℕ) (before : List X) → n ≤ k → Kept f g n k before → (first_of n f ≡ None) × (before ≡ map g (range_with_len 0 n))
kept_end {X} f g n k before ended kept =
    let none : n - k ≡ 0 = omega arith in
    (left_none f n k ended kept.faults, sym (append-nil before) ∙ ap (λ (i : ℕ). before ++ map g (range_with_len k i)) (sym none) ∙ kept.items)

-- so many doublewords at a place, none of which is cut off so far, or one is
pub doubleword_wrong : (answer : Result (Unit {0}) LxRefusal) (file : List ℕ) (at n k : ℕ) (e : LxRefusal) → k < n → IsErrAnd answer (λ x. x ≡ e) → short_at 4 file (at + 4 * k) ≡ Some e
    → IsLeft (λ i. short_at 4 file (at + 4 * i)) n k → Judged as_is answer (first_of n (λ i. short_at 4 file (at + 4 * i)))
doubleword_wrong (Ok x) file at n k e lt is wrong kept = absurd is
doubleword_wrong (Err x) file at n k e lt is wrong kept = left_wrong (λ i. short_at 4 file (at + 4 * i)) n k e lt wrong kept ∙ ap Some (sym is)

-- ---- what a reader of a table answers

pub judged_wrong : {X : Type 0} (judged : Result X LxRefusal) (value : X) (one : Option LxRefusal) (h : Fail LxRefusal) → Judges as_is judged value one → Err h ≡ as_said judged → (e : LxRefusal) × (h ≡ Said e) × (one ≡ Some e)
judged_wrong (Ok x) value one h j is = absurd cc
judged_wrong (Err e) value one h j is = (e, (let same : h ≡ Said e = cc in same), j)

pub judged_right : {X : Type 0} (judged : Result X LxRefusal) (value x : X) (one : Option LxRefusal) → Judges as_is judged value one → Ok x ≡ as_said judged → (one ≡ None) × (x ≡ value)
judged_right (Ok y) value x one j is = (j.0, (let same : x ≡ y = cc in same ∙ j.1))
judged_right (Err e) value x one j is = absurd cc

-- a failure that is handed on says the same
pub failed : {A : Type 0} (answer : Result A (Fail LxRefusal)) (value : A) (fault : Option LxRefusal) (f : Fail LxRefusal) → IsErrAnd answer (λ x. x ≡ f) → Judges if_said (Err f) value fault → Judges if_said answer value fault
failed (Ok x) value fault f is said = absurd is
failed (Err g) value fault f is said = subst (λ (h : Fail LxRefusal). Judges if_said (Err h) value fault) (sym is) said

-- a refusal that is handed on is the fault
pub gives_said : {A : Type 0} (answer : Result A (Fail LxRefusal)) (value : A) (fault : Option LxRefusal) (e : LxRefusal) → IsErrAnd answer (λ f. f ≡ Said e) → fault ≡ Some e → Judges if_said answer value fault
gives_said (Ok x) value fault e is wrong = absurd is
gives_said (Err f) value fault e is wrong = subst (λ (h : Fail LxRefusal). Judges if_said (Err h) value fault) (sym is) wrong

pub entry_wrong : {X : Type 0} (f : ℕ → Option LxRefusal) (g : ℕ → X) (n k : ℕ) (before : List X) (judged : Result X LxRefusal) (h : Fail LxRefusal) (answer : Result (List X) (Fail LxRefusal)) (value : List X) (fault : Option LxRefusal) →
    fault ≡ first_of n f → k < n → Judges as_is judged (g k) (f k) → Err h ≡ as_said judged → IsErrAnd answer (λ x. x ≡ h) → Kept f g n k before → Judges if_said answer value fault
entry_wrong f g n k before judged h answer value fault all lt j is answered kept =
    let wrong = judged_wrong judged (g k) (f k) h j is in
    gives_said answer value fault wrong.0 (subst (λ (x : Fail LxRefusal). IsErrAnd answer (λ y. y ≡ x)) wrong.1 answered) (all ∙ kept_wrong f g n k before wrong.0 lt wrong.2 kept)

pub entry_read : {X : Type 0} (f : ℕ → Option LxRefusal) (g : ℕ → X) (n k : ℕ) (before pushed : List X) (judged : Result X LxRefusal) (x : X) →
    k < n → Judges as_is judged (g k) (f k) → Ok x ≡ as_said judged → pushed ≡ before ++ x ∷ [] → Kept f g n k before → Kept f g n (k + 1) pushed
entry_read {X} f g n k before pushed judged x lt j is push kept =
    let right = judged_right judged (g k) x (f k) j is in
    let same : pushed ≡ before ++ g k ∷ [] = push ∙ ap (λ (y : X). before ++ y ∷ []) right.1 in
    subst (λ (xs : List X). Kept f g n (k + 1) xs) (sym same) (kept_more f g n k before lt right.0 kept)

pub table_read : {X : Type 0} (f : ℕ → Option LxRefusal) (g : ℕ → X) (n k : ℕ) (before value : List X) (fault : Option LxRefusal) →
    fault ≡ first_of n f → value ≡ map g (range_with_len 0 n) → n ≤ k → Kept f g n k before → (fault ≡ None) × (before ≡ value)
table_read f g n k before value fault faults values ended kept =
    let whole = kept_end f g n k before ended kept in
    (faults ∙ whole.0, whole.1 ∙ sym values)

-- ---- the tables

pub objects_are : (file : List ℕ) → objects_of file ≡ map (λ k. object_entry file (object_place file k)) (range_with_len 0 (object_count file))
unfolding objects_of
objects_are file = refl

pub objects_judged : (file : List ℕ) → objects_fault file ≡ first_of (object_count file) (object_fault file)
unfolding objects_fault
objects_judged file = refl

pub pages_are : (file : List ℕ) → page_heads file ≡ map (λ k. page_or_zero (page_entry file (page_place file k))) (range_with_len 0 (page_count file))
unfolding page_heads
pages_are file = refl

pub pages_judged : (file : List ℕ) → pages_fault file ≡ first_of (page_count file) (page_fault file)
unfolding pages_fault
pages_judged file = refl
