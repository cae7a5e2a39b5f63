-- The fixup page table, entry by entry.
use Rattle.std.proofs.Common.{◌≡◌, ℕ, zero, suc, ◌+◌, ◌<◌, ◌≤◌, Bool, true, false, cond, List, [], ◌∷◌, ◌++◌, map, Option, Some, None, Result, Ok, Err, refl, subst, ap, ◌∙◌, arith}
use Rattle.std.specs.Prelude.{IsErrAnd}
use Rattle.std.specs.List.{range_with_len}
use Rattle.lx_types.specs.declared.fail.Fail.{Fail}
use Rattle.lx_types.specs.declared.refusal.LxRefusal.{LxRefusal}
use Rattle.lx_model.specs.Reading.{first, first_of}
use Rattle.lx_model.specs.Header.{page_count}
use Rattle.lx_model.specs.FixupPages.{has_records, records_place, spans_of, span_fault, spans_fault}
use Rattle.lx_types.specs.Answers.{as_is, if_said, as_said}
use Rattle.lx_model.specs.Judging.{Judges}
use Rattle.lx_read.proofs.TableLoop.{Kept, entry_wrong, entry_read, table_read, gives_said, judged_wrong, judged_right}

-- where the records of page k begin and end, and what is wrong with the entry after its own
abbrev pub span_at : List ℕ → ℕ → ℕ × ℕ
span_at file k = (records_place file k, records_place file (k + 1))

abbrev pub next_fault : List ℕ → ℕ → Option LxRefusal
next_fault file k = span_fault file (k + 1)

-- the spans of k pages, and where the next one begins
pub record SpansKept (file : List ℕ) (k from : ℕ) (spans : List (ℕ × ℕ)) : Type 0 where
  pub kept : Kept (next_fault file) (span_at file) (page_count file) k spans
  pub place : from ≡ records_place file k
  pub first_good : span_fault file 0 ≡ None
  pub has : has_records file ≡ true

-- ---- the table

map_after : (f : ℕ → Option LxRefusal) (a n : ℕ) → map f (range_with_len (a + 1) n) ≡ map (λ k. f (k + 1)) (range_with_len a n)
map_after f a zero = refl
map_after f a (suc n) = ap (λ (xs : List (Option LxRefusal)). f (a + 1) ∷ xs) (map_after f (a + 1) n)

judged_after : (f : ℕ → Option LxRefusal) (n : ℕ) → f 0 ≡ None → first_of (n + 1) f ≡ first_of n (λ k. f (k + 1))
judged_after f n none =
    let more : n + 1 ≡ suc n = omega arith in
    ap (λ (m : ℕ). first_of m f) more ∙ ap (λ (x : Option LxRefusal). first (x ∷ map f (range_with_len 1 n))) none ∙ ap (λ (xs : List (Option LxRefusal)). first xs) (map_after f 0 n)

spans_judged : (file : List ℕ) → has_records file ≡ true → span_fault file 0 ≡ None → spans_fault file ≡ first_of (page_count file) (next_fault file)
unfolding spans_fault
spans_judged file has none = ap (λ (b : Bool). cond b (first_of (page_count file + 1) (span_fault file)) None) has ∙ judged_after (span_fault file) (page_count file) none

spans_are : (file : List ℕ) → has_records file ≡ true → spans_of file ≡ map (span_at file) (range_with_len 0 (page_count file))
unfolding spans_of
spans_are file has = ap (λ (b : Bool). map (λ k. cond b (span_at file k) (0, 0)) (range_with_len 0 (page_count file))) has

pub first_wrong : (file : List ℕ) (e : LxRefusal) → has_records file ≡ true → span_fault file 0 ≡ Some e → spans_fault file ≡ Some e
unfolding spans_fault
first_wrong file e has wrong =
    let more : page_count file + 1 ≡ suc (page_count file) = omega arith in
    ap (λ (b : Bool). cond b (first_of (page_count file + 1) (span_fault file)) None) has
    ∙ ap (λ (m : ℕ). first_of m (span_fault file)) more ∙ ap (λ (x : Option LxRefusal). first (x ∷ map (span_fault file) (range_with_len 1 (page_count file)))) wrong

pub no_records : (file : List ℕ) → has_records file ≡ false → (spans_fault file ≡ None) × (spans_of file ≡ map (λ _. (0, 0)) (range_with_len 0 (page_count file)))
unfolding spans_fault spans_of
no_records file has = (
  ap (λ (b : Bool). cond b (first_of (page_count file + 1) (span_fault file)) None) has,
  ap (λ (b : Bool). map (λ k. cond b (span_at file k) (0, 0)) (range_with_len 0 (page_count file))) has,
)

-- ---- whether there is a table

pub has_table : (file : List ℕ) (there : Bool) (place at : ℕ) → cond there (Some place) None ≡ Some at → there ≡ true
has_table file true place at is = refl
has_table file false place at is = absurd cc

pub has_none : (file : List ℕ) (there : Bool) (place : ℕ) → cond there (Some place) None ≡ None → there ≡ false
has_none file true place is = absurd cc
has_none file false place is = refl

-- ---- the loop

pub span_wrong : (file : List ℕ) (k from : ℕ) (spans : List (ℕ × ℕ)) (judged : Result ℕ LxRefusal) (h : Fail LxRefusal) (answer : Result (List (ℕ × ℕ)) (Fail LxRefusal)) →
    k < page_count file → Judges as_is judged (records_place file (k + 1)) (next_fault file k) → Err h ≡ as_said judged → IsErrAnd answer (λ x. x ≡ h) → SpansKept file k from spans → Judges if_said answer (spans_of file) (spans_fault file)
span_wrong file k from spans judged h answer lt j is answered kept =
    let wrong = judged_wrong judged (records_place file (k + 1)) (next_fault file k) h j is in
    entry_wrong (next_fault file) (span_at file) (page_count file) k spans (Err wrong.0) h answer (spans_of file) (spans_fault file) (spans_judged file kept.has kept.first_good) lt wrong.2 (let same = wrong.1 in cc) answered kept.kept

pub span_read : (file : List ℕ) (k from to : ℕ) (spans pushed : List (ℕ × ℕ)) (judged : Result ℕ LxRefusal) →
    k < page_count file → Judges as_is judged (records_place file (k + 1)) (next_fault file k) → Ok to ≡ as_said judged → pushed ≡ spans ++ (from, to) ∷ [] → SpansKept file k from spans → SpansKept file (k + 1) to pushed
span_read file k from to spans pushed judged lt j is push kept =
    let right = judged_right judged (records_place file (k + 1)) to (next_fault file k) j is in
    let span : (from, to) ≡ span_at file k = (let a = kept.place in let b = right.1 in cc) in
    record {
      kept = entry_read (next_fault file) (span_at file) (page_count file) k spans pushed (Ok (from, to)) (from, to) lt (right.0, span) refl push kept.kept;
      place = right.1;
      first_good = kept.first_good;
      has = kept.has;
    }

pub spans_read : (file : List ℕ) (k from : ℕ) (spans : List (ℕ × ℕ)) → page_count file ≤ k → SpansKept file k from spans → (spans_fault file ≡ None) × (spans ≡ spans_of file)
spans_read file k from spans ended kept =
    table_read (next_fault file) (span_at file) (page_count file) k spans (spans_of file) (spans_fault file) (spans_judged file kept.has kept.first_good) (spans_are file kept.has) ended kept.kept

pub start_wrong : (file : List ℕ) (judged : Result ℕ LxRefusal) (h : Fail LxRefusal) (answer : Result (List (ℕ × ℕ)) (Fail LxRefusal)) →
    has_records file ≡ true → Judges as_is judged (records_place file 0) (span_fault file 0) → Err h ≡ as_said judged → IsErrAnd answer (λ x. x ≡ h) → Judges if_said answer (spans_of file) (spans_fault file)
start_wrong file judged h answer has j is answered =
    let wrong = judged_wrong judged (records_place file 0) (span_fault file 0) h j is in
    gives_said answer (spans_of file) (spans_fault file) wrong.0 (subst (λ (x : Fail LxRefusal). IsErrAnd answer (λ y. y ≡ x)) wrong.1 answered) (first_wrong file wrong.0 has wrong.2)
