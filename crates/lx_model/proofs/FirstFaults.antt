-- The first fault of entries by places.
use Rattle.std.proofs.Common.{◌≡◌, ℕ, zero, suc, ◌+◌, ◌<◌, ◌≤◌, ◌⊎◌, Bool, true, false, cond, ltb, List, [], ◌∷◌, ◌++◌, length, map, Option, Some, None, refl, sym, subst, ap, ◌∙◌, arith, inl, inr}
use Rattle.std.specs.List.{range_with_len}
use Rattle.std.proofs.lemmas.Bool.{cases_lt, ltb-true, ltb-false, lt-ltb, le-ltb}
use Rattle.lx_types.specs.declared.refusal.LxRefusal.{LxRefusal}
use Rattle.lx_types.specs.declared.refusal.LxKind.TheVariants.{Short}
use Rattle.lx_model.specs.Reading.{fault, number_at, first, first_of}
use Rattle.lx_model.specs.Header.{Row, row_fault}
use Rattle.lx_model.specs.FaultLaws.{FirstOf, AllGood, RowFails}

-- ---- entries

-- the first entry with a fault, of those from a on
record FirstFrom (a n : ℕ) (f : ℕ → Option LxRefusal) (e : LxRefusal) : Type 0 where
  entry : ℕ
  low : a ≤ entry
  high : entry < a + n
  wrong : f entry ≡ Some e
  good : (k : ℕ) → a ≤ k → k < entry → f k ≡ None

later : (a n : ℕ) (f : ℕ → Option LxRefusal) (e : LxRefusal) → f a ≡ None → FirstFrom (a + 1) n f e → FirstFrom a (suc n) f e
later a n f e none g = record {
  entry = g.entry;
  low = (let low = g.low in omega (arith, low));
  high = (let high = g.high in omega (arith, high));
  wrong = g.wrong;
  good = λ k le lt. elim (cases_lt a k) [
    | inl less ↦ g.good k (omega arith) lt
    | inr ge ↦ let same : a ≡ k = omega arith in subst (λ (j : ℕ). f j ≡ None) same none
  ];
}

here : (a n : ℕ) (f : ℕ → Option LxRefusal) (e : LxRefusal) → f a ≡ Some e → FirstFrom a (suc n) f e
here a n f e some = record { entry = a; low = omega arith; high = omega arith; wrong = some; good = λ k le lt. absurd (omega arith) }

abbrev first_with : Option LxRefusal → List (Option LxRefusal) → Option LxRefusal
first_with x xs = first (x ∷ xs)

by_first : (a n : ℕ) (f : ℕ → Option LxRefusal) (e : LxRefusal) (x : Option LxRefusal) →
    f a ≡ x → (first (map f (range_with_len (a + 1) n)) ≡ Some e → FirstFrom (a + 1) n f e) → first_with x (map f (range_with_len (a + 1) n)) ≡ Some e →
    FirstFrom a (suc n) f e
by_first a n f e (Some y) is again some = here a n f e (is ∙ some)
by_first a n f e None is again some = later a n f e is (again some)

found_from : (a n : ℕ) (f : ℕ → Option LxRefusal) (e : LxRefusal) → first (map f (range_with_len a n)) ≡ Some e → FirstFrom a n f e
found_from a zero f e some = absurd cc
found_from a (suc n) f e some = by_first a n f e (f a) refl (found_from (a + 1) n f e) some

shown_from : (a n : ℕ) (f : ℕ → Option LxRefusal) (e : LxRefusal) (k : ℕ) → a ≤ k → k < a + n → f k ≡ Some e → ((j : ℕ) → a ≤ j → j < k → f j ≡ None) → first (map f (range_with_len a n)) ≡ Some e
shown_from a zero f e k low high some good = absurd (omega arith)
shown_from a (suc n) f e k low high some good = elim (cases_lt a k) [
  | inl less ↦ ap (λ (x : Option LxRefusal). first_with x (map f (range_with_len (a + 1) n))) (good a (omega arith) less) ∙ shown_from (a + 1) n f e k (omega arith) (omega arith) some (λ j le lt. good j (omega arith) lt)
  | inr ge ↦ let same : k ≡ a = omega arith in ap (λ (x : Option LxRefusal). first_with x (map f (range_with_len (a + 1) n))) (subst (λ (j : ℕ). f j ≡ Some e) same some)
]

pub first_found : (n : ℕ) (f : ℕ → Option LxRefusal) (e : LxRefusal) → first_of n f ≡ Some e → FirstOf n f e
first_found n f e some =
    let g = found_from 0 n f e some in
    let high = g.high in
    record { entry = g.entry; there = omega (arith, high); wrong = g.wrong; good = λ k lt. g.good k (omega arith) lt }

pub first_shown : (n : ℕ) (f : ℕ → Option LxRefusal) (e : LxRefusal) → FirstOf n f e → first_of n f ≡ Some e
first_shown n f e g = let there = g.there in shown_from 0 n f e g.entry (omega arith) (omega (arith, there)) g.wrong (λ j le lt. g.good j lt)

-- ---- rows of the header

abbrev Cause : List ℕ → ℕ → Row → LxRefusal → Type 0
Cause file place r e =
    ((length file < place + r.offset + r.width) × (e ≡ fault Short (place + r.offset)))
    ⊎ ((place + r.offset + r.width ≤ length file) × (r.allows (number_at r.width file (place + r.offset)) ≡ false) × (e ≡ fault r.kind (place + r.offset)))

abbrev judged : Bool → Bool → LxRefusal → LxRefusal → Option LxRefusal
judged short good a b = cond short (Some a) (cond good None (Some b))

cause_by : (file : List ℕ) (place : ℕ) (r : Row) (e : LxRefusal) (short good : Bool) → ltb (length file) (place + r.offset + r.width) ≡ short → r.allows (number_at r.width file (place + r.offset)) ≡ good →
    judged short good (fault Short (place + r.offset)) (fault r.kind (place + r.offset)) ≡ Some e → Cause file place r e
cause_by file place r e true good is allowed some = inl (ltb-true _ _ is, (let same : fault Short (place + r.offset) ≡ e = cc in sym same))
cause_by file place r e false true is allowed some = absurd cc
cause_by file place r e false false is allowed some = inr (ltb-false _ _ is, allowed, (let same : fault r.kind (place + r.offset) ≡ e = cc in sym same))

cause_of : (file : List ℕ) (place : ℕ) (r : Row) (e : LxRefusal) → row_fault file place r ≡ Some e → Cause file place r e
cause_of file place r e some = cause_by file place r e (ltb (length file) (place + r.offset + r.width)) (r.allows (number_at r.width file (place + r.offset))) refl refl some

fault_by : (file : List ℕ) (place : ℕ) (r : Row) (e : LxRefusal) → Cause file place r e → row_fault file place r ≡ Some e
fault_by file place r e (inl short) = let is = lt-ltb _ _ short.0 in let same = short.1 in rw (is, same) refl
fault_by file place r e (inr wrong) = let is = le-ltb _ _ wrong.0 in let no_ = wrong.1 in let same = wrong.2 in rw (is, no_, same) refl

row_later : (file : List ℕ) (place : ℕ) (r : Row) (rows : List Row) (e : LxRefusal) → row_fault file place r ≡ None → RowFails file place rows e → RowFails file place (r ∷ rows) e
row_later file place r rows e none g = record { before = r ∷ g.before; wrong = g.wrong; after = g.after; order = ap (λ (rs : List Row). r ∷ rs) g.order; good = (none, g.good); cause = g.cause }

row_by : (file : List ℕ) (place : ℕ) (r : Row) (rows : List Row) (e : LxRefusal) (x : Option LxRefusal) → row_fault file place r ≡ x → (first (map (row_fault file place) rows) ≡ Some e → RowFails file place rows e) →
    first_with x (map (row_fault file place) rows) ≡ Some e → RowFails file place (r ∷ rows) e
row_by file place r rows e (Some y) is again some = record { before = []; wrong = r; after = rows; order = refl; good = tt; cause = cause_of file place r e (is ∙ some) }
row_by file place r rows e None is again some = row_later file place r rows e is (again some)

pub row_found : (file : List ℕ) (place : ℕ) (rows : List Row) (e : LxRefusal) → first (map (row_fault file place) rows) ≡ Some e → RowFails file place rows e
row_found file place [] e some = absurd cc
row_found file place (r ∷ rows) e some = row_by file place r rows e (row_fault file place r) refl (row_found file place rows e) some

shown_after : (file : List ℕ) (place : ℕ) (before : List Row) (r : Row) (after : List Row) (e : LxRefusal) →
    AllGood file place before → row_fault file place r ≡ Some e → first (map (row_fault file place) (before ++ r ∷ after)) ≡ Some e
shown_after file place [] r after e good some = ap (λ (x : Option LxRefusal). first_with x (map (row_fault file place) after)) some
shown_after file place (b ∷ before) r after e good some =
    ap (λ (x : Option LxRefusal). first_with x (map (row_fault file place) (before ++ r ∷ after))) good.0 ∙ shown_after file place before r after e good.1 some

pub row_shown : (file : List ℕ) (place : ℕ) (rows : List Row) (e : LxRefusal) → RowFails file place rows e → first (map (row_fault file place) rows) ≡ Some e
row_shown file place rows e g = ap (λ (rs : List Row). first (map (row_fault file place) rs)) g.order ∙ shown_after file place g.before g.wrong g.after e g.good (fault_by file place g.wrong e g.cause)
