-- Runs of numbers that pass a test, and their parts.
use Rattle.std.proofs.Common.{◌≡◌, ℕ, ◌+◌, ◌-◌, ◌*◌, ◌/◌, ◌%◌, ◌<◌, ◌≤◌, Bool, true, false, sym, ap, ◌∙◌, arith, refl, inl, inr, true≢false}
use Rattle.std.specs.Prelude.{◌||◌, ◌&&◌, ◌==◌}
use Rattle.std.proofs.lemmas.Bool.{leb-true, le-leb, ltb-true, lt-ltb, and_from, and_parts, cases_Bool}
use Rattle.std.proofs.lemmas.Bool.Decides.{nat_tests, leb_tells}
use Rattle.byte_marks.specs.Bits.{HasBit, is_from}

-- ---- numbers from one up to another

pub among : (from past i : ℕ) → is_from from past i ≡ true → (from ≤ i) × (i < past)
among from past i e = let h = and_parts _ _ e in (leb-true _ _ h.0, ltb-true _ _ h.1)

pub is_among : (from past i : ℕ) → from ≤ i → i < past → is_from from past i ≡ true
is_among from past i p q = and_from _ _ (le-leb _ _ p) (lt-ltb _ _ q)

-- a run and the part after it that lies in one block
pub run-of_words : (from at end x : ℕ) → from ≤ at → at ≤ end → end ≤ at / 64 * 64 + 64
    → (is_from from at x || (x / 64 == at / 64 && is_from (at - at / 64 * 64) (end - at / 64 * 64) (x % 64))) ≡ is_from from end x
run-of_words from at end x p q r = grind (arith, nat_tests)

pub run-of_pages : (from at end x : ℕ) → from ≤ at → at ≤ end → end ≤ at / 4096 * 4096 + 4096
    → (is_from from at x || (x / 4096 == at / 4096 && is_from (at - at / 4096 * 4096) (end - at / 4096 * 4096) (x % 4096))) ≡ is_from from end x
run-of_pages from at end x p q r = grind (arith, nat_tests)

-- ---- those that pass a test

abbrev pub NoneBetween : (ℕ → Bool) → ℕ → ℕ → Type 0
NoneBetween test from past = (x : ℕ) → from ≤ x → x < past → test x ≡ false

pub none-yet : (test : ℕ → Bool) (from : ℕ) → NoneBetween test from from
none-yet test from x p q = absurd (omega arith)

pub none-more : (test : ℕ → Bool) (from at end : ℕ) → NoneBetween test from at → NoneBetween test at end → NoneBetween test from end
none-more test from at end before after x p q =
    elim (leb_tells at x) [
      | inl h ↦ after x h.1 q
      | inr h ↦ before x p h.1
    ]

pub none-has : (test : ℕ → Bool) (from past at : ℕ) → past ≤ at → NoneBetween test from at → HasBit test from past → ⊥
none-has test from past at whole none has = true≢false (sym has.passes ∙ none has.place has.least (let b = has.below in omega arith))

pub part-has : (test : ℕ → Bool) (first from past at end : ℕ) → first ≤ at → from ≤ at → end ≤ past → HasBit (λ i. test (first + i)) (at - first) (end - first) → HasBit test from past
part-has test first from past at end p q r has =
    let least = has.least in
    let below = has.below in
    record { place = first + has.place; least = omega arith; below = omega arith; passes = has.passes }

pub part-none : (test : ℕ → Bool) (first at end : ℕ) → first ≤ at → (HasBit (λ i. test (first + i)) (at - first) (end - first) → ⊥) → NoneBetween test at end
part-none test first at end p none x least below =
    elim (cases_Bool (test x)) [
      | inl passes ↦
          let place : first + (x - first) ≡ x = omega arith in
          absurd (none (record { place = x - first; least = omega arith; below = omega arith; passes = ap test place ∙ passes }))
      | inr fails ↦ fails
    ]

pub has-alike : (p q : ℕ → Bool) (from past : ℕ) → ((i : ℕ) → i < past → p i ≡ q i) → HasBit p from past → HasBit q from past
has-alike p q from past same has = record { place = has.place; least = has.least; below = has.below; passes = sym (same has.place has.below) ∙ has.passes }

-- ---- a mark more

pub or_assoc : (a b c : Bool) → ((a || b) || c) ≡ (a || (b || c))
or_assoc true b c = refl
or_assoc false b c = refl

-- of one row
pub row-run : (a own b p q d : Bool) → (b || (p && q)) ≡ d → ((a || (own && b)) || ((own && p) && q)) ≡ (a || (own && d))
row-run true own b p q d run = refl
row-run false true b p q d run = run
row-run false false b p q d run = refl
