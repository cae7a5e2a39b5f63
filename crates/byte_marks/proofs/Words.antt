-- Bits of a word and of a page of words.
use Rattle.std.proofs.Common.{◌≡◌, ◌≢◌, ℕ, ◌+◌, ◌-◌, ◌*◌, ◌/◌, ◌%◌, ◌^◌, ◌<◌, ◌≤◌, Bool, true, false, List, length, replicate, min, max, bit_and, bit_or, refl, sym, ap, ◌∙◌, arith, inl, inr}
use Rattle.std.specs.Prelude.{◌||◌, ◌&&◌, ◌==◌, slice_index, slice_set}
use Rattle.std.specs.Int.{bit_at, trailing_zeros, w64}
use Rattle.std.proofs.lemmas.Nat.{and_le_l}
use Rattle.std.proofs.lemmas.Nat.Bits.{bit_at-zero, bit_at_and, bit_at_or, bit_at-lt, bit_at_ones, bit_at_ones_above, bit_at_mask_inside, bit_at_mask_below, bit_at-trailing_zeros, ones_shr, ones_shl}
use Rattle.std.proofs.lemmas.Bool.{eqb-true, eq-eqb}
use Rattle.std.proofs.lemmas.Bool.Decides.{nat_tests, leb_tells, eqb_tells}
use Rattle.std.proofs.lemmas.List.{get_or-replicate, get_or_past, get_or-set_other, length-replicate}
use Rattle.std.proofs.lemmas.Grind.{get_or-set_at}
use Rattle.byte_marks.specs.Bits.{HasBit, is_bit, is_from, is_set}
use Rattle.byte_marks.proofs.Tests.{among, is_among}

-- ---- a word

masked : (from past i : ℕ) → from < past → past ≤ 64 → (min (bit_at (2 ^ past - 1) i) (bit_at (2 ^ 64 - 2 ^ from) i) == 1) ≡ is_from from past i
masked from past i some fits =
    elim (leb_tells from i) [
      | inl least ↦
          elim (leb_tells (1 + i) past) [
            | inl below ↦
                let low : bit_at (2 ^ past - 1) i ≡ 1 = bit_at_ones past i (let b = below.1 in omega arith) in
                let high : bit_at (2 ^ 64 - 2 ^ from) i ≡ 1 = bit_at_mask_inside from 64 i least.1 (let b = below.1 in omega arith) in
                ap (λ n. n == 1) (λ j. min (low j) (high j)) ∙ sym (is_among from past i least.1 (let b = below.1 in omega arith))
            | inr after ↦
                let low : bit_at (2 ^ past - 1) i ≡ 0 = bit_at_ones_above past i (let b = after.1 in omega arith) in
                let none : min (bit_at (2 ^ past - 1) i) (bit_at (2 ^ 64 - 2 ^ from) i) ≡ 0 = omega (arith, low) in
                let out : is_from from past i ≡ false = let b = after.1 in grind (arith, nat_tests) in
                ap (λ n. n == 1) none ∙ sym out
          ]
      | inr before ↦
          let high : bit_at (2 ^ 64 - 2 ^ from) i ≡ 0 = bit_at_mask_below from 64 i before.1 in
          let none : min (bit_at (2 ^ past - 1) i) (bit_at (2 ^ 64 - 2 ^ from) i) ≡ 0 = omega (arith, high) in
          let out : is_from from past i ≡ false = let b = before.1 in grind (arith, nat_tests) in
          ap (λ n. n == 1) none ∙ sym out
    ]

-- the mask has the bits from one up to another
pub ones-bits : (from past : ℕ) → from < past → past ≤ 64 → (i : ℕ) → is_bit (bit_and (18446744073709551615 / 2 ^ (64 - past)) (18446744073709551615 * 2 ^ from % 18446744073709551616)) i ≡ is_from from past i
ones-bits from past some fits i =
    let short : 64 - (64 - past) ≡ past = omega arith in
    let low : 18446744073709551615 / 2 ^ (64 - past) ≡ 2 ^ past - 1 = ones_shr 64 (64 - past) (omega arith) ∙ ap (λ n. 2 ^ n - 1) short in
    let high : 18446744073709551615 * 2 ^ from % 18446744073709551616 ≡ 2 ^ 64 - 2 ^ from = ones_shl 64 from (omega arith) in
    ap (λ n. n == 1) (bit_at_and (18446744073709551615 / 2 ^ (64 - past)) (18446744073709551615 * 2 ^ from % 18446744073709551616) i ∙ (λ j. min (bit_at (low j) i) (bit_at (high j) i)))
    ∙ masked from past i some fits

-- a word and a mask have a bit in common
pub common-bit : (word mask from past : ℕ) → word < 2 ^ 64 → ((i : ℕ) → is_bit mask i ≡ is_from from past i) → bit_and word mask ≢ 0 → HasBit (is_bit word) from past
common-bit word mask from past fits bits some =
    let n = bit_and word mask in
    let z = trailing_zeros w64 n in
    let small : n < 2 ^ 64 = omega (arith, and_le_l word mask) in
    let there = bit_at-trailing_zeros w64 n (omega (arith, some)) small in
    let one : min (bit_at word z) (bit_at mask z) ≡ 1 = sym (bit_at_and word mask z) ∙ there.1 in
    let own : bit_at word z ≡ 1 = omega (arith, one, bit_at-lt word z) in
    let its : bit_at mask z ≡ 1 = omega (arith, one, bit_at-lt mask z) in
    let within = among from past z (sym (bits z) ∙ eq-eqb _ _ its) in
    record { place = z; least = within.0; below = within.1; passes = eq-eqb _ _ own }

pub has-common : (word mask from past : ℕ) → ((i : ℕ) → is_bit mask i ≡ is_from from past i) → HasBit (is_bit word) from past → bit_and word mask ≢ 0
has-common word mask from past bits has none =
    let z = has.place in
    let own : bit_at word z ≡ 1 = eqb-true _ _ has.passes in
    let its : bit_at mask z ≡ 1 = eqb-true _ _ (bits z ∙ is_among from past z has.least has.below) in
    let one : bit_at (bit_and word mask) z ≡ 1 = bit_at_and word mask z ∙ (λ j. min (own j) (its j)) in
    let zero : bit_at (bit_and word mask) z ≡ 0 = ap (λ n. bit_at n z) none ∙ bit_at-zero z in
    omega (arith, one, zero)

joined : (a b : ℕ) → a < 2 → b < 2 → (max a b == 1) ≡ (a == 1 || b == 1)
joined a b p q = grind (arith, nat_tests)

pub with-bits : (word mask from past : ℕ) → ((i : ℕ) → is_bit mask i ≡ is_from from past i) → (i : ℕ) → is_bit (bit_or word mask) i ≡ (is_bit word i || is_from from past i)
with-bits word mask from past bits i =
    ap (λ n. n == 1) (bit_at_or word mask i) ∙ joined (bit_at word i) (bit_at mask i) (bit_at-lt word i) (bit_at-lt mask i) ∙ ap (λ (b : Bool). is_bit word i || b) (bits i)

-- ---- a page

no-word : (k : ℕ) → slice_index (replicate 64 0) k ≡ 0
no-word k =
    elim (leb_tells (1 + k) 64) [
      | inl h ↦ get_or-replicate 64 k 0 0 (let p = h.1 in omega arith)
      | inr h ↦ get_or_past (replicate 64 0) k 0 (let p = h.1 in let zeros : List ℕ = replicate 64 0 in let all : length zeros ≡ 64 = length-replicate {A = ℕ} 64 0 in omega (arith, all))
    ]

pub fresh : (x : ℕ) → is_set (replicate 64 0) x ≡ false
fresh x = ap (λ n. bit_at n (x % 64) == 1) (no-word (x / 64)) ∙ ap (λ n. n == 1) (bit_at-zero (x % 64))

-- the bits of a word are some of its page
pub word-of_page : (words : List ℕ) (k i : ℕ) → i < 64 → is_set words (k * 64 + i) ≡ is_bit (slice_index words k) i
word-of_page words k i small =
    let at : (k * 64 + i) / 64 ≡ k = omega arith in
    let bit : (k * 64 + i) % 64 ≡ i = omega arith in
    λ j. is_bit (slice_index words (at j)) (bit j)

same-word : (words : List ℕ) (k x from past : ℕ) (word : ℕ) → k < length words → ((i : ℕ) → is_bit word i ≡ (is_bit (slice_index words k) i || is_from from past i))
    → x / 64 ≡ k → is_set (slice_set words k word) x ≡ (is_set words x || (true && is_from from past (x % 64)))
same-word words k x from past word within bits here =
    ap (λ n. is_bit n (x % 64)) (get_or-set_at words k (x / 64) word 0 here within) ∙ bits (x % 64) ∙ ap (λ n. is_bit (slice_index words n) (x % 64) || is_from from past (x % 64)) (sym here)

-- a word more of it
pub word-marked : (words : List ℕ) (k from past word : ℕ) → k < length words → ((i : ℕ) → is_bit word i ≡ (is_bit (slice_index words k) i || is_from from past i))
    → (x : ℕ) → is_set (slice_set words k word) x ≡ (is_set words x || (x / 64 == k && is_from from past (x % 64)))
word-marked words k from past word within bits x =
    elim (eqb_tells (x / 64) k) [
      | inl h ↦ same-word words k x from past word within bits h.1 ∙ ap (λ (b : Bool). is_set words x || (b && is_from from past (x % 64))) (sym h.0)
      | inr h ↦ ap (λ n. is_bit n (x % 64)) (get_or-set_other words k (x / 64) word 0 h.1) ∙ or-nothing (is_set words x) ∙ ap (λ (b : Bool). is_set words x || (b && is_from from past (x % 64))) (sym h.0)
    ]
  where
    or-nothing : (a : Bool) → a ≡ (a || false)
    or-nothing true = refl
    or-nothing false = refl
