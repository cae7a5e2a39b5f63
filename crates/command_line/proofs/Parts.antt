-- What stands before the first element that passes, and after the last one.
use Rattle.std.proofs.Common.{◌≡◌, ℕ, ◌-◌, ◌<◌, ◌≤◌, min, codes, Bool, true, false, List, length, take, drop, Option, Some, None, ◌∙◌, ap, sym, refl, arith, nat_lt, slice_index}
use Rattle.std.specs.Prelude.{◌==◌, not, if◌then◌else◌}
use Rattle.std.specs.List.{after_last, before_first, position, position_or_len, suffix_len}
use Rattle.std.proofs.lemmas.List.{take_all, take_min}
use Rattle.lx_types.specs.Names.{uppercase}
use Rattle.answer_model.specs.Stem.{stem_of, stem_part}
use Rattle.std.proofs.lemmas.List.Sums.{suffix_len_is}
use Rattle.std.proofs.lemmas.Bool.{ltb-false}

some_is : (b : Bool) (n i : ℕ) → (if b then Some n else None) ≡ Some i → n ≡ i
some_is true n i same = cc
some_is false n i same = absurd cc

none_is : (b : Bool) (n : ℕ) → (if b then Some n else None) ≡ None → b ≡ false
none_is true n same = absurd cc
none_is false n same = refl

pub before_some : {X : Type 0} (p : X → Bool) (xs : List X) (i : ℕ) → position p xs ≡ Some i → take i xs ≡ before_first p xs
before_some p xs i is = ap (λ n. take n xs) (sym (some_is (nat_lt (position_or_len p xs) (length xs)) (position_or_len p xs) i is))

pub before_none : {X : Type 0} (p : X → Bool) (xs : List X) → position p xs ≡ None → xs ≡ before_first p xs
before_none p xs is = sym (take_all _ xs (ltb-false (position_or_len p xs) (length xs) (none_is (nat_lt (position_or_len p xs) (length xs)) (position_or_len p xs) is)))

-- No element from a place on passes.
abbrev pub NoneFrom : ℕ → ℕ → List ℕ → Type 0
NoneFrom byte start xs = (k : ℕ) → start ≤ k → k < length xs → (slice_index xs k == byte) ≡ false

pub later_last : (byte start : ℕ) (xs : List ℕ) → start ≤ length xs → NoneFrom byte start xs → (0 < start → (slice_index xs (start - 1) == byte) ≡ true) → drop start xs ≡ after_last (λ x. x == byte) xs
later_last byte start xs within none stops =
    let size : suffix_len (λ x. not (x == byte)) xs ≡ length xs - start =
    suffix_len_is (λ x. not (x == byte)) xs start 0 within (λ k from under. ap not (none k from under)) (λ some. ap not (stops some)) in
    ap (λ n. drop n xs) (omega (arith, size, within))

-- A stem that is not empty, cut and in upper case.
pub upper_stem : (path part : List ℕ) (n : ℕ) → part ≡ stem_part path → (length part == 0) ≡ false → n ≡ min (length part) 255 → uppercase (take n part) ≡ stem_of path
upper_stem path part n part_is some n_is =
    let cut : take n part ≡ take 255 (stem_part path) = ap (λ k. take k part) (n_is ∙ swap (length part) 255) ∙ take_min 255 part ∙ ap (λ l. take 255 l) part_is in
    let long : (length (stem_part path) == 0) ≡ false = sym (ap (λ l. length l == 0) part_is) ∙ some in
    ap (λ l. uppercase l) cut ∙ sym (ap (λ b. if b then codes "MODULE" else uppercase (take 255 (stem_part path))) long)
  where
    swap : (a b : ℕ) → min a b ≡ min b a
    swap a b = omega arith
