-- The references of a module lie on its pieces of data in their order, and none shares a byte with another.
use Rattle.std.proofs.Common.{◌≡◌, ℕ, zero, suc, ◌+◌, ◌*◌, ◌<◌, ◌≤◌, ◌⊎◌, inl, inr, true, false, map, refl, ap, arith}
use Rattle.std.specs.Prelude.{nat_lt, nat_le}
use Rattle.std.specs.List.{AllByRecursion, AllPairs, range_with_len}
use Rattle.std.proofs.Math.ListN.{length-replicate}
use Rattle.std.proofs.Math.Bool.{and-false}
use Rattle.std.proofs.lemmas.Bool.{le-ltb, le-leb}
use Rattle.obj_types.specs.Location.{meets}
use Rattle.omf_write.specs.Writable.{LiesOn, IsOff, FollowPieces}
use Rattle.gen_model.specs.Modules.{zero_piece, reference}
use Rattle.gen_laws.proofs.WritableRanges.{each_of_numbers, pairs_of_numbers, numbers_apart}

-- ---- one reference, and one piece

abbrev Within : ℕ → ℕ → Type 0
Within j i = (1024 * j ≤ 4 * i) × (4 * i + 4 ≤ 1024 * j + 1024)

abbrev Beside : ℕ → ℕ → Type 0
Beside j i = (4 * i + 4 ≤ 1024 * j) ⊎ (1024 * j + 1024 ≤ 4 * i)

lies_on : (k j i : ℕ) → Within j i → LiesOn (zero_piece j) (reference k i)
lies_on k j i h =
    let begins : nat_le (1024 * j) (4 * i) ≡ true = le-leb _ _ h.0 in
    let ends : nat_le (4 * i + 4) (1024 * j + 1024) ≡ true = le-leb _ _ h.1 in
    rw (length-replicate {A = ℕ} 1024 0, begins, ends) refl

is_off : (k j i : ℕ) → Beside j i → IsOff (zero_piece j) (reference k i)
is_off k j i (inl before) =
    let apart : nat_lt (1024 * j) (4 * i + 4) ≡ false = le-ltb _ _ before in
    rw (length-replicate {A = ℕ} 1024 0, apart) (and-false _)
is_off k j i (inr after) =
    let apart : nat_lt (4 * i) (1024 * j + 1024) ≡ false = le-ltb _ _ after in
    rw (length-replicate {A = ℕ} 1024 0, apart) refl

no_meeting : (k i j : ℕ) → i < j → meets (reference k i) (reference k j) ≡ false
no_meeting k i j less =
    let apart : nat_lt (4 * j) (4 * i + 4) ≡ false = le-ltb _ _ (omega arith) in
    rw apart (and-false _)

-- ---- all of them, of n pieces from piece j on with c references each

pub references_follow : (k c j n first count : ℕ) → 4 * c ≡ 1024 → first ≡ c * j → count ≡ c * n
    → FollowPieces (map zero_piece (range_with_len j n)) (map (reference k) (range_with_len first count))
references_follow k c j zero first count size from all = let none : count ≡ 0 = omega arith in rw none refl
references_follow k c j (suc n) first count size from all =
    let scaled : 4 * first ≡ 1024 * j = rw from (omega (arith, ap (λ x. x * j) size)) in
    let rest : c + c * n ≡ count = omega arith in
    let next : first + c ≡ c * (j + 1) = omega arith in (
      map (reference k) (range_with_len first c),
      map (reference k) (range_with_len (first + c) (c * n)),
      numbers_apart (reference k) first c (c * n) count (first + c) rest refl,
      each_of_numbers (LiesOn (zero_piece j)) (reference k) first c (λ i low high. lies_on k j i (omega arith, omega arith)),
      each_of_numbers (IsOff (zero_piece j)) (reference k) (first + c) (c * n) (λ i low high. is_off k j i (inr (omega arith))),
      each_of_numbers (λ q. AllByRecursion (IsOff q) (map (reference k) (range_with_len first c))) zero_piece (j + 1) n
          (λ q above below. each_of_numbers (IsOff (zero_piece q)) (reference k) first c (λ i low high. is_off k q i (inl (omega arith)))),
      references_follow k c (j + 1) n (first + c) (c * n) size next refl,
    )

pub references_apart : (k n : ℕ) → AllPairs (λ f g. meets f g ≡ false) (map (reference k) (range_with_len 0 n))
references_apart k n = pairs_of_numbers (λ f g. meets f g ≡ false) (reference k) n (λ i j less within. no_meeting k i j less)
