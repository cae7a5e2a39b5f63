-- Numbers at places, as the kit reads them and as the definitions do.
use Rattle.std.proofs.Common.{◌≡◌, ℕ, zero, suc, ◌+◌, ◌*◌, ◌-◌, ◌<◌, ◌≤◌, List, length, take, drop, map, refl, sym, ap, ◌∙◌, get_or, drop-cons, add-zero, arith}
use Rattle.std.specs.List.{range_with_len, slice_range}
use Rattle.std.proofs.lemmas.List.{get_or-drop, get_or-take}
use Rattle.byteorder.specs.Endian.{little_from, IsRead, little_number}
use Rattle.lx_model.specs.Reading.{number_at}
use Rattle.lx_model.specs.Header.{header_place, header_fields, field}
use Rattle.lx_head.specs.Reading.{doublewords_at}
use Rattle.std.proofs.lemmas.Grind.{same_number_lists}
use Rattle.std.proofs.lemmas.List.FromFn.{get_or-map-range_with_len, length-map-range_with_len}

-- n bytes from a place on that are the same spell the same number
same_bytes : (n i j : ℕ) (xs ys : List ℕ) → ((m : ℕ) → m < n → get_or xs (i + m) 0 ≡ get_or ys (j + m) 0) → little_from i n xs ≡ little_from j n ys
same_bytes zero i j xs ys same = refl
same_bytes (suc n) i j xs ys same =
    let here : get_or xs i 0 ≡ get_or ys j 0 = ap (λ (k : ℕ). get_or xs k 0) (sym (add-zero i)) ∙ same 0 (omega arith) ∙ ap (λ (k : ℕ). get_or ys k 0) (add-zero j) in
    let rest = same_bytes n (suc i) (suc j) xs ys (λ m lt. ap (λ (k : ℕ). get_or xs k 0) (one_on i m) ∙ same (suc m) (omega arith) ∙ ap (λ (k : ℕ). get_or ys k 0) (sym (one_on j m))) in
    rw (here, rest) refl
  where
    one_on : (a m : ℕ) → suc a + m ≡ a + suc m
    one_on a m = omega arith

pub number_from : (n i : ℕ) (xs : List ℕ) → i + n ≤ length xs → little_from i n xs ≡ number_at n xs i
number_from zero i xs room = refl
number_from (suc n) i xs room =
    let lt : i < length xs = omega arith in
    let rest = number_from n (suc i) xs (omega arith) in
    rw (drop-cons xs i 0, rest) refl

-- the number k of a part of a file
pub part_number : (file : List ℕ) (place len k : ℕ) → place + len ≤ length file → 4 * k + 4 ≤ len → little_number 4 (drop (4 * k) (slice_range file place (place + len))) ≡ number_at 4 file (place + 4 * k)
part_number file place len k room within = same_bytes 4 0 (place + 4 * k) (drop (4 * k) (slice_range file place (place + len))) file byte ∙ number_from 4 (place + 4 * k) file (omega arith)
  where
    byte : (m : ℕ) → m < 4 → get_or (drop (4 * k) (slice_range file place (place + len))) (0 + m) 0 ≡ get_or file (place + 4 * k + m) 0
    byte m lt =
        let in_part = get_or-drop (4 * k) (slice_range file place (place + len)) (0 + m) 0 in
        let taken : get_or (take (place + len - place) (drop place file)) (4 * k + (0 + m)) 0 ≡ get_or (drop place file) (4 * k + (0 + m)) 0 = get_or-take (place + len - place) (drop place file) (4 * k + (0 + m)) 0 (omega arith) in
        let dropped = get_or-drop place file (4 * k + (0 + m)) 0 in
        let at : place + (4 * k + (0 + m)) ≡ place + 4 * k + m = omega arith in
        in_part ∙ taken ∙ dropped ∙ ap (λ (n : ℕ). get_or file n 0) at

-- the doublewords of a part are those of the file
pub all_numbers : (file dst : List ℕ) (place : ℕ) → place + 172 ≤ length file → length dst ≡ 43 → IsRead little_number 4 (slice_range file place (place + 172)) dst → dst ≡ doublewords_at file place
unfolding doublewords_at
all_numbers file dst place room count read = same_number_lists dst (map (λ k. number_at 4 file (place + 4 * k)) (range_with_len 0 43)) (count ∙ sym (length-map-range_with_len (λ k. number_at 4 file (place + 4 * k)) 0 43)) each
  where
    each : (k : ℕ) → k < length dst → get_or dst k 0 ≡ get_or (map (λ j. number_at 4 file (place + 4 * j)) (range_with_len 0 43)) k 0
    each k lt = read k lt ∙ part_number file place 172 k room (omega arith) ∙ sym (get_or-map-range_with_len (λ j. number_at 4 file (place + 4 * j)) 0 43 k k 0 (omega arith) (omega arith))

-- the header's fields are the doublewords at its place
pub header_numbers : (file : List ℕ) (place : ℕ) → place ≡ header_place file → doublewords_at file place ≡ header_fields file
unfolding doublewords_at field
header_numbers file place at = rw at refl
