-- Rows of bytes.
use Rattle.std.specs.Prelude.{◌≡◌, ℕ, ◌<◌, ◌≤◌, List, map, length, take, min, slice_index}
use Rattle.std.specs.List.{range_with_len}
use Rattle.std.proofs.Common.{ap, sym, ◌∙◌, arith, get_or, inl, inr}
use Rattle.std.proofs.lemmas.Bool.{cases_lt}
use Rattle.std.proofs.lemmas.List.{get_or-take, get_or_past, length-take}
use Rattle.std.proofs.lemmas.List.FromFn.{fill_by_all}

-- A row cut to a length, or filled up to it with zeros.
pub filled :
    (held xs ys : List ℕ) (len : ℕ) → xs ≡ take (min (length held) len) held → length ys ≡ len
    → ((k : ℕ) → k < len → k < length xs → get_or ys k 0 ≡ get_or xs k 0) → ((k : ℕ) → length xs ≤ k → k < len → get_or ys k 0 ≡ 0) → ys ≡ map (slice_index held) (range_with_len 0 len)
filled held xs ys len is long kept rest =
    let n : length xs ≡ min (min (length held) len) (length held) = ap length is ∙ length-take (min (length held) len) held in
    fill_by_all (slice_index held) ys len 0 long
    (λ k h. elim (cases_lt k (length xs)) as (λ s. get_or ys k 0 ≡ get_or held k 0) [
      | inl below ↦ kept k h below ∙ ap (λ (zs : List ℕ). get_or zs k 0) is ∙ get_or-take (min (length held) len) held k 0 (omega (arith, n, below))
      | inr past ↦ rest k past h ∙ sym (get_or_past held k 0 (omega (arith, n, past, h)))
    ])

-- The same of a row whose bytes stay where they are.
pub of_len :
    (row ys : List ℕ) (len : ℕ) → length ys ≡ len → ((k : ℕ) → k < len → k < length row → get_or ys k 0 ≡ get_or row k 0)
    → ((k : ℕ) → length row ≤ k → k < len → get_or ys k 0 ≡ 0) → ys ≡ map (slice_index row) (range_with_len 0 len)
of_len row ys len long kept rest =
    fill_by_all (slice_index row) ys len 0 long
    (λ k h. elim (cases_lt k (length row)) as (λ s. get_or ys k 0 ≡ get_or row k 0) [
      | inl below ↦ kept k h below
      | inr past ↦ rest k past h ∙ sym (get_or_past row k 0 past)
    ])
