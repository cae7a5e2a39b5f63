-- A search among entries whose ordinals rise.
use Rattle.std.proofs.Common.{◌≡◌, ℕ, ◌≤◌, List, length, get_or, Result, Ok, Err, refl, sym, ap, arith}
use Rattle.std.specs.Prelude.{is_ok, is_some}
use Rattle.std.specs.List.Sorted.{IsSearchInRange, IsBinarySearchResult, IsNonDecreasingBy}
use Rattle.std.specs.Ordering.{nat_cmp, ordering_index}
use Rattle.std.proofs.lemmas.Cmp.{ranked}
use Rattle.std.proofs.lemmas.List.Sorted.{IsNonDecreasingBy-from_default}
use Rattle.std.proofs.lemmas.Bool.Decides.{nat_tests}
use Rattle.lx_types.specs.declared.entry.EntryHead.TheVariants.{At}
use Rattle.lx_types.specs.Parts.{entry_of}
use Rattle.lx_types.proofs.Ordinals.{Entry, Rising, Narrowed, entry_found, entry_lacks}

-- any entry, where a read wants one
abbrev other : Entry
other = (0, At 0 0)

module _ (es : List Entry) (rising : Rising es) (ordinal : ℕ) where
  comparisons_rise : IsNonDecreasingBy (λ e. ordering_index (nat_cmp e.0 ordinal)) es
  comparisons_rise = IsNonDecreasingBy-from_default (λ e. ordering_index (nat_cmp e.0 ordinal)) es other (λ i j le in_range.
      let rise : (get_or es i other).0 ≤ (get_or es j other).0 = grind (arith, rising i j other, λ (same : i ≡ j). ap (λ (k : ℕ). (get_or es k other).0) same) in
      grind (arith, nat_tests))

  -- a search ends at the entry of the ordinal, or where it would stand
  pub searched : (r : Result ℕ ℕ) → IsSearchInRange r (length es) → IsBinarySearchResult (λ e. nat_cmp e.0 ordinal) es r → is_ok r ≡ is_some (entry_of es ordinal)
  searched (Ok at) in_range equal =
      let found = entry_found es ordinal at other rising in_range (ranked _ ordinal _ (sym (equal other))) in
      rw found refl
  searched (Err at) in_range parted =
      let narrowed : Narrowed es ordinal at at = record {
        within = in_range;
        lower = λ k d lt. ranked _ ordinal _ (sym ((parted comparisons_rise).0 k d (omega arith) lt));
        greater = λ k d from lt. ranked _ ordinal _ (sym ((parted comparisons_rise).1 k d from lt));
      } in
      let lacks = entry_lacks es ordinal at at narrowed (omega arith) in
      rw lacks refl
