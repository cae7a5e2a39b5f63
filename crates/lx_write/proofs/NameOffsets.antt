-- The offsets of names, one after another.
use Rattle.std.proofs.Common.{◌≡◌, ℕ, suc, ◌+◌, ◌<◌, ◌≤◌, List, [], ◌∷◌, ◌++◌, length, map, take, drop, append-nil, refl, sym, ap, ◌∙◌, arith}
use Rattle.std.specs.Prelude.{slice_index, sum_by}
use Rattle.std.specs.List.{range_with_len}
use Rattle.std.proofs.lemmas.List.{drop_all}
use Rattle.std.proofs.lemmas.List.Sums.{sum_by-cons}
use Rattle.std.proofs.lemmas.List.FromFn.{get_or-map-range_with_len}
use Rattle.link_model.specs.ImportTables.{name_offset}

abbrev pub offsets_from : ℕ → List (List ℕ) → List ℕ
offsets_from at [] = []
offsets_from at (n ∷ ns) = at ∷ offsets_from (at + (1 + length n)) ns

abbrev len : List ℕ → ℕ
len n = 1 + length n

offsets_are : (names : List (List ℕ)) (at k : ℕ) (f : ℕ → ℕ) → ((j : ℕ) → f (k + j) ≡ at + sum_by len (take j names)) → offsets_from at names ≡ map f (range_with_len k (length names))
offsets_are [] at k f is = refl
offsets_are (n ∷ ns) at k f is =
    let here : f k ≡ at = ap f (let e : k ≡ k + 0 = omega arith in e) ∙ is 0 ∙ (omega arith) in
    let after : offsets_from (at + (1 + length n)) ns ≡ map f (range_with_len (k + 1) (length ns)) =
    offsets_are ns (at + (1 + length n)) (k + 1) f (λ j. ap f (let e : k + 1 + j ≡ k + suc j = omega arith in e) ∙ is (suc j) ∙ (let s : sum_by len (take (suc j) (n ∷ ns)) ≡ (1 + length n) + sum_by len (take j ns) = sum_by-cons len n (take j ns) in omega (arith, s))) in
    rw (here, after) refl

pub offsets_whole : (names : List (List ℕ)) → offsets_from 1 names ≡ map (name_offset names) (range_with_len 0 (length names))
offsets_whole names = offsets_are names 1 0 (name_offset names) (λ j. ap (name_offset names) (let e : 0 + j ≡ j = omega arith in e))

pub offsets_ended : (written : List ℕ) (names : List (List ℕ)) (at i : ℕ) → length names ≤ i → written ++ offsets_from at (drop i names) ≡ offsets_from 1 names → written ≡ offsets_from 1 names
offsets_ended written names at i end is = sym (append-nil written) ∙ ap (λ ns. written ++ offsets_from at ns) (sym (drop_all i names end)) ∙ is

-- the offset at a name's place
pub offset_at : (names : List (List ℕ)) (offsets : List ℕ) (k : ℕ) → offsets ≡ map (name_offset names) (range_with_len 0 (length names)) → k < length names → slice_index offsets k ≡ name_offset names k
offset_at names offsets k are there = ap (λ os. slice_index os k) are ∙ get_or-map-range_with_len (name_offset names) 0 (length names) k k _ there (omega arith)
