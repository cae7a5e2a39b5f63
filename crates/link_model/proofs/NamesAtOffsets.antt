-- In the table of procedure names each name stands at its offset.
use Rattle.std.specs.Prelude.{◌≡◌, ℕ, zero, suc, ◌+◌, List, [], ◌∷◌, ◌++◌, Option, Some, length, take, drop, slice_get, is_some, unwrap_or, sum_by}
use Rattle.std.specs.List.{flat_map}
use Rattle.std.proofs.Common.{ap, sym, ◌∙◌, arith, true≢false}
use Rattle.std.proofs.Math.Seq.{drop-append-add}
use Rattle.std.proofs.lemmas.List.Sums.{sum_by-append}
use Rattle.link_model.specs.ImportTables.{name_bytes, name_table, name_offset, NamesAtOffsets}

abbrev bytes_of : List ℕ → ℕ
bytes_of name = 1 + length name

name_at : (names : List (List ℕ)) (k : ℕ) (name : List ℕ) → slice_get names k ≡ Some name → drop (sum_by bytes_of (take k names)) (flat_map name_bytes names) ≡ name_bytes name ++ flat_map name_bytes (drop (suc k) names)
name_at [] k name e = absurd (true≢false (sym (ap is_some e)))
name_at (x ∷ names) zero name e = ap (λ (o : Option (List ℕ)). name_bytes (unwrap_or o name) ++ flat_map name_bytes names) e
name_at (x ∷ names) (suc k) name e =
    let sum = sum_by-append bytes_of (x ∷ []) (take k names) in
    let past : sum_by bytes_of (x ∷ take k names) ≡ length (name_bytes x) + sum_by bytes_of (take k names) = omega (arith, sum) in
    ap (λ (n : ℕ). drop n (name_bytes x ++ flat_map name_bytes names)) past ∙ (drop-append-add (name_bytes x) (flat_map name_bytes names) (sum_by bytes_of (take k names)) ∙ name_at names k name e)

pub names_at_offsets : NamesAtOffsets
names_at_offsets names k name e =
    let after : name_offset names k ≡ suc (sum_by bytes_of (take k names)) = omega arith in
    ap (λ (n : ℕ). drop n (name_table names)) after ∙ name_at names k name e
