-- The offsets of names lie in their table.
use Rattle.std.specs.Prelude.{◌≡◌, ℕ, ◌+◌, ◌<◌, ◌^◌, List, [], ◌∷◌, length, sum_by, refl}
use Rattle.std.specs.List.{flat_map}
use Rattle.std.proofs.Common.{ap, sym, ◌∙◌, arith, length-append}
use Rattle.std.proofs.lemmas.List.Sums.{sum_by-cons, sum_by-take-le}
use Rattle.std.proofs.lemmas.List.Concat.{flat_map-cons}
use Rattle.link_model.specs.ImportTables.{name_bytes, name_table, name_offset}

abbrev len : List ℕ → ℕ
len name = 1 + length name

names_long : (names : List (List ℕ)) → length (flat_map name_bytes names) ≡ sum_by len names
names_long [] = refl
names_long (n ∷ names) =
    let first : length (name_bytes n) ≡ 1 + length n = omega arith in
    let rest = names_long names in
    ap length (flat_map-cons name_bytes n names) ∙ length-append (name_bytes n) (flat_map name_bytes names) ∙ (omega (arith, first, rest)) ∙ sym (sum_by-cons len n names)

pub offset-small : (names : List (List ℕ)) (k : ℕ) → length (name_table names) < 2 ^ 32 → name_offset names k < 2 ^ 32
offset-small names k short =
    let long = names_long names in
    let part = sum_by-take-le len names k in
    omega (arith, long, part, short)
