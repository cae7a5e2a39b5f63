-- A module that was read has few objects.
use Rattle.std.proofs.Common.{◌≡◌, ℕ, zero, suc, leb, Option, Some, ◌≤◌, List, [], ◌∷◌, length, map, get_or, None, refl, ap, ◌∙◌, arith}
use Rattle.std.proofs.lemmas.List.FromFn.{length-map-range_with_len}
use Rattle.lx_types.specs.declared.parts.Parts.{Parts}
use Rattle.std.proofs.lemmas.Bool.Decides.{nat_tests}
use Rattle.lx_types.specs.declared.refusal.LxRefusal.{LxRefusal}
use Rattle.lx_types.specs.declared.refusal.LxKind.TheVariants as kinds
use Rattle.lx_model.specs.Reading.{first}
use Rattle.lx_model.specs.Header.{header_place, place_fault, row, row_fault, rows, header_fault, field, object_count}
use Rattle.lx_types.specs.declared.limits.TheConstants.{MAX_OBJECTS}
use Rattle.lx_model.specs.declared.header_fields.TheConstants.{OBJECT_COUNT}
use Rattle.lx_model.specs.Tables.{object_entry, object_place, objects_of}
use Rattle.lx_model.specs.Module.{IsRead, LxFault, parts_of}
use Rattle.lx_model.proofs.Firsts.{then_none}

first-at : (xs : List (Option LxRefusal)) (i : ℕ) → first xs ≡ None → get_or xs i None ≡ None
first-at [] i h = refl
first-at (None ∷ xs) zero h = refl
first-at (None ∷ xs) (suc i) h = first-at xs i h
first-at (Some e ∷ xs) i h = absurd cc

row-good : (file : List ℕ) → LxFault file ≡ None → (i : ℕ) → get_or (map (row_fault file (header_place file)) rows) i None ≡ None
unfolding LxFault header_fault
row-good file e i = first-at (map (row_fault file (header_place file)) rows) i (then_none (place_fault file) _ (then_none (header_fault file) _ e).0).1

count-fits : (file : List ℕ) → row_fault file (header_place file) (row OBJECT_COUNT 4 (λ v. leb v MAX_OBJECTS) kinds.TooMany) ≡ None → field file OBJECT_COUNT ≤ 1024
unfolding field
count-fits file h = grind (arith, nat_tests)

pub few-objects : (m : Parts) → IsRead m → length m.objects ≤ 1024
unfolding parts_of objects_of
few-objects m read =
    let count : length m.objects ≡ object_count m.file =
    ap (λ (x : Parts). length x.objects) read.means.parts
    ∙ length-map-range_with_len (λ k. object_entry m.file (object_place m.file k)) 0 (object_count m.file) in
    let few = count-fits m.file (row-good m.file read.means.faultless 19) in
    omega (arith, count, few)
