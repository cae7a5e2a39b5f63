-- A module that was read has at most 1,024 objects.
use Rattle.std.specs.Prelude.{◌≡◌, ℕ, ◌<◌, ◌≤◌, ◌^◌, Bool, true, false, cond, List, Some, None, length, is_some, refl}
use Rattle.std.proofs.Common.{ap, ◌∙◌, arith, true≢false}
use Rattle.std.proofs.lemmas.Bool.{leb-true}
use Rattle.std.proofs.lemmas.List.FromFn.{length-map-range_with_len}
use Rattle.lx_types.specs.declared.parts.Parts.{Parts}
use Rattle.lx_types.specs.declared.refusal.LxRefusal.{LxRefusal}
use Rattle.lx_model.specs.Gathering.{IsLibrary}
use Rattle.lx_model.specs.Header.{field, header_fault, header_place, object_count, place_fault, row_fault, rows}
use Rattle.lx_model.specs.Library.{module_of, no_module}
use Rattle.lx_model.specs.Module.{IsRead, LxFault, parts_of}
use Rattle.lx_model.specs.Tables.{object_entry, object_place, objects_of}
use Rattle.lx_model.proofs.Each.{each_first}
use Rattle.lx_model.proofs.Firsts.{then_none}

-- Nothing after the header is looked at.
header_is_good : (file : List ℕ) → LxFault file ≡ None → header_fault file ≡ None
unfolding LxFault
header_is_good file e = (then_none (header_fault file) _ e).0

allowed : (short allows : Bool) (a b : LxRefusal) → cond short (Some a) (cond allows None (Some b)) ≡ None → allows ≡ true
allowed true allows a b e = absurd (true≢false (ap is_some e))
allowed false true a b e = refl
allowed false false a b e = absurd (true≢false (ap is_some e))

few_counted : (file : List ℕ) → header_fault file ≡ None → object_count file ≤ 1024
unfolding header_fault field
few_counted file e =
    let each = each_first (row_fault file (header_place file)) rows (then_none (place_fault file) _ e).1 in
    leb-true _ _ (allowed _ _ _ _ each.1.1.1.1.1.1.1.1.1.1.1.1.1.1.1.1.1.1.1.0)

few_read : (m : Parts) → IsRead m → length m.objects ≤ 1024
unfolding parts_of objects_of
few_read m read =
    let long : length m.objects ≡ object_count m.file = ap (λ (p : Parts). length p.objects) read.means.parts ∙ length-map-range_with_len (λ k. object_entry m.file (object_place m.file k)) 0 (object_count m.file) in
    let few = few_counted m.file (header_is_good m.file read.means.faultless) in
    omega (arith, long, few)

pub few_objects : (lib : List Parts) (m : ℕ) → IsLibrary lib → m < length lib → length (module_of lib m).objects < 2 ^ 32
few_objects lib m is lt = let few = few_read (module_of lib m) (is.read m no_module lt) in omega (arith, few)
