-- What a header without a fault says.
use Rattle.std.proofs.Common.{◌≡◌, ℕ, ◌+◌, ◌≤◌, Bool, true, false, cond, ltb, leb, List, map, length, Some, None, refl}
use Rattle.std.proofs.lemmas.Bool.{leb-true}
use Rattle.lx_types.specs.declared.refusal.LxRefusal.{LxRefusal}
use Rattle.lx_types.specs.declared.refusal.LxKind.TheVariants.{Short, Field}
use Rattle.lx_model.specs.declared.header_fields.TheConstants.{PAGE_OFFSET_SHIFT}
use Rattle.lx_model.specs.Reading.{fault, number_at, first}
use Rattle.lx_model.specs.Header.{row, rows, row_fault, place_fault, header_place, header_fault, field}
use Rattle.lx_model.proofs.Firsts.{then_none}
use Rattle.lx_model.proofs.Each.{each_first}

allowed : (short good : Bool) (a b : LxRefusal) → cond short (Some a) (cond good None (Some b)) ≡ None → good ≡ true
allowed true good a b is = absurd cc
allowed false true a b is = refl
allowed false false a b is = absurd cc

pub shift_fits : (file : List ℕ) → header_fault file ≡ None → field file PAGE_OFFSET_SHIFT ≤ 12
unfolding header_fault field
shift_fits file none =
    let place = header_place file in
    let good = each_first (row_fault file place) rows (then_none (place_fault file) (first (map (row_fault file place) rows)) none).1 in
    let shift : row_fault file place (row PAGE_OFFSET_SHIFT 4 (λ v. leb v 12) Field) ≡ None = good.1.1.1.1.1.1.1.1.1.1.1.1.1.0 in
    leb-true (number_at 4 file (place + PAGE_OFFSET_SHIFT)) 12 (allowed (ltb (length file) (place + PAGE_OFFSET_SHIFT + 4)) (leb (number_at 4 file (place + PAGE_OFFSET_SHIFT)) 12) (fault Short (place + PAGE_OFFSET_SHIFT)) (fault Field (place + PAGE_OFFSET_SHIFT)) shift)
