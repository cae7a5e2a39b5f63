-- Rows, sizes and the stack of logical segments in order.
use Rattle.std.specs.Prelude.{◌≡◌, ℕ, ◌+◌, ◌<◌, ◌≤◌, List, [], None, map, length, get_or, sum_by}
use Rattle.std.specs.List.{All, zip, enumerate_from, range_with_len}
use Rattle.std.proofs.Common.{ap, sym, subst, ◌∙◌, arith}
use Rattle.std.proofs.lemmas.List.{length-map, get_or-map}
use Rattle.std.proofs.lemmas.List.FromFn.{length-map-range_with_len}
use Rattle.std.proofs.lemmas.Slice.Zip.{length-zip}
use Rattle.lx_types.specs.declared.limits.TheConstants.{MAX_OBJECTS}
use Rattle.link_model.specs.declared.limits.TheConstants.{MAX_MEMORY}
use Rattle.link_model.specs.Order.{same_object}
use Rattle.link_model.specs.Rows.{Row, end_in}
use Rattle.seg_parts.specs.declared.rows.Placed.{Placed}
use Rattle.seg_parts.specs.declared.rows.Rows.{Rows}
use Rattle.seg_parts.specs.declared.rows.Unplaced as lent
use Rattle.seg_parts.specs.LogicalSegments.{places}
use Rattle.seg_parts.specs.Placing.{unplaced_shown, placed_shown, StandIn}
use Rattle.seg_parts.specs.Rows.{Unplaced, rows_later}
use Rattle.link_model.specs.LayoutRefusals.{too_large_in}
use Rattle.seg_parts.proofs.Tables.{places-below}
use Rattle.seg_parts.proofs.ObjectNames.{objects_equal}
use Rattle.seg_merge.specs.ByNumber.{no_row}
use Rattle.seg_merge.specs.Laid.{keys_of, object_heads_of, flags_of_objects, stack_number, unit_at, units_in, rows_in, sizes_in}
use Rattle.seg_merge.specs.Ordered.{Ordered}
use Rattle.seg_merge.proofs.ObjectSizes.{sizes-are, sizes-within, count-within}
use Rattle.seg_merge.proofs.ObjectTable.{heads-length}
use Rattle.link_model.proofs.RowLimits.{objects-within}

-- What the units of logical segments in these objects are.
pub record AreUnits (os : List Ordered) (size : ℕ) (units : List lent.Unplaced) : Type 0 where
  pub objects : map (λ (u : lent.Unplaced). u.object) units ≡ places same_object (keys_of os)
  pub shown : map unplaced_shown units ≡ units_in size os

pub are-units : (os : List Ordered) (size : ℕ) (units items : List lent.Unplaced) (objects found : List ℕ) → units ≡ items → map (λ (u : lent.Unplaced). u.object) items ≡ objects →
    map unplaced_shown items ≡ map (unit_at objects (stack_number os) size) (enumerate_from 0 os) → objects ≡ found → found ≡ places same_object (keys_of os) → AreUnits os size units
are-units os size units items objects found same objects_are shown_are equal are =
    record {
      objects = ap (map (λ (u : lent.Unplaced). u.object)) same ∙ objects_are ∙ equal ∙ are;
      shown = ap (map unplaced_shown) same ∙ shown_are ∙ ap (λ (t : List ℕ). map (unit_at t (stack_number os) size) (enumerate_from 0 os)) (equal ∙ are);
    }

pub units-below : (os : List Ordered) (size : ℕ) (units : List lent.Unplaced) (count : ℕ) (flags : List ℕ) → AreUnits os size units → count ≡ length flags → flags ≡ flags_of_objects os → All (λ (u : lent.Unplaced). u.object < count) units
units-below os size units count flags are len flags_are k d lt =
    let there : k < length (places same_object (keys_of os)) = omega (arith, lt, length-map units (λ (u : lent.Unplaced). u.object), ap length are.objects) in
    let at : get_or (places same_object (keys_of os)) k 0 ≡ (get_or units k d).object =
    ap (λ (t : List ℕ). get_or t k 0) (sym are.objects) ∙ get_or-map (λ (u : lent.Unplaced). u.object) units k d 0 lt in
    omega (arith, places-below same_object objects_equal (keys_of os) k 0 there, at, len, ap length flags_are, heads-length os)

module _ (os : List Ordered) (size count : ℕ) (units : List lent.Unplaced) (rows : Rows) (are : AreUnits os size units) (stand : StandIn count (map unplaced_shown units) rows) where
  pub rows-are : map placed_shown rows.rows.items ≡ rows_in size os
  rows-are = stand.rows_are ∙ ap (rows_later []) are.shown

  pub none-past : too_large_in (rows_in size os) ≡ None
  none-past = ap (λ (us : List Unplaced). too_large_in (rows_later [] us)) (sym are.shown) ∙ stand.pass_none

  pub rows-below : (placed : List Placed) → placed ≡ rows.rows.items → All (λ (r : Placed). r.object < 1024) placed
  rows-below placed same k d lt =
      let rs : List Row = rows_later [] (map unplaced_shown units) in
      let all : map placed_shown placed ≡ rs = ap (map placed_shown) same ∙ stand.rows_are in
      let there : k < length rs = omega (arith, lt, length-map placed placed_shown, ap length all) in
      let within : (get_or rs k no_row).object ≤ MAX_OBJECTS = objects-within rs stand.pass_none k no_row there in
      let at : (get_or rs k no_row).object ≡ (get_or placed k d).object + 1 =
      ap (λ (t : List Row). (get_or t k no_row).object) (sym all) ∙ ap (λ (r : Row). r.object) (get_or-map placed_shown placed k d no_row lt) in
      omega (arith, within, at)

  module _ (ends flags : List ℕ) (ends_same : ends ≡ rows.ends.items) (flags_are : flags ≡ flags_of_objects os) (len : count ≡ length flags) where
    ends_are : ends ≡ map (λ o. end_in o (rows_later [] (map unplaced_shown units))) (range_with_len 1 (length flags))
    ends_are = ends_same ∙ stand.ends_are ∙ ap (λ (n : ℕ). map (λ o. end_in o (rows_later [] (map unplaced_shown units))) (range_with_len 1 n)) len

    pub as-many : length flags ≡ length ends
    as-many = sym (ap length ends_are ∙ length-map-range_with_len (λ o. end_in o (rows_later [] (map unplaced_shown units))) 1 (length flags))

    pub few : (sizes : List (ℕ × ℕ)) → sizes ≡ zip ends flags → length sizes ≤ 1024
    few sizes is =
        omega (arith, ap length is, length-zip ends flags, ap length flags_are, as-many, count-within os units are.objects stand.pass_none)

    pub together : (sizes : List (ℕ × ℕ)) → sizes ≡ zip ends flags → sum_by (λ (q : ℕ × ℕ). q.0) sizes ≤ MAX_MEMORY
    together sizes is =
        subst (λ (t : List (ℕ × ℕ)). sum_by (λ (q : ℕ × ℕ). q.0) t ≤ MAX_MEMORY) (sym is) (sizes-within os units ends flags are.objects flags_are stand.pass_none ends_are)

    pub pairs-are : (sizes : List (ℕ × ℕ)) → sizes ≡ zip ends flags → sizes ≡ sizes_in size os
    pairs-are sizes is =
        is ∙ sizes-are os (rows_later [] (map unplaced_shown units)) ends flags ends_are flags_are
        ∙ ap (λ (us : List Unplaced). map (λ (q : ℕ × Ordered). (end_in q.0 (rows_later [] us), q.1.flags)) (enumerate_from 1 (object_heads_of os))) are.shown
