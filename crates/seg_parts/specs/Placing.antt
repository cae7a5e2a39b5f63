-- The ends of objects while logical segments are placed.
use Rattle.std.specs.Prelude.{◌≡◌, ℕ, ◌+◌, ◌≤◌, true, false, List, [], ◌∷◌, ◌++◌, Option, Some, None, map, max, slice_index, slice_set}
use Rattle.std.specs.List.{range_with_len}
use Rattle.link_model.specs.declared.limits.TheConstants.{MAX_MEMORY}
use Rattle.link_model.specs.Rows.{Row, end_in}
use Rattle.link_model.specs.LayoutRefusals.{passes_limits, size_of_rows, too_large_in}
use Rattle.seg_parts.specs.declared.rows.Unplaced as lent
use Rattle.seg_parts.specs.declared.rows.Placed.{Placed}
use Rattle.seg_parts.specs.declared.rows.Ends.{Ends}
use Rattle.seg_parts.specs.declared.rows.Rows.{Rows}
use Rattle.seg_parts.specs.Parts.{shown}
use Rattle.seg_parts.specs.Rows.{Unplaced, row_later, rows_later}

abbrev pub unplaced_shown : lent.Unplaced → Unplaced
unplaced_shown u = record { head = shown u.head; object = u.object + 1; parts = map shown u.parts.now; least = u.least }

abbrev pub span_shown : lent.Unplaced → ℕ × ℕ → Row
span_shown u s = record { segment = shown u.head; object = u.object + 1; start = s.0; end = s.1 }

abbrev pub placed_shown : Placed → Row
placed_shown p = record { segment = shown p.head; object = p.object + 1; start = p.start; end = p.end }

-- One object became at least so long.
pub record Adds (ends : List ℕ) (sum object end : ℕ) (after : List ℕ) (total : ℕ) : Type 0 where
  pub ends_are : after ≡ slice_set ends object (max (slice_index ends object) end)
  pub sum_is : total + slice_index ends object ≡ sum + max (slice_index ends object) end

-- These are the ends of this many objects with these rows, and their sum.
pub record AreEnds (count : ℕ) (rows : List Row) (ends : Ends) : Type 0 where
  pub each : ends.ends.items ≡ map (λ o. end_in o rows) (range_with_len 1 count)
  pub total : ends.sum ≡ size_of_rows rows

-- What placing a logical segment gives, after any rows with these ends.
abbrev pub PlacesAfter : ℕ → List Row → lent.Unplaced → Ends → Option Placed → Type 0
PlacesAfter count rows u new None =
    let r = row_later rows (unplaced_shown u) in passes_limits (rows ++ r ∷ []) r ≡ true
PlacesAfter count rows u new (Some p) =
    let r = row_later rows (unplaced_shown u) in
    (placed_shown p ≡ r) × (passes_limits (rows ++ r ∷ []) r ≡ false) × AreEnds count (rows ++ r ∷ []) new × (new.sum ≤ MAX_MEMORY)

abbrev pub Places : Ends → lent.Unplaced → Ends → Option Placed → Type 0
Places old u new result = (count : ℕ) (rows : List Row) → AreEnds count rows old → PlacesAfter count rows u new result

-- These rows are those of these logical segments, they pass no limit, and these are the ends of this many objects.
pub record StandIn (count : ℕ) (us : List Unplaced) (r : Rows) : Type 0 where
  pub rows_are : map placed_shown r.rows.items ≡ rows_later [] us
  pub pass_none : too_large_in (rows_later [] us) ≡ None
  pub ends_are : r.ends.items ≡ map (λ o. end_in o (rows_later [] us)) (range_with_len 1 count)
