-- Logical segments in order, in their objects.
use Rattle.std.specs.Prelude.{◌≡◌, ℕ, ◌+◌, ◌==◌, Bool, List, [], Option, None, map, get_or, slice_get, position, if◌then◌else◌, find}
use Rattle.std.specs.List.{list_any, enumerate_from}
use Rattle.std.specs.Option.{option_map, option_and_then, unwrap_or}
use Rattle.obj_types.specs.declared.definition.DefFile.{DefFile}
use Rattle.link_model.specs.declared.keys.ObjectKey.{ObjectKey}
use Rattle.link_model.specs.Appearance.{firsts_by}
use Rattle.link_model.specs.Layout as rules
use Rattle.link_model.specs.Order.{same_object}
use Rattle.link_model.specs.Parts.{is_stack}
use Rattle.link_model.specs.Rows.{Row, end_in}
use Rattle.link_model.specs.Words.{option_any}
use Rattle.seg_parts.specs.LogicalSegments.{places}
use Rattle.seg_parts.specs.Placing.{placed_shown}
use Rattle.seg_parts.specs.Rows.{Unplaced, rows_later}
use Rattle.link_model.specs.LayoutRefusals.{too_large_in}
use Rattle.seg_merge.specs.Ordered.{Ordered}
use Rattle.seg_merge.specs.declared.laid.Laid.{Laid}

abbrev pub keys_of : List Ordered → List ObjectKey
keys_of os = map (λ o. o.key) os

-- The first logical segment of each object.
abbrev pub object_heads_of : List Ordered → List Ordered
object_heads_of os = firsts_by same_object (λ o. o.key) os

abbrev pub flags_of_objects : List Ordered → List ℕ
flags_of_objects os = map (λ o. o.flags) (object_heads_of os)

-- Some part of it is of combine type stack.
abbrev pub has_stack : Ordered → Bool
has_stack o = list_any is_stack o.parts

-- The number of the first such segment.
abbrev pub stack_number : List Ordered → Option ℕ
stack_number os = option_map (λ o. o.number) (find has_stack os)

abbrev pub least_of : Option ℕ → ℕ → ℕ → ℕ
least_of stack size number = if option_any (λ n. number == n) stack then size else 0

-- One in the objects with these numbers, from 0.
abbrev pub unit_at : List ℕ → Option ℕ → ℕ → ℕ × Ordered → Unplaced
unit_at objects stack size q =
    record { head = q.1.head; object = get_or objects q.0 0 + 1; parts = q.1.parts; least = least_of stack size q.1.number }

abbrev pub units_in : ℕ → List Ordered → List Unplaced
units_in size os = map (unit_at (places same_object (keys_of os)) (stack_number os) size) (enumerate_from 0 os)

abbrev pub rows_in : ℕ → List Ordered → List Row
rows_in size os = rows_later [] (units_in size os)

-- The sizes and the flags of the objects.
abbrev pub sizes_in : ℕ → List Ordered → List (ℕ × ℕ)
sizes_in size os = map (λ q. (end_in q.0 (rows_in size os), q.1.flags)) (enumerate_from 1 (object_heads_of os))

abbrev pub first_base_of : DefFile → ℕ
first_base_of def = unwrap_or def.base (rules.usual_base def.kind)

-- The row of the first that has a stack.
abbrev pub stack_row_in : List Ordered → List Row → Option Row
stack_row_in os rs = option_and_then (slice_get rs) (position has_stack os)

-- These logical segments stand so, and they pass no limit.
pub record AreLaid (def : DefFile) (os : List Ordered) (laid : Laid) : Type 0 where
  pub rows_are : map placed_shown laid.rows.items ≡ rows_in def.stack os
  pub pass_none : too_large_in (rows_in def.stack os) ≡ None
  pub objects_are : laid.objects ≡ rules.placed_from (first_base_of def) (sizes_in def.stack os)
  pub stack_is : laid.stack ≡ option_map (λ r. (r.object, r.end)) (stack_row_in os (rows_in def.stack os))
