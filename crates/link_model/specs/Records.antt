-- The fixup records that are left to the loader ("32-bit Linear eXecutable Module Format": "Fixup Record Table").
-- A target by name has the name's place in `procs_in`; `with_offset` gives its offset in a file.
use Rattle.std.specs.Prelude.{ℕ, ℤ, ◌+◌, ◌-◌, ◌*◌, ◌/◌, Bool, ◌&&◌, ◌||◌, List, Option, Some, None, map, if◌then◌else◌, nat_lt, nat_le, ◌==◌, slice_get, filter, pos, ◌-ℤ◌}
use Rattle.std.specs.List.{filter_map, range_with_len, enumerate_from}
use Rattle.std.specs.Option.{option_map, option_and_then}
use Rattle.lx_types.specs.declared.limits.TheConstants.{BASE_UNIT}
use Rattle.lx_types.specs.declared.object.TheConstants.{PAGE_SIZE}
use Rattle.lx_types.specs.declared.fix.Fix.{Fix}
use Rattle.lx_types.specs.declared.fix.Source.{Source}
use Rattle.lx_types.specs.declared.fix.Source.TheVariants.{Byte, Sel, Far16, Off16, Far32, Off32, Self32}
use Rattle.lx_types.specs.declared.fix.FixTarget.{FixTarget}
use Rattle.lx_types.specs.declared.fix.FixTarget.TheVariants as leads
use Rattle.obj_types.specs.declared.location.TheConstants.{LOCATION_BYTE, LOCATION_OFFSET_16, LOCATION_SELECTOR, LOCATION_FAR_16, LOCATION_LOADER_16, LOCATION_FAR_32}
use Rattle.link_model.specs.Words.{wrapped}
use Rattle.link_model.specs.Link.{Link}
use Rattle.link_model.specs.Symbols.{imports}
use Rattle.link_model.specs.Layout.{objects}
use Rattle.link_model.specs.Goals.{Target, Internal, Constant, Entry}
use Rattle.link_model.specs.Fixups.{Fixup}
use Rattle.link_model.specs.Mean.{fixup_end}
use Rattle.link_model.specs.Patches.{recorded}
use Rattle.link_model.specs.ImportTables.{used_pairs, import_target}

abbrev pub source_of : Fixup → Source
source_of q =
    if q.fix.loc == LOCATION_BYTE then Byte
    else if q.fix.loc == LOCATION_OFFSET_16 || q.fix.loc == LOCATION_LOADER_16 then Off16
    else if q.fix.loc == LOCATION_SELECTOR then Sel
    else if q.fix.loc == LOCATION_FAR_16 then Far16
    else if q.fix.loc == LOCATION_FAR_32 then Far32
    else if q.fix.selfrel then Self32
    else Off32

-- The selector of a 16:16 pointer, and one in a 16-bit segment, is the alias's.
abbrev pub has_alias : Fixup → Bool
has_alias q = q.fix.loc == LOCATION_FAR_16 || q.fix.loc == LOCATION_SELECTOR && q.narrow

-- A record's target and additive. For a place in the link the number that stands in the location is in the target's
-- offset; a selector has no offset, and an additive where the place is 64 KiB or more into its object. For an
-- entry point it is in the additive.
abbrev pub target_and_additive : Link → Fixup → Target → Option (FixTarget × ℕ)
target_and_additive l q (Internal o offset) =
    let at = wrapped (offset + q.fix.disp) in
    Some (if q.fix.loc == LOCATION_SELECTOR then (leads.Internal o 0, if nat_le BASE_UNIT at then at else 0)
    else (leads.Internal o (wrapped (at + q.standing)), 0))
target_and_additive l q (Constant value) = None
target_and_additive l q (Entry slot) =
    option_map (λ target. (target, wrapped (q.fix.disp + q.standing)))
    (option_and_then (import_target (used_pairs l)) (slice_get (imports l) slot))

-- A field's offset on page k. Where the field began in the page before, it is negative.
abbrev pub offset_on : ℕ → Fixup → ℤ
offset_on k q = pos q.offset -ℤ pos (k * PAGE_SIZE)

-- The record on page k of the location's object.
abbrev pub record_on : Link → ℕ → Fixup → Option Fix
record_on l k q =
    option_map (λ t. record { source = source_of q; alias = has_alias q; offset = offset_on k q; target = t.0; additive = t.1 })
    (target_and_additive l q q.target)

-- A field stands on each page that has a byte of it.
abbrev pub stands_on : ℕ → ℕ → Fixup → Bool
stands_on object k q = q.object == object && nat_lt (k * PAGE_SIZE) (fixup_end q)
    && nat_lt q.offset (k * PAGE_SIZE + PAGE_SIZE)

-- The records of page k of an object, in chosen order and in file order.
unfoldable pub page_records : Link → ℕ → ℕ → List Fix
page_records l object k = filter_map (record_on l k) (filter (stands_on object k) (recorded l))

abbrev pub page_count : ℕ → ℕ
page_count size = (size + (PAGE_SIZE - 1)) / PAGE_SIZE

-- The records of all objects, by object and page.
unfoldable pub object_records : Link → List (List (List Fix))
object_records l =
    map (λ q. map (page_records l q.0) (range_with_len 0 (page_count q.1.size))) (enumerate_from 1 (objects l))
