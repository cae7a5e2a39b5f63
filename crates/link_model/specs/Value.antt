-- The bytes that a fixup's location gets ("9Ch FIXUPP", location types).
--
-- p is the location's address, T the target's address with the displacement, and V is T and the number that
-- stands in the location. All are numbers modulo 2^32.
use Rattle.std.specs.Prelude.{ℕ, ◌+◌, Bool, false, ◌||◌, List, ◌++◌, Option, Some, None, if◌then◌else◌, ◌==◌, slice_get, is_some, unwrap_or}
use Rattle.std.specs.Option.{option_map_or}
use Rattle.lx_bytes.specs.LittleEndian.{little_bytes}
use Rattle.lx_types.specs.Names.{uppercase}
use Rattle.lx_types.specs.declared.entry.EntryKey.{EntryKey}
use Rattle.obj_types.specs.declared.symbol.Imp.{Imp}
use Rattle.obj_types.specs.declared.location.TheConstants.{LOCATION_BYTE, LOCATION_OFFSET_16, LOCATION_SELECTOR, LOCATION_FAR_16, LOCATION_LOADER_16, LOCATION_FAR_32}
use Rattle.obj_types.specs.Items.{item}
use Rattle.obj_types.specs.Location.{location_len}
use Rattle.link_model.specs.Words.{wrapped, difference}
use Rattle.link_model.specs.Link.{Link}
use Rattle.link_model.specs.Symbols.{imports}
use Rattle.lx_types.specs.Addresses.{address, tiled_selector, selector, selected_offset}
use Rattle.link_model.specs.Layout.{object_flags}
use Rattle.link_model.specs.Goals.{Target, Internal, Constant, Entry}
use Rattle.link_model.specs.Fixups.{Fixup, fix_refusal}

-- Where an entry point of another module is: an address, and the flags of the object in which it lies.
pub record Far : Type 0 where
  pub address : ℕ
  pub flags : ℕ

-- Where entry points are, asked by their module's name in upper case and the entry.
abbrev pub EntryPoints : Type 0
EntryPoints = List ℕ → EntryKey → Far

-- The bases of the objects, in order, and where the entry points of other modules are. All spellings of a module's
-- name lead to one place.
pub record World : Type 0 where
  pub bases : List ℕ
  pub imp : EntryPoints

abbrev pub entry_point : World → Imp → Far
entry_point w pair = w.imp (uppercase pair.module) pair.entry

-- ---- addresses

abbrev pub place_address : World → ℕ → ℕ → ℕ
place_address w object offset = address (unwrap_or (item w.bases object) 0) offset

abbrev pub far_of : Link → World → ℕ → Far
far_of l w slot = option_map_or (entry_point w) (slice_get (imports l) slot) (record { address = 0; flags = 0 })

abbrev pub target_address : Link → World → Target → ℕ
target_address l w (Internal o offset) = place_address w o offset
target_address l w (Constant value) = value
target_address l w (Entry slot) = (far_of l w slot).address

abbrev pub target_flags : Link → World → Target → ℕ
target_flags l w (Internal o offset) = object_flags l o
target_flags l w (Constant value) = 0
target_flags l w (Entry slot) = (far_of l w slot).flags

-- ---- values

-- A segment-relative location, from T, V, the flags of the target's object, and whether the location's segment
-- is 16-bit. A selector is tiled where the object is not big, and where it stands alone in a 16-bit segment.
abbrev pub relative_to_segment : ℕ → ℕ → ℕ → ℕ → Bool → List ℕ
relative_to_segment loc t v flags narrow =
    if loc == LOCATION_BYTE then little_bytes 1 v
    else if loc == LOCATION_OFFSET_16 || loc == LOCATION_LOADER_16 then little_bytes 2 v
    else if loc == LOCATION_SELECTOR then little_bytes 2 (selector narrow flags t)
    else if loc == LOCATION_FAR_16 then little_bytes 2 v ++ little_bytes 2 (tiled_selector v)
    else if loc == LOCATION_FAR_32 then little_bytes 4 (selected_offset false flags v) ++ little_bytes 2 (selector false flags v)
    else little_bytes 4 v

-- A self-relative location: V less the address after the location.
abbrev pub relative_to_self : ℕ → ℕ → ℕ → List ℕ
relative_to_self loc p v = little_bytes (location_len loc) (difference v (p + location_len loc))

-- T and V of a fixup.
abbrev pub target_number : Link → World → Fixup → ℕ
target_number l w q = wrapped (target_address l w q.target + q.fix.disp)

abbrev pub sum_number : Link → World → Fixup → ℕ
sum_number l w q = wrapped (target_number l w q + q.standing)

-- The bytes that the location gets, unless the fixup is refused.
unfoldable pub value_bytes : Link → World → Fixup → List ℕ
value_bytes l w q =
    if q.fix.selfrel then relative_to_self q.fix.loc (place_address w q.object q.offset) (sum_number l w q)
    else relative_to_segment q.fix.loc (target_number l w q) (sum_number l w q) (target_flags l w q.target) q.narrow

unfoldable pub Value : Link → World → Fixup → Option (List ℕ)
Value l w q = if is_some (fix_refusal q) then None else Some (value_bytes l w q)
