-- The kinds of location that a fixup may have, and when two fixups meet.
-- "9Ch FIXUPP", the table of location types.
use Rattle.std.specs.Prelude.{ℕ, ◌+◌, Bool, ◌&&◌, ◌||◌, nat_lt, ◌==◌, if◌then◌else◌}
use Rattle.obj_types.specs.declared.location.TheConstants.{LOCATION_BYTE, LOCATION_OFFSET_16, LOCATION_SELECTOR, LOCATION_FAR_16, LOCATION_LOADER_16, LOCATION_OFFSET_32, LOCATION_FAR_32, LOCATION_LOADER_32}
use Rattle.obj_types.specs.declared.object.FixAt.{FixAt}

-- The bytes of a location, and 0 for a kind that there is not.
abbrev pub location_len : ℕ → ℕ
location_len loc =
    if loc == LOCATION_BYTE then 1
    else if loc == LOCATION_OFFSET_16 || loc == LOCATION_SELECTOR || loc == LOCATION_LOADER_16 then 2
    else if loc == LOCATION_FAR_16 || loc == LOCATION_OFFSET_32 || loc == LOCATION_LOADER_32 then 4
    else if loc == LOCATION_FAR_32 then 6
    else 0

-- Whether a location has a selector. One that has is never self-relative.
abbrev pub has_selector : ℕ → Bool
has_selector loc = loc == LOCATION_SELECTOR || loc == LOCATION_FAR_16 || loc == LOCATION_FAR_32

-- The place past a fixup's last byte.
abbrev pub end_of : FixAt → ℕ
end_of f = f.offset + location_len f.loc

-- Two fixups share a byte.
abbrev pub meets : FixAt → FixAt → Bool
meets f g = f.seg == g.seg && nat_lt f.offset (end_of g) && nat_lt g.offset (end_of f)
