-- Addresses, the room that an object takes, and the selectors that stand for addresses.
-- "32-bit Linear eXecutable Module Format": "Object Table" (flags), "Fixup Record Table" (16:16 pointers).
use Rattle.std.specs.Prelude.{ℕ, ◌+◌, ◌*◌, ◌/◌, ◌%◌, ◌-◌, ◌^◌, ◌==◌, ◌||◌, max, not, Bool, if◌then◌else◌, bit_and}
use Rattle.lx_types.specs.declared.object.TheConstants.{OBJECT_BIG, OBJECT_EXECUTABLE}
use Rattle.lx_types.specs.declared.limits.TheConstants.{BASE_UNIT}
use Rattle.lx_types.specs.declared.selectors.TheConstants.{FLAT_CODE, FLAT_DATA}

-- An address is a number below 2 ^ 32: this one stands an offset above a base.
abbrev pub address : ℕ → ℕ → ℕ
address base offset = (base + offset) % 2 ^ 32

-- ---- where objects stand

-- the room that an object of this size takes: at least one byte, and whole units
abbrev pub room : ℕ → ℕ
room size = (max 1 size + (BASE_UNIT - 1)) / BASE_UNIT * BASE_UNIT

-- ---- selectors

-- an object's flags say that its code or data is 32-bit
abbrev pub is_big : ℕ → Bool
is_big flags = not (bit_and flags OBJECT_BIG == 0)

abbrev pub is_executable : ℕ → Bool
is_executable flags = not (bit_and flags OBJECT_EXECUTABLE == 0)

-- The selector of the tile in which an address lies: entry A / 65,536 of the local descriptor table, with its low three bits
-- set. A tile has as many bytes as bases are multiples of.
abbrev pub tiled_selector : ℕ → ℕ
tiled_selector a = (a / BASE_UNIT * 8 + 7) % BASE_UNIT

-- the flat selectors of code and of data
abbrev pub flat_selector : ℕ → ℕ
flat_selector flags = if is_executable flags then FLAT_CODE else FLAT_DATA

-- The selector for an address in an object with these flags. It is tiled where that is asked for, and
-- where the object is 16-bit.
abbrev pub selector : Bool → ℕ → ℕ → ℕ
selector tiled flags a = if tiled || not (is_big flags) then tiled_selector a else flat_selector flags

-- the 32-bit offset that goes with that selector: within the tile, or the address
abbrev pub selected_offset : Bool → ℕ → ℕ → ℕ
selected_offset tiled flags a = if tiled || not (is_big flags) then a % BASE_UNIT else a
