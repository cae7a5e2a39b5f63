-- What stands in the pages of a linked module before the loader: bytes that no base changes are patched in, and
-- where a record is left to the loader there are zeros.
use Rattle.std.specs.Prelude.{ℕ, ◌-◌, Bool, not, ◌&&◌, ◌||◌, List, map, if◌then◌else◌, slice_index, filter}
use Rattle.std.specs.List.{range_with_len, enumerate_from}
use Rattle.std.specs.Option.{option_map_or}
use Rattle.link_model.specs.Link.{Link}
use Rattle.link_model.specs.Layout.{objects}
use Rattle.link_model.specs.Fixups.{Fixup, is_constant, stays_in_object}
use Rattle.link_model.specs.Value.{World, value_bytes}
use Rattle.link_model.specs.Mean.{live_fixups, live_at, data_at}

-- ---- which

-- A constant, and a self-relative location to its own object, are patched.
abbrev pub is_patched : Fixup → Bool
is_patched q = is_constant q.target || q.fix.selfrel && stays_in_object q

-- The live fixups that get records, in chosen order and in file order.
unfoldable pub recorded : Link → List Fixup
recorded l = filter (λ q. not (is_patched q)) (live_fixups l)

-- ---- bytes

-- Patched bytes are the same at all bases.
abbrev pub linked_world : Link → World
linked_world l = record { bases = map (λ o. o.base) (objects l); imp = λ from entry. record { address = 0; flags = 0 } }

abbrev pub patch_at : Link → ℕ → Fixup → ℕ
patch_at l x q = if is_patched q then slice_index (value_bytes l (linked_world l) q) (x - q.offset) else 0

-- Byte x of an object before the loader: of a patch, 0 where a record's field stands, else of the data.
unfoldable pub page_byte : Link → ℕ → ℕ → ℕ
page_byte l object x = option_map_or (patch_at l x) (live_at l object x) (data_at l object x)

-- The bytes of all objects.
unfoldable pub object_bytes : Link → List (List ℕ)
object_bytes l = map (λ q. map (page_byte l q.0) (range_with_len 0 q.1.size)) (enumerate_from 1 (objects l))
