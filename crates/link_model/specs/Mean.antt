-- The bytes of a linked module at any bases.
--
-- The byte at a place is that of the value of the live fixup that covers it, else that of the last piece of data,
-- in chosen order and in file order, that covers it, else 0.
use Rattle.std.specs.Prelude.{ℕ, ◌+◌, ◌-◌, Bool, ◌&&◌, List, [], ◌∷◌, Option, if◌then◌else◌, reverse, length, nat_lt, nat_le, ◌==◌, slice_index, find, unwrap_or}
use Rattle.std.specs.List.{list_any, filter_map}
use Rattle.std.specs.Option.{option_map, option_map_or, option_and_then}
use Rattle.obj_types.specs.declared.object.Piece.{Piece}
use Rattle.obj_types.specs.Location.{location_len}
use Rattle.link_model.specs.Link.{Link, of_modules}
use Rattle.link_model.specs.Layout.{spot}
use Rattle.link_model.specs.Fixups.{Fixup, fixups}
use Rattle.link_model.specs.Value.{World, Value}

-- ---- live fixups

abbrev pub fixup_end : Fixup → ℕ
fixup_end q = q.offset + location_len q.fix.loc

-- Two fixups share a byte. Those of different modules can, in common segments.
abbrev pub overlap : Fixup → Fixup → Bool
overlap a b = a.object == b.object && nat_lt a.offset (fixup_end b) && nat_lt b.offset (fixup_end a)

-- A fixup is live unless one that stands after it shares a byte with it, live or not.
abbrev pub live : List Fixup → List Fixup
live [] = []
live (q ∷ qs) = if list_any (overlap q) qs then live qs else q ∷ live qs

unfoldable pub live_fixups : Link → List Fixup
live_fixups l = live (fixups l)

-- The live fixup that covers offset x of an object.
abbrev pub fixup_covers : ℕ → ℕ → Fixup → Bool
fixup_covers object x q = q.object == object && nat_le q.offset x && nat_lt x (fixup_end q)

abbrev pub live_at : Link → ℕ → ℕ → Option Fixup
live_at l object x = find (fixup_covers object x) (live_fixups l)

-- ---- data

-- A piece at its place in an object.
pub record PlacedPiece : Type 0 where
  pub object : ℕ
  pub offset : ℕ
  pub bytes : List ℕ

abbrev pub placed_piece : Link → ℕ → Piece → Option PlacedPiece
placed_piece l n p =
    option_map (λ q. record { object = q.0; offset = q.1 + p.offset; bytes = p.bytes }) (spot l n p.seg)

-- All pieces, in chosen order and in file order.
abbrev pub pieces : Link → List PlacedPiece
pieces l = of_modules l (λ n m. filter_map (placed_piece l n) m.pieces)

abbrev pub piece_covers : ℕ → ℕ → PlacedPiece → Bool
piece_covers object x p = p.object == object && nat_le p.offset x && nat_lt x (p.offset + length p.bytes)

unfoldable pub data_at : Link → ℕ → ℕ → ℕ
data_at l object x =
    option_map_or (λ p. slice_index p.bytes (x - p.offset)) (find (piece_covers object x) (reverse (pieces l))) 0

-- ---- bytes

abbrev pub value_at : Link → World → ℕ → Fixup → Option ℕ
value_at l w x q = option_map (λ bytes. slice_index bytes (x - q.offset)) (Value l w q)

-- Byte x of an object under the bases and imports of a world.
unfoldable pub Mean : Link → World → ℕ → ℕ → ℕ
Mean l w object x =
    unwrap_or (option_and_then (value_at l w x) (live_at l object x)) (data_at l object x)
