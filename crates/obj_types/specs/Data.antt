-- The data of a module's segments ("A0h LEDATA", "A2h LIDATA").
use Rattle.std.specs.Prelude.{ℕ, ◌+◌, ◌-◌, Bool, ◌&&◌, reverse, length, nat_lt, nat_le, ◌==◌, slice_index, find}
use Rattle.std.specs.Option.{option_map_or}
use Rattle.obj_types.specs.declared.object.ObjModule.{ObjModule}
use Rattle.obj_types.specs.declared.object.Piece.{Piece}

-- A piece covers offset x of a segment.
abbrev pub covers : ℕ → ℕ → Piece → Bool
covers seg x p = p.seg == seg && (nat_le p.offset x && nat_lt x (p.offset + length p.bytes))

-- The byte of the last piece that covers offset x of the segment, else 0.
abbrev pub Data : ObjModule → ℕ → ℕ → ℕ
Data m seg x =
    option_map_or (λ p. slice_index p.bytes (x - p.offset)) (find (covers seg x) (reverse m.pieces)) 0
