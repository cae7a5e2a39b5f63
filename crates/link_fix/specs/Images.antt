-- Numbered rows of bytes: the segments of a module or the objects of a link. Where no byte was painted there is 0.
use Rattle.std.specs.Prelude.{ℕ, ◌+◌, ◌-◌, Bool, ◌&&◌, List, nat_le, nat_lt, ◌==◌, length, slice_get, slice_index, if◌then◌else◌}
use Rattle.std.specs.Option.{option_map_or}
use Rattle.link_fix.specs.declared.images.Images.{Images}

-- Byte x of row n.
abbrev pub byte_of : Images → ℕ → ℕ → ℕ
byte_of images n x = option_map_or (λ row. slice_index row.items x) (slice_get images.rows.items n) 0

-- A run that is painted at an offset of a row covers byte x of row n.
abbrev pub is_painted : ℕ → ℕ → ℕ → ℕ → ℕ → Bool
is_painted row at len n x = row == n && nat_le at x && nat_lt x (at + len)

-- A row's bytes after a run was painted.
abbrev pub painted : ℕ → List ℕ → List ℕ → ℕ → ℕ
painted at run bytes x =
    if nat_le at x && nat_lt x (at + length run) then slice_index run (x - at) else slice_index bytes x

-- Byte x of row n of these images after a run was painted.
abbrev pub byte_after : Images → ℕ → ℕ → List ℕ → ℕ → ℕ → ℕ
byte_after images row at run n x =
    if is_painted row at (length run) n x then slice_index run (x - at) else byte_of images n x
