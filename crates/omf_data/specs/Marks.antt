-- What marks say of the pieces, the fixes and the COMDATs that they have seen, which are the first of an unfinished module's.
use Rattle.std.specs.Prelude.{◌≡◌, ℕ, ◌+◌, ◌≤◌, Bool, ◌&&◌, ◌||◌, List, length, take, nat_le, nat_lt, ◌==◌}
use Rattle.std.specs.List.{list_any, sum_by}
use Rattle.byte_marks.specs.Marks.{is_marked}
use Rattle.obj_types.specs.declared.object.FixAt.{FixAt}
use Rattle.obj_types.specs.declared.object.Piece.{Piece}
use Rattle.obj_types.specs.declared.parts.ObjParts.{ObjParts}
use Rattle.obj_types.specs.Location.{end_of, location_len}
use Rattle.omf_model.specs.Fixups.{touches}
use Rattle.omf_data.specs.declared.marks.Marks.{Marks}
use Rattle.omf_data.specs.Begun.{HavePlaces}
use Rattle.omf_data.specs.Ends.{HaveEnds}

-- A byte of a segment is one of the location.
abbrev pub has_byte : ℕ → ℕ → FixAt → Bool
has_byte seg x f = f.seg == seg && nat_le f.offset x && nat_lt x (end_of f)

-- A location of a kind that there is not has no byte.
abbrev pub is_bare : FixAt → Bool
is_bare f = location_len f.loc == 0

-- It is touched by bytes on both sides of it.
abbrev pub is_inside : ℕ → ℕ → ℕ → ℕ × ℕ → Bool
is_inside seg start len place = place.0 == seg && nat_lt start place.1 && nat_lt place.1 (start + len)

abbrev pub touches_bare : ℕ → ℕ → ℕ → FixAt → Bool
touches_bare seg start len f = is_bare f && touches seg start len f

-- The pieces seen are the first of these, and their bytes are counted.
pub record HavePieces (m : Marks) (pieces : List Piece) : Type 0 where
  pub seen : m.pieces ≤ length pieces
  pub counted : m.bytes ≡ sum_by (λ (piece : Piece). length piece.bytes) (take m.pieces pieces)

-- The fixes marked are the first of these, and the bytes that are marked and the places without a byte are those of
-- their locations.
pub record HaveFixes (m : Marks) (fixes : List FixAt) : Type 0 where
  pub seen : m.fixes ≤ length fixes
  pub located : (seg x : ℕ) → is_marked m.located seg x ≡ list_any (has_byte seg x) (take m.fixes fixes)
  pub bare : (seg start len : ℕ) → list_any (is_inside seg start len) m.bare.items ≡ list_any (touches_bare seg start len) (take m.fixes fixes)

-- A location more was seen.
pub record SeesLocation (m n : Marks) (f : FixAt) : Type 0 where
  pub located : (seg x : ℕ) → is_marked n.located seg x ≡ (is_marked m.located seg x || has_byte seg x f)
  pub bare : (seg start len : ℕ) → list_any (is_inside seg start len) n.bare.items
      ≡ (list_any (is_inside seg start len) m.bare.items || touches_bare seg start len f)

-- None more was.
pub record KeepsLocations (m n : Marks) : Type 0 where
  pub located : (seg x : ℕ) → is_marked n.located seg x ≡ is_marked m.located seg x
  pub bare : n.bare.items ≡ m.bare.items

-- Nothing else was seen.
pub record KeepsCounts (m n : Marks) : Type 0 where
  pub pieces : n.pieces ≡ m.pieces
  pub bytes : n.bytes ≡ m.bytes
  pub ends : n.ends ≡ m.ends
  pub fixes : n.fixes ≡ m.fixes
  pub begun : n.begun ≡ m.begun

-- The marks of an unfinished module, which may have to see more of it.
pub record AreMarks (m : Marks) (p : ObjParts) : Type 0 where
  pub pieces : HavePieces m p.module.pieces
  pub ends : HaveEnds m.ends p.module.fixes
  pub fixes : HaveFixes m p.module.fixes
  pub begun : HavePlaces m.begun p.comdats

-- They have seen all its pieces, and where all its fixes end.
pub record HaveAll (m : Marks) (p : ObjParts) : Type 0 where
  pub marks : AreMarks m p
  pub pieces : m.pieces ≡ length p.module.pieces
  pub ends : m.ends.seen ≡ length p.module.fixes
