-- Numbers that stand in locations, from the bytes of a segment.
use Rattle.std.specs.Prelude.{◌≡◌, ℕ, zero, suc, ◌+◌, ◌&&◌, List, [], ◌∷◌, if◌then◌else◌, ◌==◌}
use Rattle.lx_bytes.specs.LittleEndian.{little}
use Rattle.obj_types.specs.declared.location.TheConstants.{LOCATION_BYTE}
use Rattle.obj_types.specs.declared.object.FixAt.{FixAt}
use Rattle.obj_types.specs.declared.object.ObjModule.{ObjModule}
use Rattle.link_model.specs.Fixups.{offset_width, signed_byte}
use Rattle.link_fix.specs.declared.images.Images.{Images}
use Rattle.link_fix.specs.Images.{byte_of}
use Rattle.link_fix.specs.Pieces.{of_pieces}

-- n bytes from x on.
abbrev pub bytes_from : (ℕ → ℕ) → ℕ → ℕ → List ℕ
bytes_from byte x zero = []
bytes_from byte x (suc n) = byte x ∷ bytes_from byte (x + 1) n

abbrev pub number_from : (ℕ → ℕ) → FixAt → ℕ
number_from byte f = little (bytes_from byte f.offset (offset_width f.loc))

-- The low byte of a self-relative location has a sign.
abbrev pub standing_from : (ℕ → ℕ) → FixAt → ℕ
standing_from byte f = if f.selfrel && f.loc == LOCATION_BYTE then signed_byte (number_from byte f) else number_from byte f

-- These rows are a module's data by segment.
abbrev pub IsDataOf : Images → ObjModule → Type 0
IsDataOf rows m = (seg : ℕ) (x : ℕ) → byte_of rows seg x ≡ of_pieces m.pieces seg x
