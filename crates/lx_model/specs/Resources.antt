-- Resources: which bytes of a module's objects are the resource of a type and an identifier.
-- "32-bit Linear eXecutable Module Format": "Resource Table".
use Rattle.std.specs.Prelude.{ℕ, ◌+◌, ◌*◌, ◌==◌, ◌&&◌, not, Bool, List, length, map, find, Option, option_map, nat_le}
use Rattle.std.specs.List.{range_with_len}
use Rattle.lx_types.specs.declared.parts.Parts.{Parts}
use Rattle.lx_types.specs.declared.resource.ResSpot.{ResSpot}
use Rattle.lx_types.specs.Parts.{object_of}
use Rattle.lx_model.specs.declared.lengths.TheConstants.{RESOURCE_ENTRY_LEN}
use Rattle.lx_model.specs.declared.header_fields.TheConstants.{RESOURCE_TABLE, RESOURCE_COUNT}
use Rattle.lx_model.specs.Reading.{number_at}
use Rattle.lx_model.specs.Header.{field, table}

-- ---- the table

-- An entry of the table: where it stands in the file, its type and its identifier, and where the resource lies.
pub record Resource : Type 0 where
  pub at : ℕ
  pub ty : ℕ
  pub id : ℕ
  pub spot : ResSpot

-- the entry at a place of the file: the type, the identifier, the length, the object and the offset
abbrev pub resource_at : List ℕ → ℕ → Resource
resource_at file at = record {
  at = at;
  ty = number_at 2 file at;
  id = number_at 2 file (at + 2);
  spot = record { object = number_at 2 file (at + 8); offset = number_at 4 file (at + 10); len = number_at 4 file (at + 4) };
}

-- where the table stands, and how many entries the header says it has
abbrev pub resource_table : List ℕ → ℕ
resource_table file = table file RESOURCE_TABLE

abbrev pub resource_count : List ℕ → ℕ
resource_count file = field file RESOURCE_COUNT

unfoldable pub resources_of : List ℕ → List Resource
resources_of file = map (λ k. resource_at file (resource_table file + RESOURCE_ENTRY_LEN * k)) (range_with_len 0 (resource_count file))

-- ---- what counts of it

-- the bytes lie in an object of the module
abbrev pub is_in_object : Parts → ResSpot → Bool
is_in_object m spot =
    not (spot.object == 0) && nat_le spot.object (length m.objects) && nat_le (spot.offset + spot.len) (object_of m spot.object).size

-- an entry counts where it lies whole in the file, and its resource in an object
abbrev pub is_whole : Parts → Resource → Bool
is_whole m r = nat_le (r.at + RESOURCE_ENTRY_LEN) (length m.file) && is_in_object m r.spot

abbrev pub has_key : ℕ → ℕ → Resource → Bool
has_key ty id r = (r.ty == ty) && (r.id == id)

-- The resource of a type and an identifier: the first entry that has both and counts.
unfoldable pub Res : Parts → ℕ → ℕ → Option ResSpot
Res m ty id = option_map (λ r. r.spot) (find (λ r. has_key ty id r && is_whole m r) (resources_of m.file))
