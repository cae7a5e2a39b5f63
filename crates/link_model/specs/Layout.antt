-- The layout of a link: its objects with size, linked base and flags, and the place of each contribution and
-- of each communal.
use Rattle.std.specs.Prelude.{ℕ, ◌+◌, List, [], ◌∷◌, Option, map, find}
use Rattle.std.specs.List.{enumerate_from}
use Rattle.std.specs.Option.{option_map, option_and_then, option_map_or, unwrap_or}
use Rattle.obj_types.specs.declared.definition.ModKind.{ModKind}
use Rattle.obj_types.specs.declared.definition.ModKind.TheVariants.{Program, Library}
use Rattle.link_model.specs.declared.symbols.LaidObject.{LaidObject}
use Rattle.obj_types.specs.Items.{item}
use Rattle.link_model.specs.Link.{Link}
use Rattle.link_model.specs.Parts.{Origin, Segment, Communal, same_origin, Part}
use Rattle.link_model.specs.Communals.{parts}
use Rattle.link_model.specs.Flags.{flags_of}
use Rattle.link_model.specs.Order.{object_heads}
use Rattle.link_model.specs.Rows.{end_in, rows, row_of, offset_in, stack_row}
pub use Rattle.lx_types.specs.Addresses.{room}
use Rattle.lx_types.specs.declared.limits.TheConstants.{PRIVATE_FROM, SHARED_FROM}

-- The first object's linked base: BASE, or the begin of the arena in which programs or libraries stand.
abbrev pub usual_base : ModKind → ℕ
usual_base Program = PRIVATE_FROM
usual_base Library = SHARED_FROM

abbrev pub first_base : Link → ℕ
first_base l = unwrap_or l.def.base (usual_base l.def.kind)

-- The objects of these sizes and flags, from a base on, each in the room after the one before.
abbrev pub placed_from : ℕ → List (ℕ × ℕ) → List LaidObject
placed_from base [] = []
placed_from base (q ∷ qs) = record { size = q.0; base = base; flags = q.1 } ∷ placed_from (base + room q.0) qs

-- The objects, numbered from 1.
unfoldable pub objects : Link → List LaidObject
objects l =
    placed_from (first_base l) (map (λ q. (end_in q.0 (rows l), flags_of l q.1)) (enumerate_from 1 (object_heads l)))

abbrev pub object_flags : Link → ℕ → ℕ
object_flags l o = option_map_or (λ x. x.flags) (item (objects l) o) 0

-- ---- places: an object's number and an offset in it

abbrev pub object_of : Link → Part → Option ℕ
object_of l p = option_map (λ r. r.object) (row_of l p)

abbrev pub place_of_part : Link → Part → Option (ℕ × ℕ)
place_of_part l p = option_map (λ r. (r.object, offset_in l r p)) (row_of l p)

abbrev pub place_of_origin : Link → Origin → Option (ℕ × ℕ)
place_of_origin l o =
    option_and_then (place_of_part l) (find (λ p. same_origin p.origin o) (parts l))

-- The place of segment `index` of chosen module n, and of a communal.
unfoldable pub spot : Link → ℕ → ℕ → Option (ℕ × ℕ)
spot l n index = place_of_origin l (Segment n index)

unfoldable pub common_spot : Link → ℕ → Option (ℕ × ℕ)
common_spot l slot = place_of_origin l (Communal slot)

-- The stack pointer at the start is the end of the stack segment.
unfoldable pub stack_top : Link → Option (ℕ × ℕ)
stack_top l = option_map (λ r. (r.object, r.end)) (stack_row l)
