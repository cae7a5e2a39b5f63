-- The map of a link.
use Rattle.std.specs.Prelude.{◌≡◌, ℕ, List, ◌++◌, Option, length, IsPermutation, IsSorted}
use Rattle.std.specs.List.{filter_map, flat_map, enumerate_from}
use Rattle.std.specs.Option.{option_map}
use Rattle.std.specs.declared.cmp.Ordering.{Ordering}
use Rattle.std.specs.Ordering.{nat_cmp, ordering_then}
use Rattle.std.specs.Cmp.Lexicographic.{slice_cmp}
use Rattle.lx_types.specs.Names.{uppercase}
use Rattle.obj_types.specs.declared.symbol.Common.{Common}
use Rattle.link_model.specs.Link.{Link}
use Rattle.link_model.specs.Layout.{objects, spot, common_spot}
use Rattle.link_model.specs.Symbols.{commons, imports}
use Rattle.map_model.specs.Listed.{address_at, Contribution, contributions, Listed, placed_publics, constants}
use Rattle.map_model.specs.Lines.{map_line, object_line, segment_line, common_line, public_line, constant_line, import_line}

-- ---- the lines of what stands somewhere

abbrev pub line_of_contribution : Link → Contribution → Option (List ℕ)
line_of_contribution l c = option_map (λ place. segment_line c (address_at l place)) (spot l c.by c.index)

abbrev pub line_of_common : Link → ℕ × (List ℕ × Common) → Option (List ℕ)
line_of_common l q = option_map (λ place. common_line q.1 (address_at l place)) (common_spot l q.0)

-- ---- the order of publics

abbrev pub name_cmp : List ℕ → List ℕ → Ordering
name_cmp a b = slice_cmp nat_cmp a b

-- By address, and then by the bytes of their names.
abbrev pub by_number : Listed → Listed → Ordering
by_number a b = ordering_then (nat_cmp a.number b.number) (name_cmp a.name b.name)

-- By the bytes of their names; no two that are accepted have one name.
abbrev pub by_name : Listed → Listed → Ordering
by_name a b = ordering_then (name_cmp a.name b.name) (nat_cmp a.number b.number)

-- These are the items, in order.
pub record AreInOrder (cmp : Listed → Listed → Ordering) (items sorted : List Listed) : Type 0 where
  pub same : IsPermutation items sorted
  pub ascend : IsSorted cmp sorted

-- ---- the text

-- The module, its objects, the contributions by chosen module and segment, the communals by slot, the publics that have a
-- place and the others, in these orders, and the import pairs by slot. The module's own name stands in upper case, as it does
-- in the file that a link writes, so that two names that mean one module have one map; all other names stand as they are.
unfoldable pub map_text : List ℕ → Link → List Listed → List Listed → List ℕ
map_text name l places values =
    map_line (uppercase name) (length (objects l))
    ++ (flat_map object_line (enumerate_from 1 (objects l))
    ++ (flat_map (λ line. line) (filter_map (line_of_contribution l) (contributions l))
    ++ (flat_map (λ line. line) (filter_map (line_of_common l) (enumerate_from 0 (commons l)))
    ++ (flat_map public_line places ++ (flat_map constant_line values ++ flat_map import_line (imports l))))))

-- The text is the map of a link under a name.
pub record IsMap (name : List ℕ) (l : Link) (text : List ℕ) : Type 0 where
  pub places : List Listed
  pub by_address : AreInOrder by_number (placed_publics l) places
  pub values : List Listed
  pub by_name : AreInOrder by_name (constants l) values
  pub is : text ≡ map_text name l places values
