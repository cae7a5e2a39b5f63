-- Communals as parts, and with them all parts of a link: the contributions in chosen order, and after them the
-- communals in order of first COMDEF.
use Rattle.std.specs.Prelude.{ℕ, Bool, true, not, ◌&&◌, List, ◌++◌, map, if◌then◌else◌, codes}
use Rattle.std.specs.List.{find, list_any, enumerate_from}
use Rattle.std.specs.Option.{option_map_or}
use Rattle.obj_types.specs.declared.object.TheConstants.{ALIGN_DOUBLEWORD, COMBINE_PUBLIC}
use Rattle.obj_types.specs.declared.symbol.Common.{Common}
use Rattle.link_model.specs.Link.{Link}
use Rattle.link_model.specs.Symbols.{commons}
use Rattle.link_model.specs.Parts.{Communal, Part, contributions}
use Rattle.link_model.specs.Groups.{DGROUP, is_near_bss, is_far_bss, has_near, in_group}

-- Communals are use32, but in DGROUP their segment follows the group's first other member: a contribution, or where
-- the near communals are all that is beside the far ones, these.
abbrev pub follows : Link → (Part → Bool) → Bool → Bool
follows l own otherwise =
    option_map_or (λ p. p.wide) (find (λ p. in_group l DGROUP p && not (own p)) (contributions l)) otherwise

abbrev pub near_wide : Link → Bool
near_wide l = follows l is_near_bss true

abbrev pub far_wide : Link → Bool
far_wide l =
    if list_any (λ p. is_far_bss p && in_group l DGROUP p) (contributions l)
    then follows l is_far_bss (if has_near l then near_wide l else true)
    else true

-- A communal is a part that is public and doubleword-aligned.
abbrev pub of_common : Link → ℕ → Common → Part
of_common l slot c =
    record {
      origin = Communal slot;
      name = if c.far then codes "FAR_BSS" else codes "c_common";
      class = if c.far then codes "FAR_BSS" else codes "BSS";
      align = ALIGN_DOUBLEWORD;
      combine = COMBINE_PUBLIC;
      wide = if c.far then far_wide l else near_wide l;
      len = c.len;
    }

abbrev pub communals : Link → List Part
communals l = map (λ q. of_common l q.0 q.1.1) (enumerate_from 0 (commons l))

unfoldable pub parts : Link → List Part
parts l = contributions l ++ communals l
