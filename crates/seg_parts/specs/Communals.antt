-- Communals as parts, where the logical segments of DGROUP are known by their names.
use Rattle.std.specs.Prelude.{ℕ, Bool, true, not, ◌&&◌, List, map, if◌then◌else◌, bytes_eq, find, codes}
use Rattle.std.specs.List.{list_any}
use Rattle.std.specs.Option.{option_map_or}
use Rattle.obj_types.specs.declared.object.TheConstants.{ALIGN_DOUBLEWORD, COMBINE_PUBLIC}
use Rattle.obj_types.specs.declared.definition.ModKind.{ModKind}
use Rattle.obj_types.specs.declared.symbol.Common.{Common}
use Rattle.link_model.specs.declared.keys.Origin.TheVariants as origins
use Rattle.link_model.specs.Parts as rules
use Rattle.link_model.specs.Groups.{is_far_bss}
use Rattle.link_model.specs.Order.{is_program}
use Rattle.seg_parts.specs.declared.logical_segments.SegmentName.{SegmentName}
use Rattle.seg_parts.specs.LogicalSegments.{name_shown}

-- The part's logical segment is one of these.
abbrev pub is_in : List SegmentName → rules.Part → Bool
is_in names p = list_any (rules.same_segment (rules.segment_key p)) (map name_shown names)

-- The part is of the public segment of a name and class.
abbrev pub is_of : List ℕ → List ℕ → rules.Part → Bool
is_of name class p = rules.is_joint p && (bytes_eq p.name name && bytes_eq p.class class)

abbrev pub is_other : List SegmentName → (rules.Part → Bool) → rules.Part → Bool
is_other names own p = is_in names p && not (own p)

-- Whether the first of these parts that is in DGROUP, and not of the communals' own segment, is use32.
abbrev pub followed : List SegmentName → (rules.Part → Bool) → List rules.Part → Bool → Bool
followed names own ps otherwise = option_map_or (λ p. p.wide) (find (is_other names own) ps) otherwise

abbrev pub far_followed : List SegmentName → List rules.Part → Bool → Bool
far_followed names ps otherwise =
    if list_any (λ p. is_far_bss p && is_in names p) ps then followed names is_far_bss ps otherwise else true

-- A communal as a part, where the near ones and the far ones have these widths.
abbrev pub communal_of : Bool → Bool → ℕ → Common → rules.Part
communal_of near far slot c =
    record {
      origin = origins.Communal slot;
      name = if c.far then codes "FAR_BSS" else codes "c_common";
      class = if c.far then codes "FAR_BSS" else codes "BSS";
      align = ALIGN_DOUBLEWORD;
      combine = COMBINE_PUBLIC;
      wide = if c.far then far else near;
      len = c.len;
    }

-- A program without a stack segment gets one.
abbrev pub wants_stack : ModKind → List rules.Part → Bool
wants_stack kind ps = is_program kind && not (list_any rules.is_stack ps)
