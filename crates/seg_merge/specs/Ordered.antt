-- Logical segments in the order in which they stand.
use Rattle.std.specs.Prelude.{ℕ, ◌++◌, List, [], Option, map, min, fold, length, get_or, slice_get, if◌then◌else◌}
use Rattle.std.specs.List.{position_or_len}
use Rattle.std.specs.Option.{option_map_or}
use Rattle.link_model.specs.declared.keys.ObjectKey.{ObjectKey}
use Rattle.link_model.specs.declared.keys.ObjectKey.TheVariants.{Group, Wide, Narrow}
use Rattle.link_model.specs.Link.{Link}
use Rattle.link_model.specs.Parts.{Part, joins, segment_key}
use Rattle.link_model.specs.Communals.{parts}
use Rattle.link_model.specs.Flags.{flags_of}
use Rattle.link_model.specs.Order.{own_stack, own_stacks, object_key, parts_of}
use Rattle.seg_parts.specs.LogicalSegments.{heads_of}
use Rattle.seg_parts.specs.Objects.{object_shown}
use Rattle.seg_parts.specs.Parts.{shown}
use Rattle.seg_merge.specs.declared.ordered.OrderedSegment.{OrderedSegment}
use Rattle.seg_merge.specs.declared.ordered.Tables.{Tables}

-- A logical segment with its number, its object, its flags and its parts.
pub record Ordered : Type 0 where
  pub number : ℕ
  pub head : Part
  pub key : ObjectKey
  pub flags : ℕ
  pub parts : List Part

abbrev pub ordered_shown : OrderedSegment → Ordered
ordered_shown o = record { number = o.number; head = shown o.head; key = object_shown o.object; flags = o.flags; parts = map shown o.parts.now }

-- All parts of a link, with the linker's own stack.
abbrev pub all_parts : Link → List Part
all_parts l = parts l ++ own_stacks l

-- One of a link.
abbrev pub ordered_in : Link → Part → Ordered
ordered_in l s =
    record { number = position_or_len (joins s) (heads_of (all_parts l)); head = s; key = object_key l s; flags = flags_of l s; parts = parts_of l s }

-- The first of the groups with these places.
abbrev pub first_group : List (List ℕ) → List ℕ → Option (List ℕ)
first_group names groups = slice_get names (fold (λ (a : ℕ) (g : ℕ). min a g) (length names) groups)

-- The object of the one with a number, by the first parts, the flags and the places of groups of all.
abbrev pub key_at : List Part → List ℕ → List (List ℕ) → List (List ℕ) → ℕ → ObjectKey
key_at heads flags names groups n =
    option_map_or (λ g. Group g) (first_group names (get_or groups n []))
    (if (get_or heads n own_stack).wide then Wide (get_or flags n 0) else Narrow (segment_key (get_or heads n own_stack)))

-- The one with a number.
abbrev pub ordered_at : List Part → List ObjectKey → List ℕ → List (List Part) → ℕ → Ordered
ordered_at heads keys flags lists n =
    record { number = n; head = get_or heads n own_stack; key = get_or keys n (Wide 0); flags = get_or flags n 0; parts = get_or lists n [] }

abbrev pub table_at : Tables → ℕ → Ordered
table_at t n =
    ordered_at (map shown t.heads.items) (map object_shown t.objects.items) t.flags.items (map (λ v. map shown v.items) t.parts.items) n
