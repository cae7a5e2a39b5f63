-- Where there is no layout, and which refusal is answered.
use Rattle.std.specs.Prelude.{ℕ, Bool, not, ◌&&◌, ◌||◌, List, [], ◌∷◌, Option, map, length, take, if◌then◌else◌, nat_lt, ◌==◌, filter, find, sum_by}
use Rattle.std.specs.List.{list_any, enumerate_from}
use Rattle.std.specs.Option.{option_map}
use Rattle.std.specs.Bool.{beq}
use Rattle.lx_types.specs.declared.limits.TheConstants.{MAX_OBJECTS}
use Rattle.obj_types.specs.declared.object.TheConstants.{ALIGN_ABSOLUTE}
use Rattle.link_model.specs.declared.limits.TheConstants.{MAX_NARROW_OBJECT, MAX_MEMORY}
use Rattle.link_model.specs.declared.refusals.LayRefusal.{LayRefusal}
use Rattle.link_model.specs.declared.refusals.LayRefusal.TheVariants.{AbsoluteSeg, UseMixed, GroupSplit, TooLarge}
use Rattle.link_model.specs.Words.{first_conflict, first_of}
use Rattle.link_model.specs.Appearance.{firsts}
use Rattle.link_model.specs.Link.{Link}
use Rattle.link_model.specs.Parts.{Part, joins, contributions}
use Rattle.link_model.specs.Groups.{group_names, in_group, share_group}
use Rattle.link_model.specs.Communals.{parts}
use Rattle.link_model.specs.Flags.{flags_of}
use Rattle.link_model.specs.Rows.{Row, end_in, rows}

-- `AbsoluteSeg`: the first contribution with the alignment of an absolute segment.
abbrev pub absolute : Link → Option LayRefusal
absolute l = option_map (λ p. AbsoluteSeg p.name) (find (λ p. p.align == ALIGN_ABSOLUTE) (contributions l))

-- `UseMixed`: the first part whose use32 differs from that of an earlier part of its logical segment or of one of
-- its groups.
abbrev pub differ_in_use : Link → Part → Part → Bool
differ_in_use l a b = not (beq a.wide b.wide) && (joins a b || share_group l a b)

abbrev pub use_mixed : Link → Option LayRefusal
use_mixed l = option_map (λ p. UseMixed p.name) (first_conflict (differ_in_use l) [] (parts l))

-- `GroupSplit`: the first group that has a logical segment of an earlier one, or members with different flags.
abbrev pub has_member_of : Link → List (List ℕ) → List ℕ → Bool
has_member_of l earlier g = list_any (λ p. in_group l g p && list_any (λ h. in_group l h p) earlier) (parts l)

abbrev pub has_two_flags : Link → List ℕ → Bool
has_two_flags l g = nat_lt 1 (length (firsts (λ a b. a == b) (map (flags_of l) (filter (in_group l g) (parts l)))))

abbrev pub group_split : Link → Option LayRefusal
group_split l =
    option_map (λ q. GroupSplit q.1)
    (find (λ q. has_member_of l (take q.0 (group_names l)) q.1 || has_two_flags l q.1) (enumerate_from 0 (group_names l)))

-- `TooLarge`: the first logical segment, in order, with which its object ends past its limit, all objects together are
-- longer than 16 MiB, or there are more than 1,024 objects. `earlier` are the rows up to it.
abbrev pub object_limit : Part → ℕ
object_limit s = if s.wide then MAX_MEMORY else MAX_NARROW_OBJECT

-- What these rows have in all objects.
abbrev pub size_of_rows : List Row → ℕ
size_of_rows rs = sum_by (λ object. end_in object rs) (firsts (λ a b. a == b) (map (λ r. r.object) rs))

abbrev pub passes_limits : List Row → Row → Bool
passes_limits earlier r =
    nat_lt (object_limit r.segment) r.end || nat_lt MAX_MEMORY (size_of_rows earlier) || nat_lt MAX_OBJECTS r.object

abbrev pub too_large_in : List Row → Option LayRefusal
too_large_in rs =
    option_map (λ q. TooLarge q.1.segment.name) (find (λ q. passes_limits (take q.0 rs) q.1) (enumerate_from 1 rs))

abbrev pub too_large : Link → Option LayRefusal
too_large l = too_large_in (rows l)

-- The refusal, in this order.
unfoldable pub lay_refusal : Link → Option LayRefusal
lay_refusal l = first_of (absolute l ∷ use_mixed l ∷ group_split l ∷ too_large l ∷ [])
