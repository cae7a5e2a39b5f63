-- Logical segments and objects, in order.
--
-- Classes stand by first appearance, and the logical segments of a class by first appearance. A group is one
-- object, a 16-bit segment in no group is one object, and the 32-bit segments in no group whose flags are
-- equal are one object. Objects are numbered from 1 by their first logical segment.
use Rattle.std.specs.Prelude.{ℕ, ◌+◌, Bool, true, false, not, ◌&&◌, List, [], ◌∷◌, ◌++◌, map, if◌then◌else◌, ◌==◌, bytes_eq, filter, codes}
use Rattle.std.specs.List.{find, flat_map, list_any}
use Rattle.std.specs.Option.{option_map_or}
use Rattle.obj_types.specs.declared.definition.ModKind.{ModKind}
use Rattle.obj_types.specs.declared.definition.ModKind.TheVariants.{Program, Library}
pub use Rattle.link_model.specs.declared.keys.ObjectKey.{ObjectKey}
pub use Rattle.link_model.specs.declared.keys.ObjectKey.TheVariants.{Group, Wide, Narrow}
use Rattle.link_model.specs.Appearance.{firsts, firsts_by, place_by}
use Rattle.link_model.specs.Link.{Link}
use Rattle.link_model.specs.Parts.{OwnStack, Part, is_stack, segment_key, same_segment, joins}
use Rattle.link_model.specs.Groups.{group_names, in_group}
use Rattle.link_model.specs.Communals.{parts}
use Rattle.link_model.specs.Flags.{flags_of}

-- ---- logical segments, each by its first part

abbrev pub segments : Link → List Part
segments l = firsts_by same_segment segment_key (parts l)

abbrev pub classes : Link → List (List ℕ)
classes l = firsts bytes_eq (map (λ s. s.class) (segments l))

abbrev pub by_class : Link → List Part
by_class l = flat_map (λ c. filter (λ s. bytes_eq s.class c) (segments l)) (classes l)

abbrev pub is_program : ModKind → Bool
is_program Program = true
is_program Library = false

-- A program without a stack segment gets one: use32, paragraph-aligned, joined with no other.
abbrev pub own_stack : Part
own_stack =
    record { origin = OwnStack; name = codes "STACK"; class = codes "STACK"; align = 3; combine = 0; wide = true; len = 0 }

abbrev pub own_stacks : Link → List Part
own_stacks l = if is_program l.def.kind && not (list_any is_stack (parts l)) then own_stack ∷ [] else []

-- The logical segments in the order in which they stand; the linker's own stack is the last.
unfoldable pub ordered : Link → List Part
ordered l = by_class l ++ own_stacks l

-- The parts of a logical segment, in order.
abbrev pub parts_of : Link → Part → List Part
parts_of l s = filter (joins s) (parts l ++ own_stacks l)

-- ---- objects, each by its first logical segment

-- The object of a part: that of its first group, else that of its flags or of its logical segment.
abbrev pub object_key : Link → Part → ObjectKey
object_key l p =
    option_map_or (λ g. Group g) (find (λ g. in_group l g p) (group_names l))
    (if p.wide then Wide (flags_of l p) else Narrow (segment_key p))

abbrev pub same_object : ObjectKey → ObjectKey → Bool
same_object (Group a) (Group b) = bytes_eq a b
same_object (Wide a) (Wide b) = a == b
same_object (Narrow a) (Narrow b) = same_segment a b
same_object (Group a) (Wide b) = false
same_object (Group a) (Narrow b) = false
same_object (Wide a) (Group b) = false
same_object (Wide a) (Narrow b) = false
same_object (Narrow a) (Group b) = false
same_object (Narrow a) (Wide b) = false

abbrev pub object_heads : Link → List Part
object_heads l = firsts_by same_object (object_key l) (ordered l)

-- The number of a logical segment's object.
abbrev pub object_number : Link → Part → ℕ
object_number l s =
    option_map_or (λ k. k + 1) (place_by same_object (object_key l) (object_key l s) (object_heads l)) 0
