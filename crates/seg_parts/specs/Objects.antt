-- Objects by their names.
use Rattle.std.specs.Prelude.{ℕ, ◌+◌, List, Option, if◌then◌else◌}
use Rattle.std.specs.List.{fold}
use Rattle.std.specs.Option.{option_map_or}
use Rattle.std.specs.Borrow.{Bor}
use Rattle.lx_types.specs.declared.name.Name.{Name}
use Rattle.lx_types.specs.Addresses.{room}
use Rattle.link_model.specs.declared.keys.ObjectKey.{ObjectKey}
use Rattle.link_model.specs.declared.keys.ObjectKey.TheVariants as keys
use Rattle.link_model.specs.Parts as rules
use Rattle.seg_parts.specs.declared.objects.ObjectName.{ObjectName}
use Rattle.seg_parts.specs.declared.objects.ObjectName.TheVariants as names
use Rattle.seg_parts.specs.LogicalSegments.{name_shown}

abbrev pub object_shown : ObjectName → ObjectKey
object_shown (names.Group name) = keys.Group name.now
object_shown (names.Wide flags) = keys.Wide flags
object_shown (names.Narrow segment) = keys.Narrow (name_shown segment)

-- The object of a logical segment with this first part, first group and flags.
abbrev pub key_of : rules.Part → Option (Bor Name) → ℕ → ObjectKey
key_of p group flags =
    option_map_or (λ g. keys.Group g.now) group (if p.wide then keys.Wide flags else keys.Narrow (rules.segment_key p))

-- The base after objects of these sizes.
abbrev pub base_after : ℕ → List (ℕ × ℕ) → ℕ
base_after first sizes = fold (λ base q. base + room q.0) first sizes
