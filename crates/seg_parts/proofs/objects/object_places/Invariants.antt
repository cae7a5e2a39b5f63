use Rattle.std.proofs.Common.{◌≡◌, map, take}
use Rattle.link_model.specs.Appearance.{firsts}
use Rattle.link_model.specs.Order.{same_object}
use Rattle.seg_parts.specs.LogicalSegments.{places}
use Rattle.seg_parts.specs.Objects.{object_shown}
use Rattle.seg_parts.proofs.objects.object_places.Given as goal

abbrev pub invariant-loop-object : goal.invariant-loop-object
invariant-loop-object l =
    (map object_shown l.names.keys ≡ firsts same_object (map object_shown (take l.object-index l.objects)))
    × (l.found.items ≡ places same_object (map object_shown (take l.object-index l.objects)))
