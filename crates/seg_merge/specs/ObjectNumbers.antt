-- The numbers of objects.
use Rattle.std.specs.Prelude.{◌≡◌, ◌+◌, map}
use Rattle.link_model.specs.Link.{Link}
use Rattle.link_model.specs.Order.{ordered, object_key, same_object, object_number}
use Rattle.seg_parts.specs.LogicalSegments.{places}

-- A logical segment's object has the place of its key among those of all logical segments in order, from 1.
abbrev pub ObjectNumbers : Type 0
ObjectNumbers = (l : Link) → map (object_number l) (ordered l) ≡ map (λ n. n + 1) (places same_object (map (object_key l) (ordered l)))
