use Rattle.std.proofs.Common.{◌≡◌, map, take, bytes_eq}
use Rattle.link_model.specs.Appearance.{firsts}
use Rattle.seg_parts.specs.Groups.{name_entries}
use Rattle.seg_parts.specs.Parts.{shown}
use Rattle.seg_parts.specs.Order.{class_numbers}
use Rattle.seg_parts.proofs.order.classes_of.Given as goal

abbrev pub invariant-loop-head : goal.invariant-loop-head
invariant-loop-head l =
    (l.names ≡ name_entries (firsts bytes_eq (map (λ s. s.class) (map shown (take l.head-index l.heads)))))
    × (l.numbers.items ≡ class_numbers (map shown (take l.head-index l.heads)))
