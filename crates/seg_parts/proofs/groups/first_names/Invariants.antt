use Rattle.std.proofs.Common.{map, take}
use Rattle.seg_parts.proofs.NameLists.{AreNames}
use Rattle.seg_parts.proofs.groups.first_names.Given as goal

abbrev pub invariant-loop-name : goal.invariant-loop-name
invariant-loop-name l = AreNames (map (λ n. n.now) (take l.name-index l.all)) (map (λ n. n.now) l.names.items) l.places
