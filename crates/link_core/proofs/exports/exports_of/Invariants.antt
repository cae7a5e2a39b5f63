use Rattle.std.proofs.Common.{◌≡◌, map, take}
use Rattle.std.specs.List.{flat_map}
use Rattle.link_core.proofs.exports.exports_of.Given as goal

abbrev pub invariant-loop-object : goal.invariant-loop-object
invariant-loop-object l = map (λ x. x.now) l.found.items ≡ flat_map (λ m. m.exports) (map (λ m. m.now) (take l.object-index l.modules))
