use Rattle.std.proofs.Common.{◌≡◌, length, map, take}
use Rattle.std.specs.Prelude.{sum_by}
use Rattle.link_place.proofs.fixups.count_fixes.Given as goal

abbrev pub invariant-loop-object : goal.invariant-loop-object
invariant-loop-object l = l.count ≡ sum_by (λ m. length m.fixes) (map (λ m. m.now) (take l.object-index l.modules))
