use Rattle.std.proofs.Common.{◌≡◌, ◌++◌, map, take}
use Rattle.link_core.proofs.exports.add_exports.Given as goal

abbrev pub invariant-loop-export : goal.invariant-loop-export
invariant-loop-export l = map (λ x. x.now) l.found.items ≡ map (λ x. x.now) l.initial.found.items ++ take l.export-index l.exports
