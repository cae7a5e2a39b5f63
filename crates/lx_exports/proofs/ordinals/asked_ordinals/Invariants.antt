use Rattle.std.proofs.Common.{◌≡◌, ◌++◌, drop}
use Rattle.link_model.specs.Exports.{given}
use Rattle.lx_exports.specs.Exports.{asked}
use Rattle.lx_exports.proofs.ordinals.asked_ordinals.Given as goal

abbrev pub invariant-loop-export : goal.invariant-loop-export
invariant-loop-export l = l.asked_for.items ++ given (asked (drop l.export-index l.exports)) ≡ given (asked l.exports)
