use Rattle.std.proofs.Common.{◌++◌, map, take, List}
use Rattle.std.specs.List.{filter_map}
use Rattle.obj_types.specs.declared.symbol.Imp.{Imp}
use Rattle.link_fix.specs.Tables.{ArePairs}
use Rattle.link_core.specs.Exports.{pair_in}
use Rattle.link_core.proofs.tables.add_forwards.Given as goal

abbrev pub invariant-loop-export : goal.invariant-loop-export
invariant-loop-export l = (pairs : List Imp) → ArePairs l.initial.tables pairs → ArePairs l.tables (pairs ++ filter_map (pair_in l.places l.syms) (map (λ x. x.now) (take l.export-index l.exports)))
