use Rattle.std.proofs.Common.{◌≡◌, map, take, List}
use Rattle.obj_types.specs.declared.symbol.Imp.{Imp}
use Rattle.link_model.specs.ImportTables.{procs_in}
use Rattle.link_fix.specs.Tables.{ArePairs}
use Rattle.link_core.specs.Exports.{offsets_of, entries_in}
use Rattle.link_core.proofs.entries.entries_by.Given as goal

abbrev pub invariant-loop-export : goal.invariant-loop-export
invariant-loop-export l = (pairs : List Imp) → ArePairs l.context.tables.now pairs → l.context.offsets.now ≡ offsets_of (procs_in pairs)
    → l.entries.items ≡ entries_in l.context.places.now l.context.syms.now pairs l.context.objects.now (map (λ x. x.now) (take l.export-index l.exports))
