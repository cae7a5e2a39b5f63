use Rattle.std.proofs.Common.{◌≡◌, take, None}
use Rattle.sym_table.specs.Meanings.{missing_export_in}
use Rattle.sym_table.proofs.meanings.check_exports.Given as goal

abbrev pub invariant-loop-export : goal.invariant-loop-export
invariant-loop-export l = missing_export_in l.globals (take l.export-index l.exports) ≡ None
