use Rattle.std.proofs.Common.{◌≡◌, None, take}
use Rattle.sym_table.specs.Meanings.{missing_export_in}
use Rattle.sym_table.proofs.Exports.{exports_of}
use Rattle.sym_table.proofs.all.check_module_exports.Given as goal

abbrev pub invariant-loop-object : goal.invariant-loop-object
invariant-loop-object l = missing_export_in l.globals (exports_of (take l.object-index l.modules)) ≡ None
