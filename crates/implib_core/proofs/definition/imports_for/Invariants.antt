use Rattle.std.proofs.Common.{◌≡◌, take}
use Rattle.implib_model.specs.Imports.{imports_for}
use Rattle.omf_write.specs.Lent.{imports_of, AllFit}
use Rattle.implib_core.proofs.definition.imports_for.Given as goal

abbrev pub invariant-loop-export : goal.invariant-loop-export
invariant-loop-export l = (imports_of l.imports.items ≡ imports_for l.from (take l.export-index l.exports)) × AllFit l.imports.items
