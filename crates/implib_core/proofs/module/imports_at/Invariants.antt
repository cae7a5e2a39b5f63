use Rattle.std.proofs.Common.{◌≡◌, map, take}
use Rattle.implib_model.specs.ModuleImports.{import_named}
use Rattle.omf_write.specs.Lent.{imports_of, AllFit}
use Rattle.implib_core.specs.NamePlaces.{name_at}
use Rattle.implib_core.proofs.module.imports_at.Given as goal

abbrev pub invariant-loop-place : goal.invariant-loop-place
invariant-loop-place l = (imports_of l.imports.items ≡ map (λ p. import_named l.from (name_at l.names p)) (take l.place-index l.places)) × AllFit l.imports.items
