use Rattle.std.proofs.Common.{◌≡◌, ◌++◌, take}
use Rattle.std.specs.List.{AllByRecursion, flat_map}
use Rattle.implib_model.specs.ImportModule.{NamesFit}
use Rattle.omf_write.specs.ObjectBytes.{impdef_record}
use Rattle.omf_write.proofs.comments.push_imports.Given as goal

abbrev pub invariant-loop-imp : goal.invariant-loop-imp
invariant-loop-imp l = (l.out.items ≡ l.fn.out.items ++ flat_map impdef_record (take l.imp-index l.imports)) × AllByRecursion NamesFit (take l.imp-index l.imports)
