use Rattle.std.proofs.Common.{◌≡◌, ◌++◌, take}
use Rattle.omf_write.specs.Lent.{AllNamesFit, pages_for}
use Rattle.omf_write.proofs.import_libraries.push_pages.Given as goal

abbrev pub invariant-loop-import : goal.invariant-loop-import
invariant-loop-import l = (l.out.items ≡ l.fn.out.items ++ pages_for (take l.import-index l.imports)) × AllNamesFit (take l.import-index l.imports)
