use Rattle.std.proofs.Common.{◌≡◌, ◌≤◌, ◌+◌, length, take}
use Rattle.omf_write.specs.declared.libraries.TheConstants.{LIBRARY_LIMIT}
use Rattle.omf_write.specs.Lent.{pages_for}
use Rattle.omf_write.proofs.import_libraries.len_of.Given as goal

abbrev pub invariant-loop-import : goal.invariant-loop-import
invariant-loop-import l = (l.len ≡ 32 + length (pages_for (take l.import-index l.imports))) × (l.len ≤ LIBRARY_LIMIT)
