use Rattle.std.proofs.Common.{◌≡◌, take}
use Rattle.comdat_core.proofs.copies.copied_imports.Given as goal

abbrev pub invariant-loop-import : goal.invariant-loop-import
invariant-loop-import l = l.copies ≡ take l.import-index l.imports
