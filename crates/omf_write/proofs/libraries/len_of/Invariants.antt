use Rattle.std.proofs.Common.{◌≡◌, ◌≤◌, ◌+◌, length, take}
use Rattle.implib_model.specs.Library.{pages_of}
use Rattle.omf_write.specs.declared.libraries.TheConstants.{LIBRARY_LIMIT}
use Rattle.omf_write.proofs.libraries.len_of.Given as goal

abbrev pub invariant-loop-own : goal.invariant-loop-own
invariant-loop-own l = (l.len ≡ 32 + length (pages_of (take l.own-index l.modules))) × (l.len ≤ LIBRARY_LIMIT)
