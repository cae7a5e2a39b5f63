use Rattle.std.proofs.Common.{◌≡◌, ◌≤◌, ◌+◌, length, take}
use Rattle.omf_write.specs.Joined.{joined_pages}
use Rattle.omf_write.specs.declared.libraries.TheConstants.{LIBRARY_LIMIT}
use Rattle.omf_write.proofs.joining.len_together.Given as goal

abbrev pub invariant-loop-library : goal.invariant-loop-library
invariant-loop-library l = (l.len ≡ 32 + length (joined_pages (take l.library-index l.libraries))) × (l.len ≤ LIBRARY_LIMIT)
