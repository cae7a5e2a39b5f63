use Rattle.std.proofs.Common.{◌≡◌, ◌++◌, take}
use Rattle.omf_write.specs.Joined.{joined_pages}
use Rattle.omf_write.proofs.joining.push_all.Given as goal

abbrev pub invariant-loop-library : goal.invariant-loop-library
invariant-loop-library l = l.out.items ≡ l.fn.out.items ++ joined_pages (take l.library-index l.libraries)
