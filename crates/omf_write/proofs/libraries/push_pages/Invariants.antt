use Rattle.std.proofs.Common.{◌≡◌, ◌++◌, take}
use Rattle.implib_model.specs.Library.{pages_of}
use Rattle.omf_write.proofs.libraries.push_pages.Given as goal

abbrev pub invariant-loop-own : goal.invariant-loop-own
invariant-loop-own l = l.out.items ≡ l.fn.out.items ++ pages_of (take l.own-index l.modules)
