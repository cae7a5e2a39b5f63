use Rattle.std.proofs.Common.{◌≡◌, ◌++◌, take}
use Rattle.std.specs.List.{AllByRecursion, flat_map}
use Rattle.omf_write.specs.ObjectFits.{ExtFits}
use Rattle.omf_write.specs.ObjectBytes.{extdef_record}
use Rattle.omf_write.proofs.symbols.push_externals.Given as goal

abbrev pub invariant-loop-ext : goal.invariant-loop-ext
invariant-loop-ext l = (l.out.items ≡ l.fn.out.items ++ flat_map extdef_record (take l.ext-index l.exts)) × AllByRecursion ExtFits (take l.ext-index l.exts)
