use Rattle.std.proofs.Common.{◌≡◌, ◌++◌, take}
use Rattle.std.specs.List.{AllByRecursion, flat_map}
use Rattle.omf_write.specs.ObjectFits.{PubFits}
use Rattle.omf_write.specs.ObjectBytes.{pubdef_record}
use Rattle.omf_write.proofs.symbols.push_publics.Given as goal

abbrev pub invariant-loop-public : goal.invariant-loop-public
invariant-loop-public l = (l.out.items ≡ l.fn.out.items ++ flat_map pubdef_record (take l.public-index l.publics)) × AllByRecursion PubFits (take l.public-index l.publics)
