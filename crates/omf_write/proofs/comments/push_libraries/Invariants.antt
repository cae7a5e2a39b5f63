use Rattle.std.proofs.Common.{◌≡◌, ◌++◌, take}
use Rattle.std.specs.List.{AllByRecursion, flat_map}
use Rattle.lx_types.specs.Names.{IsName}
use Rattle.omf_write.specs.ObjectBytes.{deflib_record}
use Rattle.omf_write.proofs.comments.push_libraries.Given as goal

abbrev pub invariant-loop-name : goal.invariant-loop-name
invariant-loop-name l = (l.out.items ≡ l.fn.out.items ++ flat_map deflib_record (take l.name-index l.names)) × AllByRecursion IsName (take l.name-index l.names)
