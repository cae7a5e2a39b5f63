use Rattle.std.proofs.Common.{◌≡◌, ◌++◌, take}
use Rattle.std.specs.List.{AllByRecursion, flat_map}
use Rattle.omf_write.specs.ObjectFits.{ExpFits}
use Rattle.omf_write.specs.ObjectBytes.{expdef_record}
use Rattle.omf_write.proofs.comments.push_exports.Given as goal

abbrev pub invariant-loop-export : goal.invariant-loop-export
invariant-loop-export l = (l.out.items ≡ l.fn.out.items ++ flat_map expdef_record (take l.export-index l.exports)) × AllByRecursion ExpFits (take l.export-index l.exports)
