use Rattle.std.proofs.Common.{◌≡◌, ◌++◌, take}
use Rattle.std.specs.List.{AllByRecursion, flat_map}
use Rattle.omf_write.specs.ObjectBytes.{grpdef_record}
use Rattle.omf_write.specs.ObjectFits.{GroupFits}
use Rattle.omf_write.proofs.segments.push_groups.Given as goal

abbrev pub invariant-loop-group : goal.invariant-loop-group
invariant-loop-group l = (l.out.items ≡ l.fn.out.items ++ flat_map (grpdef_record l.names) (take l.group-index l.groups)) × AllByRecursion GroupFits (take l.group-index l.groups)
