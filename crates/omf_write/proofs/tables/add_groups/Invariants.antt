use Rattle.std.proofs.Common.{◌≡◌, drop}
use Rattle.omf_write.specs.ObjectBytes.{name_records}
use Rattle.omf_write.specs.ObjectNames.{with_names, group_names}
use Rattle.omf_write.proofs.tables.add_groups.Given as goal

abbrev pub invariant-loop-group : goal.invariant-loop-group
invariant-loop-group l =
    (with_names l.names (group_names (drop l.group-index l.groups)) ≡ with_names l.fn.names (group_names l.groups)) × (l.records.items ≡ name_records l.names)
