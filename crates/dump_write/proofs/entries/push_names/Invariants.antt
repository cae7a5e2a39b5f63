use Rattle.std.proofs.Common.{◌≡◌, ◌++◌, drop}
use Rattle.std.specs.List.{flat_map}
use Rattle.dump_model.specs.Lines.{name_line}
use Rattle.dump_write.proofs.entries.push_names.Given as goal

abbrev pub invariant-loop-named : goal.invariant-loop-named
invariant-loop-named l = l.out.items ++ flat_map name_line (drop l.named-index l.names) ≡ l.initial.out.items ++ flat_map name_line l.names
