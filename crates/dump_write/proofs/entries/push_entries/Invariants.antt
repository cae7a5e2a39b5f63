use Rattle.std.proofs.Common.{◌≡◌, ◌++◌, drop}
use Rattle.std.specs.List.{flat_map}
use Rattle.dump_model.specs.Lines.{entry_line}
use Rattle.dump_write.proofs.entries.push_entries.Given as goal

abbrev pub invariant-loop-entry : goal.invariant-loop-entry
invariant-loop-entry l = l.out.items ++ flat_map entry_line (drop l.entry-index l.entries) ≡ l.initial.out.items ++ flat_map entry_line l.entries
