use Rattle.std.proofs.Common.{◌≡◌, length}
use Rattle.std.specs.Prelude.{All}
use Rattle.load_model.specs.State.{new_process}
use Rattle.load_model.specs.ProcessCounts.{AreCountsOf}
use Rattle.mod_refs.proofs.refs.Refs.make.Given as goal

-- The counts so far are those of processes that have done nothing yet.
abbrev pub invariant-loop : goal.invariant-loop
invariant-loop l = record {
  long : length l.all_counts.items ≡ l.counter;
  all_counts : All (AreCountsOf l.lib new_process) l.all_counts.items;
}
