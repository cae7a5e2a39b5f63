use Rattle.std.proofs.Common.{◌≡◌, ◌≤◌, length, filter, take}
use Rattle.session_model.specs.Merging.{is_fault}
use Rattle.check_core.proofs.counts.fault_count.Given as goal

abbrev pub invariant-loop-entry : goal.invariant-loop-entry
invariant-loop-entry l = (l.count ≡ length (filter (λ x. is_fault x.deed) (take l.entry-index l.history))) × (l.count ≤ l.entry-index)
