use Rattle.std.proofs.Common.{◌≡◌, find, drop}
use Rattle.load_model.specs.State.{nothing_yet}
use Rattle.load_model.specs.Initialising.{is_failing}
use Rattle.residence_table.proofs.failing.failing_module.Given as goal

-- None so far fails.
abbrev pub invariant-loop-call : goal.invariant-loop-call
invariant-loop-call l = find (is_failing (nothing_yet l.pairs) l.pid) l.calls ≡ find (is_failing (nothing_yet l.pairs) l.pid) (drop l.call-index l.calls)
