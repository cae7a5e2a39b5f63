use Rattle.std.proofs.Common.{◌≡◌, ◌++◌, drop}
use Rattle.load_model.specs.State.{nothing_yet}
use Rattle.load_model.specs.Initialising.{is_failing, up_to}
use Rattle.residence_table.proofs.failing.push_up_to.Given as goal

-- The calls so far are there, and none of them fails.
abbrev pub invariant-loop-call : goal.invariant-loop-call
invariant-loop-call l =
    l.fn.into.items ++ up_to (is_failing (nothing_yet l.pairs) l.pid) l.calls ≡ l.into.items ++ up_to (is_failing (nothing_yet l.pairs) l.pid) (drop l.call-index l.calls)
