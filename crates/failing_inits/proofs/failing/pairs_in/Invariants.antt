use Rattle.std.proofs.Common.{length, ◌++◌, ◌≡◌}
use Rattle.std.specs.Prelude.{filter_map}
use Rattle.session_model.specs.FailingPairs.{pair_of}
use Rattle.session_model.specs.Kept.{failures_in}
use Rattle.failing_inits.proofs.failing.pairs_in.Given as goal

abbrev pub invariant-loop-found : goal.invariant-loop-found
invariant-loop-found l =
    l.found.items ++ filter_map (pair_of l.lib l.scripts) (failures_in l.left) ≡ filter_map (pair_of l.lib l.scripts) l.lines

abbrev pub decreases-loop-found : goal.decreases-loop-found
decreases-loop-found l = length l.left
