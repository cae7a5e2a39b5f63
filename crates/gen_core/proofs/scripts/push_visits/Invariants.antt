use Rattle.std.proofs.Common.{◌≡◌, ◌++◌}
use Rattle.std.specs.List.{flat_map, range_with_len}
use Rattle.gen_model.specs.Sessions.{visit}
use Rattle.gen_core.proofs.scripts.push_visits.Given as goal

abbrev pub invariant-loop-before : goal.invariant-loop-before
invariant-loop-before l = l.commands ≡ l.initial.commands ++ flat_map visit (range_with_len 1 l.before)
