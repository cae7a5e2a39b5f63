use Rattle.std.proofs.Common.{◌≡◌, map}
use Rattle.std.specs.List.{range_with_len}
use Rattle.gen_model.specs.Sessions.{gen_script}
use Rattle.gen_core.proofs.scripts.session_scripts.Given as goal

abbrev pub invariant-loop-before : goal.invariant-loop-before
invariant-loop-before l = l.scripts ≡ map (gen_script l.count) (range_with_len 1 l.before)
