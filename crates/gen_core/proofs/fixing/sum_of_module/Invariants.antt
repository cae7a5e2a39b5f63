use Rattle.std.proofs.Common.{◌≡◌}
use Rattle.std.specs.List.{flat_map, range_with_len}
use Rattle.gen_core.specs.Fixing.{object_words, total}
use Rattle.gen_core.proofs.fixing.sum_of_module.Given as goal

abbrev pub invariant-loop-before : goal.invariant-loop-before
invariant-loop-before g l = l.sum ≡ total (flat_map (object_words l.lib l.bases l.number) (range_with_len 1 l.before))
