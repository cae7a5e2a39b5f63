use Rattle.std.proofs.Common.{◌≡◌}
use Rattle.std.specs.List.{flat_map, range_with_len}
use Rattle.gen_core.specs.Fixing.{module_words, total}
use Rattle.gen_core.proofs.fixing.sum_of_words.Given as goal

abbrev pub invariant-loop-module : goal.invariant-loop-module
invariant-loop-module g l = l.sum ≡ total (flat_map (module_words l.lib l.bases) (range_with_len 0 l.«module»))
