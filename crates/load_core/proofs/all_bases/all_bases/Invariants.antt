use Rattle.std.proofs.Common.{◌≡◌, map}
use Rattle.std.specs.List.{range_with_len}
use Rattle.load_core.specs.Enters.{bases_with}
use Rattle.load_core.proofs.all_bases.all_bases.Given as goal

abbrev pub invariant-loop-k : goal.invariant-loop-k
invariant-loop-k l = l.mods.items ≡ map (bases_with l.table l.fresh) (range_with_len 0 l.k)
