use Rattle.std.proofs.Common.{◌≡◌, map, take, get_or}
use Rattle.load_core.specs.Enters.{nowhere}
use Rattle.load_core.proofs.all_bases.bases_among.Given as goal

abbrev pub invariant-loop-k : goal.invariant-loop-k
invariant-loop-k l = l.mods.items ≡ map (λ k. get_or l.all k nowhere) (take l.k-index l.modules)
