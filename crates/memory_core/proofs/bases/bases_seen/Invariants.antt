use Rattle.std.proofs.Common.{◌≡◌, map, take}
use Rattle.load_model.specs.State.{bases_of, residence_of}
use Rattle.memory_core.specs.Brought.{standing}
use Rattle.memory_core.proofs.bases.bases_seen.Given as goal

abbrev pub invariant-loop-k : goal.invariant-loop-k
invariant-loop-k l = l.mods ≡ map (λ k. record { «module» = k; objects = bases_of (residence_of (standing l.fresh) k) }) (take l.k-index l.k-items)
