use Rattle.std.proofs.Common.{◌≡◌, filter, not, take}
use Rattle.load_model.specs.Modules.{Library}
use Rattle.load_model.specs.State.{Eager, is_reached}
use Rattle.mod_refs.specs.AllCounts.{AreCountsOfAll}
use Rattle.mod_refs.proofs.refs.Refs.unreached_of.Given as goal

abbrev pub invariant-loop-k : goal.invariant-loop-k
invariant-loop-k l = (lib : Library) (e : Eager) → AreCountsOfAll lib e l.self → l.unreached.items ≡ filter (λ k. not (is_reached lib e k)) (take l.k-index l.modules)
