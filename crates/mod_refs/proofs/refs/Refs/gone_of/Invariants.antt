use Rattle.std.proofs.Common.{◌≡◌, false, filter, not, take}
use Rattle.std.specs.Prelude.{All}
use Rattle.load_model.specs.Modules.{Library}
use Rattle.load_model.specs.State.{Process, Eager, with_process, reaches, is_reached}
use Rattle.mod_refs.specs.AllCounts.{AreCountsOfAll}
use Rattle.mod_refs.proofs.refs.Refs.gone_of.Given as goal

abbrev pub invariant-loop-k : goal.invariant-loop-k
invariant-loop-k l =
    (lib : Library) (e : Eager) (p : Process) → AreCountsOfAll lib e l.self → All (λ k. reaches lib p k ≡ false) l.left →
    l.gone.items ≡ filter (λ k. not (is_reached lib (with_process e l.pid p) k)) (take l.k-index l.left)
