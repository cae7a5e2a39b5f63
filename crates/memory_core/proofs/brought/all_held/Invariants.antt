use Rattle.std.proofs.Common.{◌≡◌, map, take}
use Rattle.load_model.specs.Entering.{residence_from}
use Rattle.memory_model.specs.Memory.{module_memory}
use Rattle.memory_core.specs.Brought.{standing}
use Rattle.memory_core.proofs.brought.all_held.Given as goal

abbrev pub invariant-loop-one : goal.invariant-loop-one
invariant-loop-one g l = l.held.items ≡ map (λ f. module_memory l.lib (standing l.fresh) (residence_from f)) (take l.one-index l.fresh)
