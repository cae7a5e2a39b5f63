use Rattle.std.proofs.Common.{◌≡◌, map, take}
use Rattle.link_model.specs.Choosing.{modules_of}
use Rattle.link_model.proofs.modules.modules_at.Given as goal

abbrev pub invariant-loop-pick : goal.invariant-loop-pick
invariant-loop-pick l = map (λ m. m.now) l.modules.items ≡ modules_of l.input (take l.pick-index l.picks)
