use Rattle.std.proofs.Common.{map, take}
use Rattle.std.specs.List.{All}
use Rattle.link_core.proofs.AutoData.{HasNone}
use Rattle.link_core.proofs.auto.auto_of.Given as goal

abbrev pub invariant-loop-index : goal.invariant-loop-index
invariant-loop-index l = All HasNone (map (λ m. m.now) (take l.index l.modules))
