use Rattle.std.proofs.Common.{◌≡◌}
use Rattle.link_model.specs.Clash.{all_modules, comdat_refusal}
use Rattle.comdat_core.specs.ModuleData.{HasData}
use Rattle.comdat_core.proofs.Clashes.{clash_from}
use Rattle.comdat_core.proofs.judging.judge.Given as goal

abbrev pub invariant-loop-index : goal.invariant-loop-index
invariant-loop-index l = (clash_from l.input l.picks l.index ≡ comdat_refusal l.input l.picks) × HasData (all_modules l.input) l.kept
