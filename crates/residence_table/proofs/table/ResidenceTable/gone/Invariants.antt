use Rattle.std.proofs.Common.{◌≡◌, [], map, take}
use Rattle.load_model.specs.Leaving.{gone_of}
use Rattle.residence_table.specs.Placing.{residences_with, state_with}
use Rattle.residence_table.proofs.table.ResidenceTable.gone.Given as goal

abbrev pub invariant-loop-m : goal.invariant-loop-m
invariant-loop-m g l = l.gone.items ≡ map (gone_of (state_with (residences_with l.self []))) (take l.m-index l.modules)
