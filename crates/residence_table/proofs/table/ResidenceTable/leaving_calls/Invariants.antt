use Rattle.std.proofs.Common.{◌≡◌, [], take}
use Rattle.std.specs.Prelude.{filter_map}
use Rattle.load_model.specs.Leaving.{term_of}
use Rattle.residence_table.specs.Placing.{residences_with, state_with}
use Rattle.residence_table.proofs.table.ResidenceTable.leaving_calls.Given as goal

abbrev pub invariant-loop-m : goal.invariant-loop-m
invariant-loop-m g l = l.calls.items ≡ filter_map (term_of l.lib (state_with (residences_with l.self [])) l.leaving.gone.now) (take l.m-index l.m-items)
