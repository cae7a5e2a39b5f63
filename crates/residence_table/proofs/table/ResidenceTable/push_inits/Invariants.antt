use Rattle.std.proofs.Common.{◌≡◌, ◌++◌, map, take}
use Rattle.std.specs.Prelude.{filter_map}
use Rattle.load_model.specs.declared.deeds.Fresh.{Fresh}
use Rattle.load_model.specs.Entering.{init_of}
use Rattle.residence_table.specs.Placing.{residences_with, state_with}
use Rattle.residence_table.proofs.table.ResidenceTable.push_inits.Given as goal

abbrev pub invariant-loop-m : goal.invariant-loop-m
invariant-loop-m g l =
    l.calls.items ≡ l.fn.calls.items
    ++ filter_map (init_of l.lib (state_with (residences_with l.self l.entering.fresh.now)) (map (λ (f : Fresh). f.«module») l.entering.fresh.now)) (take l.m-index l.m-items)
