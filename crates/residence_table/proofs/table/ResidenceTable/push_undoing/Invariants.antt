use Rattle.std.proofs.Common.{◌≡◌, ◌++◌, length, map, take}
use Rattle.std.specs.Prelude.{filter_map, reverse}
use Rattle.load_model.specs.declared.deeds.Fresh.{Fresh}
use Rattle.load_model.specs.Leaving.{term_of}
use Rattle.residence_table.specs.Placing.{residences_with, state_with}
use Rattle.residence_table.proofs.table.ResidenceTable.push_undoing.Given as goal

abbrev pub invariant-loop-m : goal.invariant-loop-m
invariant-loop-m g l =
    l.calls.items ≡ l.fn.calls.items
    ++ filter_map (term_of l.lib (state_with (residences_with l.self l.fresh)) (map (λ (f : Fresh). f.«module») l.fresh)) (take (length l.yielded) (reverse l.modules))
