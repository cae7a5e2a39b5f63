use Rattle.std.proofs.Common.{◌≡◌, ◌++◌, map, take, filter, not}
use Rattle.link_model.specs.Symbols.{of_public}
use Rattle.sym_table.specs.Definitions.{shown}
use Rattle.sym_table.proofs.definitions.add_publics.Given as goal

abbrev pub invariant-loop-public : goal.invariant-loop-public
invariant-loop-public l =
    map shown l.found.items ≡ map shown l.initial.found.items ++ map (of_public l.by) (filter (λ p. not p.local) (take l.public-index l.publics))
