use Rattle.std.proofs.Common.{◌≡◌, take, ℕ, List}
use Rattle.std.specs.Option.{option_or}
use Rattle.name_table.specs.Entries.{value_named}
use Rattle.sym_table.specs.Leading.{has_public, given}
use Rattle.sym_table.proofs.choosing.add_publics.Given as goal

abbrev pub invariant-loop-public : goal.invariant-loop-public
invariant-loop-public l =
    (name : List ℕ) → value_named name l.table ≡ option_or (value_named name l.initial.table) (given (has_public (take l.public-index l.publics) name) l.value)
