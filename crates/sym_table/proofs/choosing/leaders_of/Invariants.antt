use Rattle.std.proofs.Common.{◌≡◌, take, ℕ, List}
use Rattle.name_table.specs.Entries.{value_named}
use Rattle.sym_table.specs.Leading.{leader}
use Rattle.sym_table.proofs.choosing.leaders_of.Given as goal

abbrev pub invariant-loop-index : goal.invariant-loop-index
invariant-loop-index l = (name : List ℕ) → value_named name l.table ≡ leader (take l.index l.libraries) name
