use Rattle.std.proofs.Common.{◌≡◌, take, ℕ, List}
use Rattle.name_table.specs.Entries.{value_named}
use Rattle.sym_table.proofs.LocalTables.{local_place}
use Rattle.sym_table.proofs.locals.locals_of.Given as goal

abbrev pub invariant-loop-public : goal.invariant-loop-public
invariant-loop-public l = (name : List ℕ) → value_named name l.table ≡ local_place name (take l.public-index l.publics)
