use Rattle.std.proofs.Common.{◌≡◌, take, ℕ, List}
use Rattle.std.specs.Option.{option_or}
use Rattle.name_table.specs.Entries.{value_named}
use Rattle.sym_table.specs.Leading.{has_import, given}
use Rattle.sym_table.proofs.choosing.add_imports.Given as goal

abbrev pub invariant-loop-import : goal.invariant-loop-import
invariant-loop-import l =
    (name : List ℕ) → value_named name l.table ≡ option_or (value_named name l.initial.table) (given (has_import (take l.import-index l.imports) name) l.value)
