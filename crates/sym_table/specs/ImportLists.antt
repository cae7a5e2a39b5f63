-- A list of import pairs with a table of them.
use Rattle.std.specs.Prelude.{◌≡◌, List, [], ◌∷◌, ◌++◌, map, if◌then◌else◌}
use Rattle.std.specs.List.{list_any}
use Rattle.obj_types.specs.declared.symbol.Imp.{Imp}
use Rattle.link_model.specs.Symbols.{import_key, same_import}
use Rattle.sym_table.specs.declared.imports.Imports.{Imports}

-- The table's keys are the pairs, in their order.
abbrev pub AreListed : Imports → Type 0
AreListed i = map (λ e. e.0.pair.now) i.places.entries ≡ i.list

-- One more pair goes last, unless it is there.
abbrev pub with_import : List Imp → Imp → List Imp
with_import imports pair =
    if list_any (λ known. same_import (import_key pair) (import_key known)) imports then imports else imports ++ pair ∷ []
