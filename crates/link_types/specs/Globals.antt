-- What a name means that is not local, by tables of names.
use Rattle.std.specs.Prelude.{ℕ, List, Option}
use Rattle.std.specs.Option.{option_or, option_and_then}
use Rattle.link_model.specs.declared.symbols.SymDef.{SymDef}
use Rattle.name_table.specs.Entries.{value_named}
use Rattle.link_types.specs.declared.symbols.Globals.{Globals}

abbrev pub global_in : Globals → List ℕ → Option SymDef
global_in globals name = option_or (option_and_then (λ m. m) (value_named name globals.defined)) (value_named name globals.communal)
