-- The symbols of a link, as its callers see them.
use Rattle.std.specs.Prelude.{ℕ, List}
use Rattle.obj_types.specs.declared.symbol.Common.{Common}
use Rattle.obj_types.specs.declared.symbol.Imp.{Imp}
use Rattle.link_model.specs.declared.symbols.Pick.{Pick}
use Rattle.link_model.specs.declared.symbols.SymDef.{SymDef}
use Rattle.link_types.specs.declared.symbols.Globals.{Globals}

pub record SymbolTable : Type 0 where
  pub chosen : List Pick
  pub globals : Globals
  pub commons : List (List ℕ × Common)
  pub imports : List Imp
  pub meanings : List (List SymDef)
