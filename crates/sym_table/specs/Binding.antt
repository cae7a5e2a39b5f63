-- The names of a link that are not local, and what `bind` refuses.
use Rattle.std.specs.Prelude.{◌≡◌, ℕ, List, Some}
use Rattle.obj_types.specs.declared.input.LinkInput.{LinkInput}
use Rattle.link_model.specs.declared.symbols.Pick.{Pick}
use Rattle.link_model.specs.declared.refusals.SymRefusal.{SymRefusal}
use Rattle.link_model.specs.Choosing.{Chosen}
use Rattle.link_model.specs.Link.{Link, link_of}
use Rattle.link_model.specs.Symbols as rules
use Rattle.link_model.specs.SymbolRefusals.{sym_refusal}
use Rattle.link_types.specs.declared.symbols.GlobalNames.{GlobalNames}
use Rattle.link_types.specs.Globals.{global_in}

-- These are the names of a link that are not local.
pub record AreNamesOf (l : Link) (names : GlobalNames) : Type 0 where
  pub global : (name : List ℕ) → global_in names.globals name ≡ rules.global l name
  pub commons : names.commons ≡ rules.commons l
  pub imports : names.imports ≡ rules.imports l

-- The input's link has this refusal.
pub record IsRefused (input : LinkInput) (refusal : SymRefusal) : Type 0 where
  pub picks : List Pick
  pub chosen : Chosen input picks
  pub is : sym_refusal (link_of input picks) ≡ Some refusal
