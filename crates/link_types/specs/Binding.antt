-- What the symbols of a link are.
use Rattle.std.specs.Prelude.{◌≡◌, ℕ, List, Some, None, map}
use Rattle.std.specs.List.{enumerate_from}
use Rattle.obj_types.specs.declared.input.LinkInput.{LinkInput}
use Rattle.link_model.specs.Choosing.{Chosen}
use Rattle.link_model.specs.Link.{Link, link_of}
use Rattle.link_model.specs.Symbols as rules
use Rattle.link_model.specs.SymbolRefusals.{sym_refusal}
use Rattle.link_types.specs.Globals.{global_in}
use Rattle.link_types.specs.Symbols.{SymbolTable}

-- These are the symbols of a link that has no symbol refusal.
pub record AreSymbolsOf (l : Link) (s : SymbolTable) : Type 0 where
  pub accepted : sym_refusal l ≡ None
  pub global : (name : List ℕ) → global_in s.globals name ≡ rules.global l name
  pub commons : s.commons ≡ rules.commons l
  pub imports : s.imports ≡ rules.imports l
  -- each external of each chosen module has its meaning
  pub meanings : map (map Some) s.meanings ≡ map (λ q. map (rules.Sym l q.0) q.1.exts) (enumerate_from 1 l.modules)

-- These are the symbols of an input.
pub record IsBound (input : LinkInput) (s : SymbolTable) : Type 0 where
  pub chosen : Chosen input s.chosen
  pub symbols : AreSymbolsOf (link_of input s.chosen) s
