-- What `find` gives.
use Rattle.std.specs.Prelude.{◌≡◌, ℕ, Some}
use Rattle.std.specs.Option.{option_and_then}
use Rattle.obj_types.specs.Items.{item}
use Rattle.obj_types.specs.declared.input.LinkInput.{LinkInput}
use Rattle.obj_types.specs.declared.object.ObjModule.{ObjModule}
use Rattle.obj_types.specs.declared.symbol.Ext.{Ext}
use Rattle.link_model.specs.Link.{link_of, chosen_module}
use Rattle.link_model.specs.Symbols.{Sym}
use Rattle.link_types.specs.Binding.{IsBound}
use Rattle.link_types.specs.Symbols.{SymbolTable}

-- External e of chosen module n has the meaning that the rules give it.
abbrev pub FindsMeanings : Type 0
FindsMeanings = (input : LinkInput) (s : SymbolTable) (n e : ℕ) (m : ObjModule) (x : Ext) → IsBound input s →
    chosen_module (link_of input s.chosen) n ≡ Some m → item m.exts e ≡ Some x
    → option_and_then (λ row. item row e) (item s.meanings n) ≡ Sym (link_of input s.chosen) n x
