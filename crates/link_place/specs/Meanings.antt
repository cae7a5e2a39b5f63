-- What the externals of a link mean.
use Rattle.std.specs.Prelude.{◌≡◌, ℕ}
use Rattle.std.specs.Option.{option_and_then}
use Rattle.obj_types.specs.Items.{item}
use Rattle.link_model.specs.Link.{Link, chosen_module}
use Rattle.link_model.specs.Symbols.{Sym}
use Rattle.link_types.specs.Symbols.{SymbolTable}

-- The table has the meaning of each external.
abbrev pub HasMeanings : Link → SymbolTable → Type 0
HasMeanings l s =
    (n : ℕ) (index : ℕ) → option_and_then (λ row. item row index) (item s.meanings n)
    ≡ option_and_then (λ m. option_and_then (Sym l n) (item m.exts index)) (chosen_module l n)
