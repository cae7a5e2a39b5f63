-- The table of first definitions.
use Rattle.std.specs.Prelude.{ℕ, Bool, List, Option, Some, None, if◌then◌else◌, map, bytes_eq}
use Rattle.std.specs.Option.{option_and_then}
use Rattle.name_table.specs.Entries.{value_named}
use Rattle.link_model.specs.declared.refusals.SymRefusal.{SymRefusal}
use Rattle.link_model.specs.declared.refusals.SymRefusal.TheVariants.{Twice}
use Rattle.link_model.specs.SymbolRefusals.{counts_once}
use Rattle.link_model.specs.Appearance.{firsts}
use Rattle.sym_table.specs.declared.definitions.Definition.{Definition}
use Rattle.sym_table.specs.Definitions.{meaning_shown}

-- An entry of a table of names has the name of another.
abbrev pub same_name : {V : Type 0} → (List ℕ × V) → (List ℕ × V) → Bool
same_name a b = bytes_eq a.0 b.0

abbrev pub named : Definition → List ℕ × Definition
named d = (d.name.now, d)

abbrev pub firsts_of : List Definition → List (List ℕ × Definition)
firsts_of found = firsts same_name (map named found)

-- `Twice` of a definition beside the first ones, where its name has one of them and the two do not count once.
abbrev pub second_in : List (List ℕ × Definition) → Definition → Option SymRefusal
second_in first d =
    option_and_then (λ f. if counts_once (meaning_shown f.meaning) (meaning_shown d.meaning) then None else Some (Twice d.name.now f.by d.by))
    (value_named d.name.now first)
