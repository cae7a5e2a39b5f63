-- Definitions that are lent, and those of the rules.
use Rattle.std.specs.Prelude.{List, [], Option, Some, bytes_eq}
use Rattle.std.specs.List.{find, filter_map}
use Rattle.obj_types.specs.declared.symbol.Imp.{Imp}
use Rattle.link_model.specs.declared.symbols.SymDef.{SymDef}
use Rattle.link_model.specs.declared.symbols.SymDef.TheVariants as means
use Rattle.link_model.specs.Appearance.{firsts_by, place_by}
use Rattle.std.specs.Option.{option_map, option_and_then}
use Rattle.link_model.specs.declared.refusals.SymRefusal.{SymRefusal}
use Rattle.link_model.specs.declared.refusals.SymRefusal.TheVariants.{Twice}
use Rattle.link_model.specs.Words.{first_conflict}
use Rattle.link_model.specs.SymbolRefusals.{conflicts}
use Rattle.sym_table.specs.declared.definitions.Meaning.{Meaning}
use Rattle.sym_table.specs.declared.definitions.Meaning.TheVariants.{Public, Imported}
use Rattle.sym_table.specs.declared.definitions.Definition.{Definition}
use Rattle.link_model.specs.Symbols as rules

abbrev pub meaning_shown : Meaning → rules.Meaning
meaning_shown (Public place) = rules.Public place
meaning_shown (Imported pair) = rules.Imported pair.now

abbrev pub shown : Definition → rules.Definition
shown d = record { name = d.name.now; by = d.by; meaning = meaning_shown d.meaning }

-- `Twice` of these definitions.
abbrev pub twice_among : List rules.Definition → Option SymRefusal
twice_among found =
    option_and_then (λ second. option_map (λ first. Twice second.name first.by second.by) (find (λ d. bytes_eq d.name second.name) found))
    (first_conflict conflicts [] found)

-- The import pairs of these definitions.
abbrev pub imports_among : List rules.Definition → List Imp
imports_among found = firsts_by rules.same_import rules.import_key (filter_map (λ d. rules.pair_of d.meaning) found)

-- What a definition means, where these are the import pairs.
abbrev pub meaning_among : List Imp → rules.Definition → rules.Meaning → Option SymDef
meaning_among imports d (rules.Public place) = Some (rules.at_place d.by place)
meaning_among imports d (rules.Imported pair) =
    option_map (λ slot. means.Import slot) (place_by rules.same_import rules.import_key (rules.import_key pair) imports)
