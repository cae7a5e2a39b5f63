-- Which imports a module gives to those that link with it: one for each of its names that has an entry.
-- "IMPLIB"; "32-bit Linear eXecutable Module Format": "Resident or Non-resident Name Table Entry".
use Rattle.std.specs.Prelude.{ℕ, ◌==◌, List, filter, map}
use Rattle.std.specs.List.{flat_map}
use Rattle.lx_types.specs.declared.entry.EntryKey.TheVariants.{Ordinal}
use Rattle.lx_types.specs.declared.parts.Parts.{Parts}
use Rattle.obj_types.specs.declared.symbol.Imp.{Imp}

-- a name, and its ordinal
abbrev pub Named : Type 0
Named = List ℕ × ℕ

-- the names of an ordinal, in the order of the tables
abbrev pub names_of : ℕ → List Named → List Named
names_of ordinal names = filter (λ n. n.1 == ordinal) names

-- The names that have entries, in the order of ordinals.
abbrev pub named_entries : Parts → List Named
named_entries m = flat_map (λ e. names_of e.0 m.names) m.entries

-- A name is imported by its ordinal.
abbrev pub import_named : List ℕ → Named → Imp
import_named from n = record { name = n.0; «module» = from; entry = Ordinal n.1 }

-- One import for each of these names, in their order.
abbrev pub imports_named : Parts → List Imp
imports_named m = map (import_named m.name) (named_entries m)
