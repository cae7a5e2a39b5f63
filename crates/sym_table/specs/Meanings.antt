-- What names mean, by tables of names.
use Rattle.std.specs.Prelude.{ℕ, ◌&&◌, not, List, Option, map, find, bytes_eq, is_none, if◌then◌else◌}
use Rattle.std.specs.List.{enumerate_from}
use Rattle.std.specs.Option.{option_map}
use Rattle.obj_types.specs.declared.object.ObjModule.{ObjModule}
use Rattle.obj_types.specs.declared.symbol.Ext.{Ext}
use Rattle.obj_types.specs.declared.symbol.Imp.{Imp}
use Rattle.obj_types.specs.declared.symbol.PubPlace.{PubPlace}
use Rattle.link_model.specs.declared.symbols.SymDef.{SymDef}
use Rattle.obj_types.specs.declared.symbol.Exp.{Exp}
use Rattle.link_model.specs.declared.refusals.SymRefusal.{SymRefusal}
use Rattle.link_model.specs.declared.refusals.SymRefusal.TheVariants.{Missing}
use Rattle.link_model.specs.Words.{first_of}
use Rattle.link_model.specs.SymbolRefusals.{is_exportable}
use Rattle.link_model.specs.Symbols as rules
use Rattle.name_table.specs.Entries.{value_named}
use Rattle.link_types.specs.Globals.{global_in}
use Rattle.sym_table.specs.Definitions.{meaning_among}
use Rattle.link_types.specs.declared.symbols.Globals.{Globals}

-- A definition's name with its meaning, where these are the import pairs.
abbrev pub defined_by : List Imp → rules.Definition → List ℕ × Option SymDef
defined_by imports d = (d.name, meaning_among imports d d.meaning)

abbrev pub local_in : ℕ → ObjModule → List ℕ → Option SymDef
local_in by m name = option_map (λ p. rules.at_place by p.place) (find (λ p. p.local && bytes_eq p.name name) m.pubs)

abbrev pub meaning_in : Globals → ℕ → ObjModule → Ext → Option SymDef
meaning_in globals by m e = if e.local then local_in by m e.name else global_in globals e.name

-- The same, by a table of the module's local publics.
abbrev pub meaning_by : Globals → ℕ → List (List ℕ × PubPlace) → Ext → Option SymDef
meaning_by globals by locals e =
    if e.local then option_map (rules.at_place by) (value_named e.name locals) else global_in globals e.name

abbrev pub row_in : Globals → ℕ → ObjModule → List (Option SymDef)
row_in globals by m = map (meaning_in globals by m) m.exts

-- The meanings of all externals, module by module.
abbrev pub rows_in : Globals → List ObjModule → List (List (Option SymDef))
rows_in globals modules = map (λ q. row_in globals q.0 q.1) (enumerate_from 1 modules)

-- The first of these externals that means nothing.
abbrev pub missing_by : (Ext → Option SymDef) → List Ext → Option SymRefusal
missing_by meaning es = option_map (λ e. Missing e.name) (find (λ e. is_none (meaning e)) es)

-- The first external of a module that means nothing.
abbrev pub missing_row : Globals → ℕ → ObjModule → Option SymRefusal
missing_row globals by m = missing_by (meaning_in globals by m) m.exts

-- The first of all modules that has one.
abbrev pub missing_external_in : Globals → List ObjModule → Option SymRefusal
missing_external_in globals modules = first_of (map (λ q. missing_row globals q.0 q.1) (enumerate_from 1 modules))

-- The first of these exports whose internal name means nothing or a constant.
abbrev pub missing_export_in : Globals → List Exp → Option SymRefusal
missing_export_in globals xs =
    option_map (λ x. Missing x.internal) (find (λ x. not (is_exportable (global_in globals x.internal))) xs)
