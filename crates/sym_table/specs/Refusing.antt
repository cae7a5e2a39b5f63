-- Which refusal comes after `Twice`, by the names of a link.
use Rattle.std.specs.Prelude.{[], ◌∷◌, Option}
use Rattle.link_model.specs.declared.refusals.SymRefusal.{SymRefusal}
use Rattle.link_model.specs.Words.{first_of}
use Rattle.link_model.specs.Link.{Link, exports}
use Rattle.link_types.specs.declared.symbols.GlobalNames.{GlobalNames}
use Rattle.sym_table.specs.Counting.{imports_many_of}
use Rattle.sym_table.specs.Meanings.{missing_external_in, missing_export_in}

-- After the externals: the exports, then how many import modules there are.
abbrev pub last_refusal : GlobalNames → Link → Option SymRefusal
last_refusal names l = first_of (missing_export_in names.globals (exports l) ∷ imports_many_of names.imports ∷ [])

abbrev pub later_refusal : GlobalNames → Link → Option SymRefusal
later_refusal names l =
    first_of (missing_external_in names.globals l.modules ∷ missing_export_in names.globals (exports l) ∷ imports_many_of names.imports ∷ [])
