-- IMPORTS {[name =] name . (name | number)}.
use Rattle.std.specs.Prelude.{ℕ, List, [], ◌∷◌, ◌++◌, Option, Some, None, unwrap_or, Result, Err, if◌then◌else◌}
use Rattle.std.specs.Option.{option_map_or}
use Rattle.lx_types.specs.declared.entry.EntryKey.TheVariants.{Ordinal, Named}
use Rattle.obj_types.specs.declared.symbol.Imp.{Imp}
use Rattle.def_model.specs.Lexemes.{Lexeme, is_equals, is_dot, name_of_lexeme}
use Rattle.def_model.specs.declared.refusal.DefKind.{DefKind}
use Rattle.def_model.specs.declared.refusal.DefKind.TheVariants as kinds
use Rattle.def_model.specs.declared.draft.Draft.{Draft}
use Rattle.def_model.specs.declared.draft.Place.TheVariants as place
use Rattle.def_model.specs.declared.draft.Reading.{Reading}
use Rattle.lx_types.specs.Answers.{◌>>=◌}
use Rattle.def_model.specs.Draft.{at}
use Rattle.def_model.specs.TokenMeaning.{name_of, with_name, with_number, within}
use Rattle.def_model.specs.Statements.{statement}

abbrev pub with_import : Draft → Imp → Draft
with_import d item = record d { imports = d.imports ++ item ∷ [] }

-- Another item, or the next statement.
unfoldable pub imports : Draft → Lexeme → Result Reading DefKind
imports d t = with_name t (λ name. at d (place.Import name)) (statement d t)

-- After the first name, which is the internal one where `=` follows, else the module's.
unfoldable pub import_first : Draft → List ℕ → Lexeme → Result Reading DefKind
import_first d name t =
    if is_equals t then at d (place.ImportEquals name)
    else if is_dot t then at d (place.ImportDot None name)
    else Err kinds.Expected

unfoldable pub import_equals : Draft → List ℕ → Lexeme → Result Reading DefKind
import_equals d internal t = with_name t (λ name. at d (place.ImportModule internal name)) (Err kinds.Expected)

unfoldable pub import_module : Draft → List ℕ → List ℕ → Lexeme → Result Reading DefKind
import_module d internal name t = if is_dot t then at d (place.ImportDot (Some internal) name) else Err kinds.Expected

-- The entry by name, which is the internal name too where there is none.
abbrev pub import_named : Draft → Option (List ℕ) → List ℕ → List ℕ → Result Reading DefKind
import_named d internal module_name name =
    at (with_import d (record { name = unwrap_or internal name; «module» = module_name; entry = Named name })) place.Imports

abbrev pub import_by_name : Draft → Option (List ℕ) → List ℕ → List ℕ → Result Reading DefKind
import_by_name d internal module_name bytes = name_of bytes >>= import_named d internal module_name

-- The entry by ordinal, which wants an internal name.
abbrev pub import_ordinal : Draft → Option (List ℕ) → List ℕ → Option ℕ → Result Reading DefKind
import_ordinal d None module_name value = Err kinds.Expected
import_ordinal d (Some internal) module_name value =
    within 1 65535 value >>= (λ n. at (with_import d (record { name = internal; «module» = module_name; entry = Ordinal n })) place.Imports)

-- After `.`.
unfoldable pub import_dot : Draft → Option (List ℕ) → List ℕ → Lexeme → Result Reading DefKind
import_dot d internal module_name t =
    option_map_or (import_by_name d internal module_name) (name_of_lexeme t)
    (with_number t (import_ordinal d internal module_name) (Err kinds.Expected))
