-- EXPORTS {name [= name] [@ number] [RESIDENTNAME] [NODATA] [number]}.
use Rattle.std.specs.Prelude.{ℕ, List, [], ◌∷◌, ◌++◌, true, false, Option, Some, None, Result, Err, if◌then◌else◌}
use Rattle.obj_types.specs.declared.symbol.Exp.{Exp}
use Rattle.def_model.specs.declared.keyword.Keyword.{Keyword}
use Rattle.def_model.specs.declared.keyword.Keyword.TheVariants as kw
use Rattle.def_model.specs.Lexemes.{Lexeme, keyword_of_lexeme, is_equals, is_at}
use Rattle.def_model.specs.declared.refusal.DefKind.{DefKind}
use Rattle.def_model.specs.declared.refusal.DefKind.TheVariants as kinds
use Rattle.def_model.specs.declared.draft.Draft.{Draft}
use Rattle.def_model.specs.declared.draft.Place.TheVariants as place
use Rattle.def_model.specs.declared.draft.Part.{Part}
use Rattle.def_model.specs.declared.draft.Part.TheVariants as parts
use Rattle.def_model.specs.declared.draft.Reading.{Reading}
use Rattle.lx_types.specs.Answers.{◌>>=◌}
use Rattle.def_model.specs.Draft.{at}
use Rattle.def_model.specs.TokenMeaning.{with_name, with_number, within}
use Rattle.def_model.specs.Statements.{statement}

-- An item that has its name alone, by which it is known within the module too.
abbrev pub export_of : List ℕ → Exp
export_of name = record { name = name; internal = name; ordinal = None; resident = false; nodata = false; words = 0 }

abbrev pub with_export : Draft → Exp → Draft
with_export d item = record d { exports = d.exports ++ item ∷ [] }

-- Another item, or the next statement.
unfoldable pub exports : Draft → Lexeme → Result Reading DefKind
exports d t = with_name t (λ name. at d (place.Export (export_of name) parts.Name)) (statement d t)

-- After each part of an item: the parts that may follow, then the next item.
unfoldable pub after_nodata : Draft → Exp → Lexeme → Result Reading DefKind
after_nodata d item t =
    with_number t (λ value. within 0 31 value >>= (λ n. at (with_export d (record item { words = n })) place.Exports))
    (exports (with_export d item) t)

abbrev pub nodata_word : Draft → Exp → Option Keyword → Lexeme → Result Reading DefKind
nodata_word d item (Some kw.NoData) t = at d (place.Export (record item { nodata = true }) parts.NoData)
nodata_word d item _ t = after_nodata d item t

unfoldable pub after_resident : Draft → Exp → Lexeme → Result Reading DefKind
after_resident d item t = nodata_word d item (keyword_of_lexeme t) t

abbrev pub resident_word : Draft → Exp → Option Keyword → Lexeme → Result Reading DefKind
resident_word d item (Some kw.ResidentName) t = at d (place.Export (record item { resident = true }) parts.Resident)
resident_word d item _ t = after_resident d item t

unfoldable pub after_ordinal : Draft → Exp → Lexeme → Result Reading DefKind
after_ordinal d item t = resident_word d item (keyword_of_lexeme t) t

unfoldable pub after_internal : Draft → Exp → Lexeme → Result Reading DefKind
after_internal d item t = if is_at t then at d (place.Ordinal item) else after_ordinal d item t

unfoldable pub after_name : Draft → Exp → Lexeme → Result Reading DefKind
after_name d item t = if is_equals t then at d (place.Internal item) else after_internal d item t

unfoldable pub export : Draft → Exp → Part → Lexeme → Result Reading DefKind
export d item parts.Name t = after_name d item t
export d item parts.Internal t = after_internal d item t
export d item parts.Ordinal t = after_ordinal d item t
export d item parts.Resident t = after_resident d item t
export d item parts.NoData t = after_nodata d item t

-- After `=` and after `@`.
unfoldable pub internal : Draft → Exp → Lexeme → Result Reading DefKind
internal d item t = with_name t (λ name. at d (place.Export (record item { internal = name }) parts.Internal)) (Err kinds.Expected)

unfoldable pub ordinal : Draft → Exp → Lexeme → Result Reading DefKind
ordinal d item t =
    with_number t (λ value. within 1 65535 value >>= (λ n. at d (place.Export (record item { ordinal = Some n }) parts.Ordinal)))
    (Err kinds.Expected)
