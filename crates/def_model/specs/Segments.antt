-- CODE {attribute}, DATA {attribute}, SEGMENTS {name [CLASS text] {attribute}}.
use Rattle.std.specs.Prelude.{ℕ, List, [], ◌∷◌, ◌++◌, Option, Some, None, Result}
use Rattle.def_model.specs.declared.keyword.Keyword.{Keyword}
use Rattle.def_model.specs.declared.keyword.Keyword.TheVariants as kw
use Rattle.def_model.specs.Lexemes.{Lexeme, keyword_of_lexeme}
use Rattle.def_model.specs.declared.refusal.DefKind.{DefKind}
use Rattle.def_model.specs.declared.draft.Words.{Words}
use Rattle.def_model.specs.declared.draft.Draft.{Draft}
use Rattle.def_model.specs.declared.draft.Place.TheVariants as place
use Rattle.def_model.specs.declared.draft.Owner.{Owner}
use Rattle.def_model.specs.declared.draft.Owner.TheVariants as owners
use Rattle.def_model.specs.declared.draft.Reading.{Reading}
use Rattle.lx_types.specs.Answers.{◌>>=◌}
use Rattle.def_model.specs.Draft.{at, no_words}
use Rattle.def_model.specs.TokenMeaning.{with_name, with_text}
use Rattle.def_model.specs.Attributes.{with_word}
use Rattle.def_model.specs.Statements.{statement}

-- Another item of SEGMENTS, or the next statement.
unfoldable pub segments : Draft → Lexeme → Result Reading DefKind
segments d t = with_name t (λ name. at d (place.Segment name)) (statement d t)

-- After the last attribute of a list.
unfoldable pub after_list : Draft → Owner → Words → Lexeme → Result Reading DefKind
after_list d owners.Code words t = statement (record d { code = Some words }) t
after_list d owners.Data words t = statement (record d { plain = Some words }) t
after_list d (owners.Segment name class) words t =
    segments (record d { segs = d.segs ++ record { name = name; class = class; words = words } ∷ [] }) t

abbrev pub attribute : Draft → Owner → Words → Option Keyword → Lexeme → Result Reading DefKind
attribute d list words (Some (kw.Attribute pair on)) t = with_word words pair on >>= (λ more. at d (place.Attributes list more))
attribute d list words (Some kw.NoEffect) t = at d (place.Attributes list words)
attribute d list words _ t = after_list d list words t

-- In a list of attributes.
unfoldable pub attributes : Draft → Owner → Words → Lexeme → Result Reading DefKind
attributes d list words t = attribute d list words (keyword_of_lexeme t) t

-- After the name of an item.
abbrev pub class_word : Draft → List ℕ → Option Keyword → Lexeme → Result Reading DefKind
class_word d name (Some kw.Class) t = at d (place.Class name)
class_word d name _ t = attributes d (owners.Segment name None) no_words t

unfoldable pub segment : Draft → List ℕ → Lexeme → Result Reading DefKind
segment d name t = class_word d name (keyword_of_lexeme t) t

unfoldable pub class : Draft → List ℕ → Lexeme → Result Reading DefKind
class d name t = with_text t (λ text. at d (place.Attributes (owners.Segment name (Some text)) no_words))
