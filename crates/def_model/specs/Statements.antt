-- The statements, and what may stand in those that give one thing.
use Rattle.std.specs.Prelude.{ℕ, Bool, false, Option, Some, None, is_some, Result, Err, if◌then◌else◌}
use Rattle.std.specs.Option.{option_map_or}
use Rattle.obj_types.specs.declared.limits.TheConstants.{MAX_DATA}
use Rattle.obj_types.specs.declared.definition.ModKind.TheVariants as modules
use Rattle.def_model.specs.declared.keyword.Keyword.{Keyword}
use Rattle.def_model.specs.declared.keyword.Keyword.TheVariants as kw
use Rattle.def_model.specs.Lexemes.{Lexeme, keyword_of_lexeme, is_ending, is_equals}
use Rattle.def_model.specs.declared.refusal.DefKind.{DefKind}
use Rattle.def_model.specs.declared.refusal.DefKind.TheVariants as kinds
use Rattle.def_model.specs.declared.draft.Draft.{Draft}
use Rattle.def_model.specs.declared.draft.Place.{Place}
use Rattle.def_model.specs.declared.draft.Place.TheVariants as place
use Rattle.def_model.specs.declared.draft.Owner.TheVariants as owners
use Rattle.def_model.specs.declared.draft.Size.{Size}
use Rattle.def_model.specs.declared.draft.Size.TheVariants as sizes
use Rattle.def_model.specs.declared.draft.Reading.{Reading}
use Rattle.lx_types.specs.Answers.{◌>>=◌}
use Rattle.def_model.specs.Draft.{at, no_words}
use Rattle.def_model.specs.TokenMeaning.{with_name, with_text, with_number, within, base_of}
use Rattle.def_model.specs.Attributes.{agreed}

-- ---- where a statement is expected

-- What a keyword begins, if it begins a statement that is read.
abbrev pub begun_by : Keyword → Option Place
begun_by kw.Name = Some place.Program
begun_by kw.Library = Some place.Library
begun_by kw.Description = Some place.Description
begun_by kw.Code = Some (place.Attributes owners.Code no_words)
begun_by kw.Data = Some (place.Attributes owners.Data no_words)
begun_by kw.Segments = Some place.Segments
begun_by kw.Exports = Some place.Exports
begun_by kw.Imports = Some place.Imports
begun_by kw.StackSize = Some (place.Size sizes.Stack)
begun_by kw.HeapSize = Some (place.Size sizes.Heap)
begun_by kw.Base = Some place.Base
begun_by kw.ProtMode = Some place.Statement
begun_by kw.ExeType = Some place.ExeType
begun_by _ = None

-- The keyword begins a statement that stands in the file once at most, and stands there already. NAME and
-- LIBRARY count as one.
abbrev pub is_second : Draft → Keyword → Bool
is_second d kw.Name = is_some d.kind
is_second d kw.Library = is_some d.kind
is_second d kw.Description = is_some d.about
is_second d kw.Code = is_some d.code
is_second d kw.Data = is_some d.plain
is_second d kw.StackSize = is_some d.stack
is_second d kw.HeapSize = is_some d.heap
is_second d kw.Base = is_some d.base
is_second d _ = false

unfoldable pub keyword_statement : Draft → Keyword → Result Reading DefKind
keyword_statement d k = option_map_or (λ p. if is_second d k then Err kinds.Twice else at d p) (begun_by k) (Err kinds.Statement)

-- A statement, or the file's end.
unfoldable pub statement : Draft → Lexeme → Result Reading DefKind
statement d t = option_map_or (keyword_statement d) (keyword_of_lexeme t) (if is_ending t then at d place.Statement else Err kinds.Statement)

-- ---- NAME [name] [WINDOWAPI | WINDOWCOMPAT | NOTWINDOWCOMPAT]

abbrev pub window_word : Draft → Option Keyword → Lexeme → Result Reading DefKind
window_word d (Some kw.Window) t = at d place.Statement
window_word d _ t = statement d t

unfoldable pub program_name : Draft → Lexeme → Result Reading DefKind
program_name d t = window_word d (keyword_of_lexeme t) t

unfoldable pub program : Draft → Lexeme → Result Reading DefKind
program d t =
    let named = record d { kind = Some modules.Program } in
    with_name t (λ name. at (record named { name = Some name }) place.ProgramName) (program_name named t)

-- ---- LIBRARY [name] {INITGLOBAL | INITINSTANCE | TERMGLOBAL | TERMINSTANCE}

abbrev pub library_word : Draft → Option Keyword → Lexeme → Result Reading DefKind
library_word d (Some (kw.Init each)) t = agreed d.init_each each >>= (λ x. at (record d { init_each = x }) place.LibraryWords)
library_word d (Some (kw.Term each)) t = agreed d.term_each each >>= (λ x. at (record d { term_each = x }) place.LibraryWords)
library_word d _ t = statement d t

unfoldable pub library_words : Draft → Lexeme → Result Reading DefKind
library_words d t = library_word d (keyword_of_lexeme t) t

unfoldable pub library : Draft → Lexeme → Result Reading DefKind
library d t =
    let named = record d { kind = Some modules.Library } in
    with_name t (λ name. at (record named { name = Some name }) place.LibraryWords) (library_words named t)

-- ---- DESCRIPTION text, STACKSIZE number, HEAPSIZE number, BASE = number, EXETYPE name

unfoldable pub description : Draft → Lexeme → Result Reading DefKind
description d t = with_text t (λ text. at (record d { about = Some text }) place.Statement)

unfoldable pub sized : Draft → Size → Option ℕ → Result Reading DefKind
sized d sizes.Stack value = within 0 MAX_DATA value >>= (λ n. at (record d { stack = Some n }) place.Statement)
sized d sizes.Heap value = within 0 4294967295 value >>= (λ n. at (record d { heap = Some n }) place.Statement)
sized d sizes.Base value = base_of value >>= (λ n. at (record d { base = Some n }) place.Statement)

unfoldable pub size : Draft → Size → Lexeme → Result Reading DefKind
size d which t = with_number t (sized d which) (Err kinds.Expected)

unfoldable pub base : Draft → Lexeme → Result Reading DefKind
base d t = if is_equals t then at d (place.Size sizes.Base) else Err kinds.Expected

unfoldable pub exe_type : Draft → Lexeme → Result Reading DefKind
exe_type d t = with_name t (λ name. at d place.Statement) (Err kinds.Expected)
