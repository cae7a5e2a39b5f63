-- A definition file, token by token.
use Rattle.std.specs.Prelude.{◌≡◌, ℕ, List, [], ◌∷◌, Result, Ok, Err, if◌then◌else◌}
use Rattle.lx_types.specs.declared.fail.Fail.{Fail}
use Rattle.lx_types.specs.declared.fail.Fail.TheVariants.{Said, NoMemory}
use Rattle.obj_types.specs.declared.definition.DefFile.{DefFile}
use Rattle.def_model.specs.Lexemes.{Lexeme, is_stray}
use Rattle.def_model.specs.Tokens.{Placed, tokens_of}
use Rattle.def_model.specs.declared.refusal.DefKind.{DefKind}
use Rattle.def_model.specs.declared.refusal.DefKind.TheVariants as kinds
use Rattle.def_model.specs.declared.refusal.DefRefusal.{DefRefusal}
use Rattle.def_model.specs.declared.draft.Draft.{Draft}
use Rattle.def_model.specs.declared.draft.Place.{Place}
use Rattle.def_model.specs.declared.draft.Place.TheVariants as place
use Rattle.def_model.specs.declared.draft.Reading.{Reading}
use Rattle.lx_types.specs.Answers.{◌>>=◌}
use Rattle.def_model.specs.Draft.{fresh}
use Rattle.def_model.specs.Statements.{statement, program, program_name, library, library_words, description, size, base, exe_type}
use Rattle.def_model.specs.Segments.{attributes, segments, segment, class}
use Rattle.def_model.specs.Exports.{exports, export, internal, ordinal}
use Rattle.def_model.specs.Imports.{imports, import_first, import_equals, import_module, import_dot}
use Rattle.def_model.specs.Meaning.{file_of}

-- What a token says after each place.
unfoldable pub token_at : Draft → Place → Lexeme → Result Reading DefKind
token_at d place.Statement t = statement d t
token_at d place.Program t = program d t
token_at d place.ProgramName t = program_name d t
token_at d place.Library t = library d t
token_at d place.LibraryWords t = library_words d t
token_at d place.Description t = description d t
token_at d (place.Attributes list words) t = attributes d list words t
token_at d place.Segments t = segments d t
token_at d (place.Segment name) t = segment d name t
token_at d (place.Class name) t = class d name t
token_at d place.Exports t = exports d t
token_at d (place.Export item part) t = export d item part t
token_at d (place.Internal item) t = internal d item t
token_at d (place.Ordinal item) t = ordinal d item t
token_at d place.Imports t = imports d t
token_at d (place.Import name) t = import_first d name t
token_at d (place.ImportEquals name) t = import_equals d name t
token_at d (place.ImportModule name module_name) t = import_module d name module_name t
token_at d (place.ImportDot name module_name) t = import_dot d name module_name t
token_at d (place.Size which) t = size d which t
token_at d place.Base t = base d t
token_at d place.ExeType t = exe_type d t

-- Bytes that are no token are refused first.
unfoldable pub step : Reading → Lexeme → Result Reading DefKind
step r t = if is_stray t then Err kinds.Token else token_at r.draft r.place t

-- A refusal has the line of its token.
abbrev pub at_line : {A : Type 0} → ℕ → Result A DefKind → Result A DefRefusal
at_line line (Ok x) = Ok x
at_line line (Err kind) = Err (record { line = line; kind = kind })

-- The same of a call's failure.
abbrev pub fail_at : ℕ → Fail DefKind → Fail DefRefusal
fail_at line (Said kind) = Said (record { line = line; kind = kind })
fail_at line NoMemory = NoMemory

-- The tokens from a place on. The first that is refused is the file's fault.
abbrev pub run : Reading → List Placed → Result DefFile DefRefusal
run r [] = Ok (file_of r.draft)
run r (t ∷ ts) = at_line t.line (step r t.lexeme) >>= (λ next. run next ts)

-- What the bytes of a file say, or their first fault.
abbrev pub read_of : List ℕ → Result DefFile DefRefusal
read_of bytes = run fresh (tokens_of bytes)

-- The bytes are a definition file that says so.
abbrev pub Def : List ℕ → DefFile → Type 0
Def bytes d = read_of bytes ≡ Ok d

-- They are none, and this is their first fault.
abbrev pub FirstFault : List ℕ → DefRefusal → Type 0
FirstFault bytes fault = read_of bytes ≡ Err fault
