-- What stands before a place within a file: whole statements, and a part of the next one.
use Rattle.std.proofs.Common.{◌≡◌, ℕ, List, ◌∷◌, Bool, false}
use Rattle.std.specs.Prelude.{Option, Some, None, IfSome}
use Rattle.std.specs.Option.{option_map}
use Rattle.def_model.specs.declared.keyword.Keyword.{Keyword}
use Rattle.def_model.specs.declared.keyword.Keyword.TheVariants as kw
use Rattle.def_model.specs.Lexemes.{Lexeme, equals, at, dot, keyword, ending, is_ending}
use Rattle.def_model.specs.declared.draft.Owner.TheVariants as owners
use Rattle.def_model.specs.declared.draft.Part.{Part}
use Rattle.def_model.specs.declared.draft.Part.TheVariants as parts
use Rattle.def_model.specs.declared.draft.Size.{Size}
use Rattle.def_model.specs.declared.draft.Size.TheVariants as sizes
use Rattle.def_model.specs.declared.draft.Place.TheVariants as place
use Rattle.def_model.specs.declared.draft.Reading.{Reading}
use Rattle.def_grammar.specs.Statements.{Written, name_token, AttributeWord, CallWord, Segment, Export, Import, equated_then, internal_then, Statement, program, library, code, plain, segments, exports, imports, statements_then}
use Rattle.def_grammar.specs.Rules.{IsName, bytes_of, AreStatements, stands}
use Rattle.def_grammar.specs.Sayings.{words_of, export_of, said}

-- An item of EXPORTS so far.
abbrev pub part_of : Written → Option Written → Option ℕ → Bool → Bool → Export
part_of name internal ordinal resident nodata =
    record { name = name; internal = internal; ordinal = ordinal; resident = resident; nodata = nodata; words = None }

pub data State : Type 0 where
  closed : (ss : List Statement) → State
  in_program : (ss : List Statement) → State
  after_program : (ss : List Statement) → (name : Written) → State
  in_library : (ss : List Statement) → State
  after_library : (ss : List Statement) → (name : Option Written) → (calls : List CallWord) → State
  in_description : (ss : List Statement) → State
  in_code : (ss : List Statement) → (words : List AttributeWord) → State
  in_plain : (ss : List Statement) → (words : List AttributeWord) → State
  in_segments : (ss : List Statement) → (items : List Segment) → State
  at_segment : (ss : List Statement) → (items : List Segment) → (name : Written) → State
  at_class : (ss : List Statement) → (items : List Segment) → (name : Written) → State
  in_words : (ss : List Statement) → (items : List Segment) → (item : Segment) → State
  in_exports : (ss : List Statement) → (items : List Export) → State
  at_export : (ss : List Statement) → (items : List Export) → (item : Export) → (part : Part) → State
  at_internal : (ss : List Statement) → (items : List Export) → (name : Written) → State
  at_ordinal : (ss : List Statement) → (items : List Export) → (name : Written) → (internal : Option Written) → State
  in_imports : (ss : List Statement) → (items : List Import) → State
  at_import : (ss : List Statement) → (items : List Import) → (name : Written) → State
  at_equals : (ss : List Statement) → (items : List Import) → (name : Written) → State
  at_from : (ss : List Statement) → (items : List Import) → (internal from : Written) → State
  at_dot : (ss : List Statement) → (items : List Import) → (internal : Option Written) → (from : Written) → State
  in_size : (ss : List Statement) → (which : Size) → State
  in_base : (ss : List Statement) → State
  in_exe_type : (ss : List Statement) → State

-- ---- its tokens

abbrev pub size_then : Size → List Lexeme → List Lexeme
size_then sizes.Stack rest = keyword kw.StackSize ∷ rest
size_then sizes.Heap rest = keyword kw.HeapSize ∷ rest
size_then sizes.Base rest = keyword kw.Base ∷ equals ∷ rest

abbrev pub tokens_then : State → List Lexeme → List Lexeme
tokens_then (closed ss) rest = statements_then ss rest
tokens_then (in_program ss) rest = statements_then ss (keyword kw.Name ∷ rest)
tokens_then (after_program ss name) rest = statements_then ss (keyword kw.Name ∷ name_token name ∷ rest)
tokens_then (in_library ss) rest = statements_then ss (keyword kw.Library ∷ rest)
tokens_then (after_library ss name calls) rest = statements_then (library name calls ∷ ss) rest
tokens_then (in_description ss) rest = statements_then ss (keyword kw.Description ∷ rest)
tokens_then (in_code ss words) rest = statements_then (code words ∷ ss) rest
tokens_then (in_plain ss words) rest = statements_then (plain words ∷ ss) rest
tokens_then (in_segments ss items) rest = statements_then (segments items ∷ ss) rest
tokens_then (at_segment ss items name) rest = statements_then (segments items ∷ ss) (name_token name ∷ rest)
tokens_then (at_class ss items name) rest = statements_then (segments items ∷ ss) (name_token name ∷ keyword kw.Class ∷ rest)
tokens_then (in_words ss items item) rest = statements_then (segments (item ∷ items) ∷ ss) rest
tokens_then (in_exports ss items) rest = statements_then (exports items ∷ ss) rest
tokens_then (at_export ss items item part) rest = statements_then (exports (item ∷ items) ∷ ss) rest
tokens_then (at_internal ss items name) rest = statements_then (exports items ∷ ss) (name_token name ∷ equals ∷ rest)
tokens_then (at_ordinal ss items name internal) rest = statements_then (exports items ∷ ss) (name_token name ∷ internal_then internal (at ∷ rest))
tokens_then (in_imports ss items) rest = statements_then (imports items ∷ ss) rest
tokens_then (at_import ss items name) rest = statements_then (imports items ∷ ss) (name_token name ∷ rest)
tokens_then (at_equals ss items name) rest = statements_then (imports items ∷ ss) (name_token name ∷ equals ∷ rest)
tokens_then (at_from ss items internal from) rest = statements_then (imports items ∷ ss) (name_token internal ∷ equals ∷ name_token from ∷ rest)
tokens_then (at_dot ss items internal from) rest = statements_then (imports items ∷ ss) (equated_then internal (name_token from ∷ dot ∷ rest))
tokens_then (in_size ss which) rest = statements_then ss (size_then which rest)
tokens_then (in_base ss) rest = statements_then ss (keyword kw.Base ∷ rest)
tokens_then (in_exe_type ss) rest = statements_then ss (keyword kw.ExeType ∷ rest)

-- ---- its reading

abbrev pub reading_of : State → Reading
reading_of (closed ss) = record { draft = said ss; place = place.Statement }
reading_of (in_program ss) = record { draft = said ss; place = place.Program }
reading_of (after_program ss name) = record { draft = said (program (Some name) false ∷ ss); place = place.ProgramName }
reading_of (in_library ss) = record { draft = said ss; place = place.Library }
reading_of (after_library ss name calls) = record { draft = said (library name calls ∷ ss); place = place.LibraryWords }
reading_of (in_description ss) = record { draft = said ss; place = place.Description }
reading_of (in_code ss words) = record { draft = said ss; place = place.Attributes owners.Code (words_of words) }
reading_of (in_plain ss words) = record { draft = said ss; place = place.Attributes owners.Data (words_of words) }
reading_of (in_segments ss items) = record { draft = said (segments items ∷ ss); place = place.Segments }
reading_of (at_segment ss items name) = record { draft = said (segments items ∷ ss); place = place.Segment (bytes_of name) }
reading_of (at_class ss items name) = record { draft = said (segments items ∷ ss); place = place.Class (bytes_of name) }
reading_of (in_words ss items item) =
    record { draft = said (segments items ∷ ss); place = place.Attributes (owners.Segment (bytes_of item.name) item.class) (words_of item.words) }
reading_of (in_exports ss items) = record { draft = said (exports items ∷ ss); place = place.Exports }
reading_of (at_export ss items item part) = record { draft = said (exports items ∷ ss); place = place.Export (export_of item) part }
reading_of (at_internal ss items name) =
    record { draft = said (exports items ∷ ss); place = place.Internal (export_of (part_of name None None false false)) }
reading_of (at_ordinal ss items name internal) =
    record { draft = said (exports items ∷ ss); place = place.Ordinal (export_of (part_of name internal None false false)) }
reading_of (in_imports ss items) = record { draft = said (imports items ∷ ss); place = place.Imports }
reading_of (at_import ss items name) = record { draft = said (imports items ∷ ss); place = place.Import (bytes_of name) }
reading_of (at_equals ss items name) = record { draft = said (imports items ∷ ss); place = place.ImportEquals (bytes_of name) }
reading_of (at_from ss items internal from) = record { draft = said (imports items ∷ ss); place = place.ImportModule (bytes_of internal) (bytes_of from) }
reading_of (at_dot ss items internal from) = record { draft = said (imports items ∷ ss); place = place.ImportDot (option_map bytes_of internal) (bytes_of from) }
reading_of (in_size ss which) = record { draft = said ss; place = place.Size which }
reading_of (in_base ss) = record { draft = said ss; place = place.Base }
reading_of (in_exe_type ss) = record { draft = said ss; place = place.ExeType }

-- ---- what holds of it

-- Whole statements, and the keyword of one that may stand.
abbrev pub IsBegun : Keyword → List Statement → Type 0
IsBegun k ss = (stands k ss ≡ false) × AreStatements ss

abbrev pub size_word : Size → Keyword
size_word sizes.Stack = kw.StackSize
size_word sizes.Heap = kw.HeapSize
size_word sizes.Base = kw.Base

-- The parts of an item that do not stand yet.
abbrev pub Lacks : Export → Part → Type 0
Lacks e parts.Name = e ≡ part_of e.name None None false false
Lacks e parts.Internal = e ≡ part_of e.name e.internal None false false
Lacks e parts.Ordinal = e ≡ part_of e.name e.internal e.ordinal false false
Lacks e parts.Resident = e ≡ part_of e.name e.internal e.ordinal e.resident false
Lacks e parts.NoData = e ≡ part_of e.name e.internal e.ordinal e.resident e.nodata

abbrev pub IsState : State → Type 0
IsState (closed ss) = AreStatements ss
IsState (in_program ss) = IsBegun kw.Name ss
IsState (after_program ss name) = IsBegun kw.Name ss × IsName name
IsState (in_library ss) = IsBegun kw.Library ss
IsState (after_library ss name calls) = AreStatements (library name calls ∷ ss)
IsState (in_description ss) = IsBegun kw.Description ss
IsState (in_code ss words) = AreStatements (code words ∷ ss)
IsState (in_plain ss words) = AreStatements (plain words ∷ ss)
IsState (in_segments ss items) = AreStatements (segments items ∷ ss)
IsState (at_segment ss items name) = AreStatements (segments items ∷ ss) × IsName name
IsState (at_class ss items name) = AreStatements (segments items ∷ ss) × IsName name
IsState (in_words ss items item) = AreStatements (segments (item ∷ items) ∷ ss)
IsState (in_exports ss items) = AreStatements (exports items ∷ ss)
IsState (at_export ss items item part) = AreStatements (exports (item ∷ items) ∷ ss) × Lacks item part
IsState (at_internal ss items name) = AreStatements (exports items ∷ ss) × IsName name
IsState (at_ordinal ss items name internal) = AreStatements (exports items ∷ ss) × IsName name × IfSome internal IsName
IsState (in_imports ss items) = AreStatements (imports items ∷ ss)
IsState (at_import ss items name) = AreStatements (imports items ∷ ss) × IsName name
IsState (at_equals ss items name) = AreStatements (imports items ∷ ss) × IsName name
IsState (at_from ss items internal from) = AreStatements (imports items ∷ ss) × IsName internal × IsName from
IsState (at_dot ss items internal from) = AreStatements (imports items ∷ ss) × IfSome internal IsName × IsName from
IsState (in_size ss which) = IsBegun (size_word which) ss
IsState (in_base ss) = IsBegun kw.Base ss
IsState (in_exe_type ss) = IsBegun kw.ExeType ss

-- ---- one token more

-- After `before` and the token stands another state with this reading; or the token is the file's end, and whole statements
-- stand before it.
pub data Next (before : List Lexeme → List Lexeme) (t : Lexeme) (r : Reading) : Type 0 where
  goes : (s : State) → IsState s → ((rest : List Lexeme) → tokens_then s rest ≡ before (t ∷ rest)) → reading_of s ≡ r → is_ending t ≡ false → Next before t r
  ends : (ss : List Statement) → AreStatements ss → ((rest : List Lexeme) → before rest ≡ statements_then ss rest) → t ≡ ending
      → reading_of (closed ss) ≡ r → Next before t r
