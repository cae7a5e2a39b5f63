-- Whatever stands before a place, it can be completed to a grammatical file.
use Rattle.std.proofs.Common.{◌≡◌, ◌≢◌, ℕ, List, [], ◌∷◌, refl, arith, false}
use Rattle.std.specs.Prelude.{Some, None}
use Rattle.obj_types.specs.declared.definition.DefFile.{DefFile}
use Rattle.def_model.specs.Lexemes.{Lexeme, number, equals, dot, text, word, ending}
use Rattle.def_model.specs.declared.draft.Size.TheVariants as sizes
use Rattle.def_model.specs.Meaning.{file_of}
use Rattle.def_grammar.specs.Statements.{Written, identifier, named, Statement, program, library, description, code, plain, segments, exports, imports, stack_size, heap_size, base, exe_type, statements_then}
use Rattle.def_grammar.specs.Rules.{IsName, AreStatements}
use Rattle.def_grammar.specs.Sayings.{said}
use Rattle.def_grammar.specs.Sentences.{Sentence}
use Rattle.def_grammar.proofs.States.{State, part_of, closed, in_program, after_program, in_library, after_library, in_description, in_code, in_plain, in_segments, at_segment, at_class, in_words, in_exports, at_export, at_internal, at_ordinal, in_imports, at_import, at_equals, at_from, at_dot, in_size, in_base, in_exe_type, tokens_then, IsState}

-- The rest of a grammatical file.
pub record Completed (before : List Lexeme → List Lexeme) : Type 0 where
  pub rest : List Lexeme
  pub value : DefFile
  pub sentence : Sentence (before rest) value

pub ended : (before : List Lexeme → List Lexeme) (rest : List Lexeme) (ss : List Statement) → AreStatements ss → before rest ≡ statements_then ss (ending ∷ []) → Completed before
ended before rest ss fine is =
    record { rest = rest; value = file_of (said ss); sentence = record { statements = ss; allowed = fine; spelled = is; means = refl } }

-- A name of one letter.
abbrev pub letter : Written
letter = identifier (65 ∷ [])

abbrev one_letter : List ℕ
one_letter = 65 ∷ []

some_letter : one_letter ≢ []
some_letter h = absurd cc

is_letter : IsName letter
is_letter = record { some = some_letter; short = omega arith }

pub completed : (s : State) → IsState s → Completed (tokens_then s)
completed (closed ss) g = ended _ (ending ∷ []) ss g refl
completed (in_program ss) g = ended _ (ending ∷ []) (program None false ∷ ss) (tt, g.0, g.1) refl
completed (after_program ss name) g = let own = g.0 in ended _ (ending ∷ []) (program (Some name) false ∷ ss) (g.1, own.0, own.1) refl
completed (in_library ss) g = ended _ (ending ∷ []) (library None [] ∷ ss) ((tt, tt), g.0, g.1) refl
completed (after_library ss name calls) g = ended _ (ending ∷ []) (library name calls ∷ ss) g refl
completed (in_description ss) g = ended _ (text [] ∷ ending ∷ []) (description [] ∷ ss) (omega arith, g.0, g.1) refl
completed (in_code ss words) g = ended _ (ending ∷ []) (code words ∷ ss) g refl
completed (in_plain ss words) g = ended _ (ending ∷ []) (plain words ∷ ss) g refl
completed (in_segments ss items) g = ended _ (ending ∷ []) (segments items ∷ ss) g refl
completed (at_segment ss items name) g =
    let all = g.0 in
    ended _ (ending ∷ []) (segments (record { name = name; class = None; words = [] } ∷ items) ∷ ss) ((record { name = g.1; class = tt; words = tt }, all.0), all.1, all.2) refl
completed (at_class ss items name) g =
    let all = g.0 in
    ended _ (text [] ∷ ending ∷ []) (segments (record { name = name; class = Some []; words = [] } ∷ items) ∷ ss)
    ((record { name = g.1; class = omega arith; words = tt }, all.0), all.1, all.2) refl
completed (in_words ss items item) g = ended _ (ending ∷ []) (segments (item ∷ items) ∷ ss) g refl
completed (in_exports ss items) g = ended _ (ending ∷ []) (exports items ∷ ss) g refl
completed (at_export ss items item part) g = ended _ (ending ∷ []) (exports (item ∷ items) ∷ ss) g.0 refl
completed (at_internal ss items name) g =
    let all = g.0 in
    ended _ (word (65 ∷ []) ∷ ending ∷ []) (exports (part_of name (Some letter) None false false ∷ items) ∷ ss)
    ((record { name = g.1; internal = is_letter; ordinal = tt; words = tt }, all.0), all.1, all.2) refl
completed (at_ordinal ss items name internal) g =
    let all = g.0 in
    ended _ (number (Some 1) ∷ ending ∷ []) (exports (part_of name internal (Some 1) false false ∷ items) ∷ ss)
    ((record { name = g.1; internal = g.2; ordinal = (omega arith, omega arith); words = tt }, all.0), all.1, all.2) refl
completed (in_imports ss items) g = ended _ (ending ∷ []) (imports items ∷ ss) g refl
completed (at_import ss items name) g =
    let all = g.0 in
    ended _ (dot ∷ word (65 ∷ []) ∷ ending ∷ []) (imports (named None name letter ∷ items) ∷ ss) (((tt, g.1, is_letter), all.0), all.1, all.2) refl
completed (at_equals ss items name) g =
    let all = g.0 in
    ended _ (word (65 ∷ []) ∷ dot ∷ word (65 ∷ []) ∷ ending ∷ []) (imports (named (Some name) letter letter ∷ items) ∷ ss) (((g.1, is_letter, is_letter), all.0), all.1, all.2) refl
completed (at_from ss items internal from) g =
    let all = g.0 in
    ended _ (dot ∷ word (65 ∷ []) ∷ ending ∷ []) (imports (named (Some internal) from letter ∷ items) ∷ ss) (((g.1, g.2, is_letter), all.0), all.1, all.2) refl
completed (at_dot ss items internal from) g =
    let all = g.0 in
    ended _ (word (65 ∷ []) ∷ ending ∷ []) (imports (named internal from letter ∷ items) ∷ ss) (((g.1, g.2, is_letter), all.0), all.1, all.2) refl
completed (in_size ss sizes.Stack) g = ended _ (number (Some 0) ∷ ending ∷ []) (stack_size 0 ∷ ss) (omega arith, g.0, g.1) refl
completed (in_size ss sizes.Heap) g = ended _ (number (Some 0) ∷ ending ∷ []) (heap_size 0 ∷ ss) (omega arith, g.0, g.1) refl
completed (in_size ss sizes.Base) g = ended _ (number (Some 65536) ∷ ending ∷ []) (base 65536 ∷ ss) ((refl, omega arith, omega arith), g.0, g.1) refl
completed (in_base ss) g = ended _ (equals ∷ number (Some 65536) ∷ ending ∷ []) (base 65536 ∷ ss) ((refl, omega arith, omega arith), g.0, g.1) refl
completed (in_exe_type ss) g = ended _ (word (65 ∷ []) ∷ ending ∷ []) (exe_type letter ∷ ss) (is_letter, g.0, g.1) refl
