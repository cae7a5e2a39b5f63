-- One token more, wherever it stands.
use Rattle.std.proofs.Common.{◌≡◌, ℕ, List, [], ◌∷◌, Ok, refl, ap, sym, subst, ◌∙◌, true, false}
use Rattle.std.specs.Prelude.{Option, Some, None}
use Rattle.std.specs.List.{list_any}
use Rattle.obj_types.specs.declared.limits.TheConstants.{MAX_DATA}
use Rattle.obj_types.specs.declared.definition.ModKind.TheVariants as modules
use Rattle.def_model.specs.declared.keyword.Keyword.TheVariants as kw
use Rattle.def_model.specs.Lexemes.{Lexeme, number, equals, text, word, keyword, stray}
use Rattle.def_model.specs.declared.refusal.DefKind.TheVariants as kinds
use Rattle.def_model.specs.declared.draft.Draft.{Draft}
use Rattle.def_model.specs.declared.draft.Owner.TheVariants as owners
use Rattle.def_model.specs.declared.draft.Size.{Size}
use Rattle.def_model.specs.declared.draft.Size.TheVariants as sizes
use Rattle.def_model.specs.declared.draft.Place.TheVariants as place
use Rattle.def_model.specs.declared.draft.Reading.{Reading}
use Rattle.def_model.specs.Statements as reader
use Rattle.def_model.specs.Segments as segments_reader
use Rattle.def_grammar.specs.Statements.{Written, identifier, quoted, AttributeWord, sets, idle, CallWord, initial, terminal, Statement, program, library, description, code, plain, stack_size, heap_size, base, exe_type, statements_then}
use Rattle.def_grammar.specs.Rules.{other_attribute, other_call, AreStatements}
use Rattle.def_grammar.specs.Sayings.{words_of, said}
use Rattle.def_grammar.proofs.Answered.{good_is, not_good, taken_unless, text_said, name_said, number_given, base_given}
use Rattle.def_grammar.proofs.WordLaws.{word_taken, initially_is, finally_is}
use Rattle.def_grammar.proofs.Standing.{unnamed, begun_program, begun_library, named_library}
use Rattle.def_model.specs.Reading.{step, token_at}
use Rattle.def_model.specs.Lexemes.{keyword_of_lexeme}
use Rattle.def_grammar.proofs.WordLaws.{none_other}
use Rattle.def_grammar.proofs.States.{State, closed, in_program, after_program, in_library, after_library, in_description, in_code, in_plain, in_segments, at_segment, at_class, in_words, in_exports, at_export, at_internal, at_ordinal, in_imports, at_import, at_equals, at_from, at_dot, in_size, in_base, in_exe_type, tokens_then, reading_of, IsState, IsBegun, size_word, Next, goes}
use Rattle.def_grammar.proofs.Falls.{falls}
use Rattle.def_grammar.proofs.NextItems.{is_name, next_segments, next_words, next_segment, next_class, next_exports, next_export, next_equated, next_numbered, next_imports, next_import, next_equals, next_from, next_dot}

-- ---- NAME

next_window : (ss : List Statement) (name : Option Written) → AreStatements (program name false ∷ ss) → (t : Lexeme) (r : Reading)
    → reader.window_word (said (program name false ∷ ss)) (keyword_of_lexeme t) t ≡ Ok r → Next (statements_then (program name false ∷ ss)) t r
next_window ss name fine (keyword kw.Window) r h = goes (closed (program name true ∷ ss)) fine (λ rest. refl) (good_is _ r h) refl
next_window ss name fine t r h = falls (program name false ∷ ss) fine t r h

alone : (ss : List Statement) → IsBegun kw.Name ss → (t : Lexeme) (r : Reading)
    → reader.window_word (record (said ss) { kind = Some modules.Program }) (keyword_of_lexeme t) t ≡ Ok r → Next (statements_then (program None false ∷ ss)) t r
alone ss fine t r h =
    next_window ss None (tt, fine.0, fine.1) t r
    (subst (λ (d : Draft). reader.window_word d (keyword_of_lexeme t) t ≡ Ok r) (begun_program (said ss) (unnamed ss fine.0)) h)

next_program : (ss : List Statement) → IsBegun kw.Name ss → (t : Lexeme) (r : Reading) → reader.program (said ss) t ≡ Ok r → Next (tokens_then (in_program ss)) t r
unfolding reader.program reader.program_name
next_program ss fine (word bytes) r h =
    let n = name_said bytes _ r h in goes (after_program ss (identifier bytes)) (fine, is_name (identifier bytes) n.fits) (λ rest. refl) (good_is _ r n.goes) refl
next_program ss fine (text bytes) r h =
    let n = name_said bytes _ r h in goes (after_program ss (quoted bytes)) (fine, is_name (quoted bytes) n.fits) (λ rest. refl) (good_is _ r n.goes) refl
next_program ss fine t r h = alone ss fine t r h

-- ---- LIBRARY

next_call : (ss : List Statement) (name : Option Written) (calls : List CallWord) → AreStatements (library name calls ∷ ss) → (t : Lexeme) (r : Reading)
    → reader.library_word (said (library name calls ∷ ss)) (keyword_of_lexeme t) t ≡ Ok r → Next (statements_then (library name calls ∷ ss)) t r
next_call ss name calls fine (keyword (kw.Init each)) r h =
    let own = fine.0 in
    let taken = taken_unless _ (list_any (other_call (initial each)) calls) kinds.Conflict (Some each) _ r (initially_is calls each own.1) h in
    goes (after_library ss name (initial each ∷ calls)) ((own.0, (taken.fits, own.1)), fine.1, fine.2) (λ rest. refl) (good_is _ r taken.goes) refl
next_call ss name calls fine (keyword (kw.Term each)) r h =
    let own = fine.0 in
    let taken = taken_unless _ (list_any (other_call (terminal each)) calls) kinds.Conflict (Some each) _ r (finally_is calls each own.1) h in
    goes (after_library ss name (terminal each ∷ calls)) ((own.0, (taken.fits, own.1)), fine.1, fine.2) (λ rest. refl) (good_is _ r taken.goes) refl
next_call ss name calls fine t r h = falls (library name calls ∷ ss) fine t r h

unnamed_library : (ss : List Statement) → IsBegun kw.Library ss → (t : Lexeme) (r : Reading)
    → reader.library_word (record (said ss) { kind = Some modules.Library }) (keyword_of_lexeme t) t ≡ Ok r → Next (statements_then (library None [] ∷ ss)) t r
unnamed_library ss fine t r h =
    next_call ss None [] ((tt, tt), fine.0, fine.1) t r
    (subst (λ (d : Draft). reader.library_word d (keyword_of_lexeme t) t ≡ Ok r) (begun_library (said ss) (unnamed ss fine.0)) h)

next_library : (ss : List Statement) → IsBegun kw.Library ss → (t : Lexeme) (r : Reading) → reader.library (said ss) t ≡ Ok r → Next (tokens_then (in_library ss)) t r
unfolding reader.library reader.library_words
next_library ss fine (word bytes) r h =
    let n = name_said bytes _ r h in
    let is = is_name (identifier bytes) n.fits in
    goes (after_library ss (Some (identifier bytes)) []) ((is, tt), fine.0, fine.1) (λ rest. refl)
    (ap (λ (d : Draft). record { draft = d; place = place.LibraryWords }) (sym (named_library (said ss) bytes (unnamed ss fine.0))) ∙ good_is _ r n.goes) refl
next_library ss fine (text bytes) r h =
    let n = name_said bytes _ r h in
    let is = is_name (quoted bytes) n.fits in
    goes (after_library ss (Some (quoted bytes)) []) ((is, tt), fine.0, fine.1) (λ rest. refl)
    (ap (λ (d : Draft). record { draft = d; place = place.LibraryWords }) (sym (named_library (said ss) bytes (unnamed ss fine.0))) ∙ good_is _ r n.goes) refl
next_library ss fine t r h = unnamed_library ss fine t r h

-- ---- DESCRIPTION, CODE, DATA

next_description : (ss : List Statement) → IsBegun kw.Description ss → (t : Lexeme) (r : Reading) → reader.description (said ss) t ≡ Ok r → Next (tokens_then (in_description ss)) t r
unfolding reader.description
next_description ss fine (text bytes) r h =
    let n = text_said bytes _ r h in goes (closed (description bytes ∷ ss)) (n.fits, fine.0, fine.1) (λ rest. refl) (good_is _ r n.goes) refl
next_description ss fine t r h = absurd (not_good kinds.Expected r h)

next_code : (ss : List Statement) (words : List AttributeWord) → AreStatements (code words ∷ ss) → (t : Lexeme) (r : Reading)
    → segments_reader.attributes (said ss) owners.Code (words_of words) t ≡ Ok r → Next (statements_then (code words ∷ ss)) t r
unfolding segments_reader.attributes segments_reader.after_list
next_code ss words fine (keyword (kw.Attribute pair on)) r h =
    let taken = taken_unless _ (list_any (other_attribute (sets pair on)) words) kinds.Conflict (words_of (sets pair on ∷ words)) _ r (word_taken words pair on fine.0) h in
    goes (in_code ss (sets pair on ∷ words)) ((taken.fits, fine.0), fine.1, fine.2) (λ rest. refl) (good_is _ r taken.goes) refl
next_code ss words fine (keyword kw.NoEffect) r h = goes (in_code ss (idle ∷ words)) ((none_other words, fine.0), fine.1, fine.2) (λ rest. refl) (good_is _ r h) refl
next_code ss words fine t r h = falls (code words ∷ ss) fine t r h

next_plain : (ss : List Statement) (words : List AttributeWord) → AreStatements (plain words ∷ ss) → (t : Lexeme) (r : Reading)
    → segments_reader.attributes (said ss) owners.Data (words_of words) t ≡ Ok r → Next (statements_then (plain words ∷ ss)) t r
unfolding segments_reader.attributes segments_reader.after_list
next_plain ss words fine (keyword (kw.Attribute pair on)) r h =
    let taken = taken_unless _ (list_any (other_attribute (sets pair on)) words) kinds.Conflict (words_of (sets pair on ∷ words)) _ r (word_taken words pair on fine.0) h in
    goes (in_plain ss (sets pair on ∷ words)) ((taken.fits, fine.0), fine.1, fine.2) (λ rest. refl) (good_is _ r taken.goes) refl
next_plain ss words fine (keyword kw.NoEffect) r h = goes (in_plain ss (idle ∷ words)) ((none_other words, fine.0), fine.1, fine.2) (λ rest. refl) (good_is _ r h) refl
next_plain ss words fine t r h = falls (plain words ∷ ss) fine t r h

-- ---- numbers, and EXETYPE

next_sized : (ss : List Statement) (which : Size) → IsBegun (size_word which) ss → (value : Option ℕ) (r : Reading) → reader.sized (said ss) which value ≡ Ok r
    → Next (tokens_then (in_size ss which)) (number value) r
unfolding reader.sized
next_sized ss sizes.Stack fine value r h =
    let g = number_given 0 MAX_DATA value _ r h in
    goes (closed (stack_size g.n ∷ ss)) (g.below, fine.0, fine.1) (λ rest. ap (λ v. tokens_then (in_size ss sizes.Stack) (number v ∷ rest)) (sym g.is)) (good_is _ r g.goes) refl
next_sized ss sizes.Heap fine value r h =
    let g = number_given 0 4294967295 value _ r h in
    goes (closed (heap_size g.n ∷ ss)) (g.below, fine.0, fine.1) (λ rest. ap (λ v. tokens_then (in_size ss sizes.Heap) (number v ∷ rest)) (sym g.is)) (good_is _ r g.goes) refl
next_sized ss sizes.Base fine value r h =
    let g = base_given value _ r h in
    goes (closed (base g.n ∷ ss)) (g.fits, fine.0, fine.1) (λ rest. ap (λ v. tokens_then (in_size ss sizes.Base) (number v ∷ rest)) (sym g.is)) (good_is _ r g.goes) refl

next_size : (ss : List Statement) (which : Size) → IsBegun (size_word which) ss → (t : Lexeme) (r : Reading) → reader.size (said ss) which t ≡ Ok r → Next (tokens_then (in_size ss which)) t r
unfolding reader.size
next_size ss which fine (number value) r h = next_sized ss which fine value r h
next_size ss which fine t r h = absurd (not_good kinds.Expected r h)

next_base : (ss : List Statement) → IsBegun kw.Base ss → (t : Lexeme) (r : Reading) → reader.base (said ss) t ≡ Ok r → Next (tokens_then (in_base ss)) t r
unfolding reader.base
next_base ss fine equals r h = goes (in_size ss sizes.Base) fine (λ rest. refl) (good_is _ r h) refl
next_base ss fine t r h = absurd (not_good kinds.Expected r h)

next_exe_type : (ss : List Statement) → IsBegun kw.ExeType ss → (t : Lexeme) (r : Reading) → reader.exe_type (said ss) t ≡ Ok r → Next (tokens_then (in_exe_type ss)) t r
unfolding reader.exe_type
next_exe_type ss fine (word bytes) r h =
    let n = name_said bytes _ r h in goes (closed (exe_type (identifier bytes) ∷ ss)) (is_name (identifier bytes) n.fits, fine.0, fine.1) (λ rest. refl) (good_is _ r n.goes) refl
next_exe_type ss fine (text bytes) r h =
    let n = name_said bytes _ r h in goes (closed (exe_type (quoted bytes) ∷ ss)) (is_name (quoted bytes) n.fits, fine.0, fine.1) (λ rest. refl) (good_is _ r n.goes) refl
next_exe_type ss fine t r h = absurd (not_good kinds.Expected r h)

-- ---- any state

pub next_at : (s : State) → IsState s → (t : Lexeme) (r : Reading) → token_at (reading_of s).draft (reading_of s).place t ≡ Ok r → Next (tokens_then s) t r
unfolding token_at reader.program_name reader.library_words
next_at (closed ss) fine t r h = falls ss fine t r h
next_at (in_program ss) fine t r h = next_program ss fine t r h
next_at (after_program ss name) fine t r h = let own = fine.0 in next_window ss (Some name) (fine.1, own.0, own.1) t r h
next_at (in_library ss) fine t r h = next_library ss fine t r h
next_at (after_library ss name calls) fine t r h = next_call ss name calls fine t r h
next_at (in_description ss) fine t r h = next_description ss fine t r h
next_at (in_code ss words) fine t r h = next_code ss words fine t r h
next_at (in_plain ss words) fine t r h = next_plain ss words fine t r h
next_at (in_segments ss items) fine t r h = next_segments ss items fine t r h
next_at (at_segment ss items name) fine t r h = next_segment ss items name fine.0 fine.1 t r h
next_at (at_class ss items name) fine t r h = next_class ss items name fine.0 fine.1 t r h
next_at (in_words ss items item) fine t r h = next_words ss items item fine t r h
next_at (in_exports ss items) fine t r h = next_exports ss items fine t r h
next_at (at_export ss items item part) fine t r h = next_export ss items item part fine.0 fine.1 t r h
next_at (at_internal ss items name) fine t r h = next_equated ss items name fine.0 fine.1 t r h
next_at (at_ordinal ss items name internal) fine t r h = next_numbered ss items name internal fine.0 fine.1 fine.2 t r h
next_at (in_imports ss items) fine t r h = next_imports ss items fine t r h
next_at (at_import ss items name) fine t r h = next_import ss items name fine.0 fine.1 t r h
next_at (at_equals ss items name) fine t r h = next_equals ss items name fine.0 fine.1 t r h
next_at (at_from ss items internal from) fine t r h = next_from ss items internal from fine.0 fine.1 fine.2 t r h
next_at (at_dot ss items internal from) fine t r h = next_dot ss items internal from fine.0 fine.1 fine.2 t r h
next_at (in_size ss which) fine t r h = next_size ss which fine t r h
next_at (in_base ss) fine t r h = next_base ss fine t r h
next_at (in_exe_type ss) fine t r h = next_exe_type ss fine t r h

pub next : (s : State) → IsState s → (t : Lexeme) (r : Reading) → step (reading_of s) t ≡ Ok r → Next (tokens_then s) t r
unfolding step
next s fine stray r h = absurd (not_good kinds.Token r h)
next s fine t r h = next_at s fine t r h
