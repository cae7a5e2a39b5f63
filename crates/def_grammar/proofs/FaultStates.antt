-- Why a token is refused, wherever it stands.
use Rattle.std.proofs.Common.{List, [], ◌∷◌, refl, ap, sym, ◌∙◌, false}
use Rattle.std.specs.Prelude.{Option, Some, None, not}
use Rattle.obj_types.specs.declared.limits.TheConstants.{MAX_DATA}
use Rattle.def_model.specs.declared.keyword.Keyword.TheVariants as kw
use Rattle.def_model.specs.Lexemes.{Lexeme, number, equals, text, word, keyword, ending}
use Rattle.lx_types.specs.Answers.{◌>>=◌}
use Rattle.def_model.specs.declared.refusal.DefKind.{DefKind}
use Rattle.def_model.specs.declared.draft.Draft.{Draft}
use Rattle.def_model.specs.declared.draft.Part.TheVariants as parts
use Rattle.def_model.specs.declared.draft.Size.TheVariants as sizes
use Rattle.def_model.specs.declared.draft.Place.TheVariants as place
use Rattle.def_model.specs.Draft.{at as at_place}
use Rattle.def_model.specs.Attributes.{agreed}
use Rattle.def_model.specs.Statements as reader
use Rattle.def_file.proofs.Compute.{computed}
use Rattle.def_grammar.specs.Statements.{Written, CallWord, initial, terminal, AttributeWord, Statement, program, library, code, plain}
use Rattle.def_grammar.specs.Rules.{AreStatements}
use Rattle.def_grammar.specs.Sayings.{initially, finally, words_of, said}
use Rattle.def_grammar.specs.Faults.{alike}
use Rattle.def_grammar.proofs.Answered.{bound, not_good}
use Rattle.def_grammar.proofs.Standing.{unnamed, begun_program, begun_library}
use Rattle.def_grammar.proofs.States.{State, closed, in_program, after_program, in_library, after_library, in_description, in_code, in_plain, in_segments, at_segment, at_class, in_words, in_exports, at_export, at_internal, at_ordinal, in_imports, at_import, at_equals, at_from, at_dot, in_size, in_base, in_exe_type, IsState, IsBegun}
use Rattle.def_grammar.proofs.StepCauses.{good_not, name_fault, text_fault, of_name, number_fault, base_fault, of_number, pair_fault, word_fault, of_pair}
use Rattle.def_grammar.proofs.FaultFalls.{one_letter, numbered, turned, unexpected, fallen}
use Rattle.def_grammar.proofs.FaultItems.{Refuses, CauseAt, another, segments_fault, at_segment_fault, at_class_fault, in_words_fault, exports_fault, at_name_fault, at_internal_fault, at_ordinal_fault, at_resident_fault, at_nodata_fault, at_internal_name_fault, at_ordinal_number_fault, imports_fault, at_import_fault, at_equals_fault, at_from_fault, at_dot_none_fault, at_dot_some_fault}

closed_fault : (ss : List Statement) → AreStatements ss
    → (t : Lexeme) (k : DefKind) → Refuses (closed ss) t k → CauseAt (closed ss) t k
unfolding computed
closed_fault ss g t k h = fallen ss _ _ t k (record { allowed = g; spelled = refl; same = λ v. refl; finish = refl }) h

program_fault : (ss : List Statement) → IsBegun kw.Name ss
    → (t : Lexeme) (k : DefKind) → Refuses (in_program ss) t k → CauseAt (in_program ss) t k
unfolding computed
program_fault ss g (word bytes) k h = of_name _ _ (word bytes) bytes k refl (another _ (word bytes) one_letter _ refl) (name_fault bytes _ k h)
program_fault ss g (text bytes) k h = of_name _ _ (text bytes) bytes k refl (another _ (text bytes) one_letter _ refl) (name_fault bytes _ k h)
program_fault ss g (keyword kw.Window) k h = good_not _ k h
program_fault ss g (keyword (kw.Attribute pair on)) k h =
    let b = begun_program (said ss) (unnamed ss g.0) in
    fallen (program None false ∷ ss) _ _ (keyword (kw.Attribute pair on)) k
    (record {
      allowed = (tt, g.0, g.1);
      spelled = refl;
      same = λ v. ap (λ (d : Draft). reader.statement d (alike (keyword (kw.Attribute pair on)) v)) b;
      finish = ap (λ (d : Draft). reader.statement d ending) b;
    })
    (ap (λ (d : Draft). reader.statement d (keyword (kw.Attribute pair on))) (sym b) ∙ h)
program_fault ss g (keyword (kw.Init each)) k h =
    let b = begun_program (said ss) (unnamed ss g.0) in
    fallen (program None false ∷ ss) _ _ (keyword (kw.Init each)) k
    (record {
      allowed = (tt, g.0, g.1);
      spelled = refl;
      same = λ v. ap (λ (d : Draft). reader.statement d (alike (keyword (kw.Init each)) v)) b;
      finish = ap (λ (d : Draft). reader.statement d ending) b;
    })
    (ap (λ (d : Draft). reader.statement d (keyword (kw.Init each))) (sym b) ∙ h)
program_fault ss g (keyword (kw.Term each)) k h =
    let b = begun_program (said ss) (unnamed ss g.0) in
    fallen (program None false ∷ ss) _ _ (keyword (kw.Term each)) k
    (record {
      allowed = (tt, g.0, g.1);
      spelled = refl;
      same = λ v. ap (λ (d : Draft). reader.statement d (alike (keyword (kw.Term each)) v)) b;
      finish = ap (λ (d : Draft). reader.statement d ending) b;
    })
    (ap (λ (d : Draft). reader.statement d (keyword (kw.Term each))) (sym b) ∙ h)
program_fault ss g t k h =
    let b = begun_program (said ss) (unnamed ss g.0) in
    fallen (program None false ∷ ss) _ _ t k
    (record {
      allowed = (tt, g.0, g.1);
      spelled = refl;
      same = λ v. ap (λ (d : Draft). reader.statement d (alike t v)) b;
      finish = ap (λ (d : Draft). reader.statement d ending) b;
    })
    (ap (λ (d : Draft). reader.statement d t) (sym b) ∙ h)

after_program_fault : (ss : List Statement) (name : Written) → IsState (after_program ss name)
    → (t : Lexeme) (k : DefKind) → Refuses (after_program ss name) t k → CauseAt (after_program ss name) t k
unfolding computed
after_program_fault ss name g (keyword kw.Window) k h = good_not _ k h
after_program_fault ss name g (keyword (kw.Attribute pair on)) k h =
    fallen (program (Some name) false ∷ ss) _ _ (keyword (kw.Attribute pair on)) k
    (record { allowed = (let own = g.0 in (g.1, own.0, own.1)); spelled = refl; same = λ v. refl; finish = refl }) h
after_program_fault ss name g (keyword (kw.Init each)) k h =
    fallen (program (Some name) false ∷ ss) _ _ (keyword (kw.Init each)) k
    (record { allowed = (let own = g.0 in (g.1, own.0, own.1)); spelled = refl; same = λ v. refl; finish = refl }) h
after_program_fault ss name g (keyword (kw.Term each)) k h =
    fallen (program (Some name) false ∷ ss) _ _ (keyword (kw.Term each)) k
    (record { allowed = (let own = g.0 in (g.1, own.0, own.1)); spelled = refl; same = λ v. refl; finish = refl }) h
after_program_fault ss name g t k h =
    fallen (program (Some name) false ∷ ss) _ _ t k
    (record { allowed = (let own = g.0 in (g.1, own.0, own.1)); spelled = refl; same = λ v. refl; finish = refl }) h

library_fault : (ss : List Statement) → IsBegun kw.Library ss
    → (t : Lexeme) (k : DefKind) → Refuses (in_library ss) t k → CauseAt (in_library ss) t k
unfolding computed
library_fault ss g (word bytes) k h = of_name _ _ (word bytes) bytes k refl (another _ (word bytes) one_letter _ refl) (name_fault bytes _ k h)
library_fault ss g (text bytes) k h = of_name _ _ (text bytes) bytes k refl (another _ (text bytes) one_letter _ refl) (name_fault bytes _ k h)
library_fault ss g (keyword (kw.Init each)) k h =
    let b = begun_library (said ss) (unnamed ss g.0) in
    good_not (record { draft = said (library None (initial each ∷ []) ∷ ss); place = place.LibraryWords }) k
    (ap (λ (d : Draft). agreed d.init_each each >>= (λ x. at_place (record d { init_each = x }) place.LibraryWords)) (sym b) ∙ h)
library_fault ss g (keyword (kw.Term each)) k h =
    let b = begun_library (said ss) (unnamed ss g.0) in
    good_not (record { draft = said (library None (terminal each ∷ []) ∷ ss); place = place.LibraryWords }) k
    (ap (λ (d : Draft). agreed d.term_each each >>= (λ x. at_place (record d { term_each = x }) place.LibraryWords)) (sym b) ∙ h)
library_fault ss g (keyword (kw.Attribute pair on)) k h =
    let b = begun_library (said ss) (unnamed ss g.0) in
    fallen (library None [] ∷ ss) _ _ (keyword (kw.Attribute pair on)) k
    (record {
      allowed = ((tt, tt), g.0, g.1);
      spelled = refl;
      same = λ v. ap (λ (d : Draft). reader.statement d (alike (keyword (kw.Attribute pair on)) v)) b;
      finish = ap (λ (d : Draft). reader.statement d ending) b;
    })
    (ap (λ (d : Draft). reader.statement d (keyword (kw.Attribute pair on))) (sym b) ∙ h)
library_fault ss g t k h =
    let b = begun_library (said ss) (unnamed ss g.0) in
    fallen (library None [] ∷ ss) _ _ t k
    (record {
      allowed = ((tt, tt), g.0, g.1);
      spelled = refl;
      same = λ v. ap (λ (d : Draft). reader.statement d (alike t v)) b;
      finish = ap (λ (d : Draft). reader.statement d ending) b;
    })
    (ap (λ (d : Draft). reader.statement d t) (sym b) ∙ h)

after_library_fault : (ss : List Statement) (name : Option Written) (calls : List CallWord) → IsState (after_library ss name calls)
    → (t : Lexeme) (k : DefKind) → Refuses (after_library ss name calls) t k → CauseAt (after_library ss name calls) t k
unfolding computed
after_library_fault ss name calls g (keyword (kw.Init each)) k h =
    let f = pair_fault (initially calls) each _ k h in
    of_pair _ _ (keyword (kw.Init each)) k refl (another _ (keyword (kw.Init each)) (turned each) _ (bound _ (Some (not each)) _ f.other)) f.kind
after_library_fault ss name calls g (keyword (kw.Term each)) k h =
    let f = pair_fault (finally calls) each _ k h in
    of_pair _ _ (keyword (kw.Term each)) k refl (another _ (keyword (kw.Term each)) (turned each) _ (bound _ (Some (not each)) _ f.other)) f.kind
after_library_fault ss name calls g (keyword (kw.Attribute pair on)) k h =
    fallen (library name calls ∷ ss) _ _ (keyword (kw.Attribute pair on)) k
    (record { allowed = g; spelled = refl; same = λ v. refl; finish = refl }) h
after_library_fault ss name calls g t k h =
    fallen (library name calls ∷ ss) _ _ t k
    (record { allowed = g; spelled = refl; same = λ v. refl; finish = refl }) h

description_fault : (ss : List Statement) → IsState (in_description ss)
    → (t : Lexeme) (k : DefKind) → Refuses (in_description ss) t k → CauseAt (in_description ss) t k
unfolding computed
description_fault ss g (text bytes) k h = of_name _ _ (text bytes) bytes k refl (another _ (text bytes) one_letter _ refl) (text_fault bytes _ k h)
description_fault ss g (keyword (kw.Attribute pair on)) k h = unexpected _ _ (keyword (kw.Attribute pair on)) k (λ g. not_good _ g.reading g.is) (λ v g. not_good _ g.reading g.is) h
description_fault ss g (keyword (kw.Init each)) k h = unexpected _ _ (keyword (kw.Init each)) k (λ g. not_good _ g.reading g.is) (λ v g. not_good _ g.reading g.is) h
description_fault ss g (keyword (kw.Term each)) k h = unexpected _ _ (keyword (kw.Term each)) k (λ g. not_good _ g.reading g.is) (λ v g. not_good _ g.reading g.is) h
description_fault ss g t k h = unexpected _ _ t k (λ g. not_good _ g.reading g.is) (λ v g. not_good _ g.reading g.is) h

code_fault : (ss : List Statement) (words : List AttributeWord) → IsState (in_code ss words)
    → (t : Lexeme) (k : DefKind) → Refuses (in_code ss words) t k → CauseAt (in_code ss words) t k
unfolding computed
code_fault ss words g (keyword (kw.Attribute pair on)) k h =
    let f = word_fault (words_of words) pair on _ k h in
    of_pair _ _ (keyword (kw.Attribute pair on)) k refl (another _ (keyword (kw.Attribute pair on)) (turned on) _ (bound _ f.words _ f.other)) f.kind
code_fault ss words g (keyword kw.NoEffect) k h = good_not _ k h
code_fault ss words g (keyword (kw.Init each)) k h =
    fallen (code words ∷ ss) _ _ (keyword (kw.Init each)) k
    (record { allowed = g; spelled = refl; same = λ v. refl; finish = refl }) h
code_fault ss words g (keyword (kw.Term each)) k h =
    fallen (code words ∷ ss) _ _ (keyword (kw.Term each)) k
    (record { allowed = g; spelled = refl; same = λ v. refl; finish = refl }) h
code_fault ss words g t k h =
    fallen (code words ∷ ss) _ _ t k
    (record { allowed = g; spelled = refl; same = λ v. refl; finish = refl }) h

plain_fault : (ss : List Statement) (words : List AttributeWord) → IsState (in_plain ss words)
    → (t : Lexeme) (k : DefKind) → Refuses (in_plain ss words) t k → CauseAt (in_plain ss words) t k
unfolding computed
plain_fault ss words g (keyword (kw.Attribute pair on)) k h =
    let f = word_fault (words_of words) pair on _ k h in
    of_pair _ _ (keyword (kw.Attribute pair on)) k refl (another _ (keyword (kw.Attribute pair on)) (turned on) _ (bound _ f.words _ f.other)) f.kind
plain_fault ss words g (keyword kw.NoEffect) k h = good_not _ k h
plain_fault ss words g (keyword (kw.Init each)) k h =
    fallen (plain words ∷ ss) _ _ (keyword (kw.Init each)) k
    (record { allowed = g; spelled = refl; same = λ v. refl; finish = refl }) h
plain_fault ss words g (keyword (kw.Term each)) k h =
    fallen (plain words ∷ ss) _ _ (keyword (kw.Term each)) k
    (record { allowed = g; spelled = refl; same = λ v. refl; finish = refl }) h
plain_fault ss words g t k h =
    fallen (plain words ∷ ss) _ _ t k
    (record { allowed = g; spelled = refl; same = λ v. refl; finish = refl }) h

in_stack_fault : (ss : List Statement) → IsState (in_size ss sizes.Stack)
    → (t : Lexeme) (k : DefKind) → Refuses (in_size ss sizes.Stack) t k → CauseAt (in_size ss sizes.Stack) t k
unfolding computed
in_stack_fault ss g (number value) k h = of_number _ _ value k (another _ (number value) (numbered 1) _ refl) (number_fault 0 MAX_DATA value _ k h)
in_stack_fault ss g (keyword (kw.Attribute pair on)) k h = unexpected _ _ (keyword (kw.Attribute pair on)) k (λ g. not_good _ g.reading g.is) (λ v g. not_good _ g.reading g.is) h
in_stack_fault ss g (keyword (kw.Init each)) k h = unexpected _ _ (keyword (kw.Init each)) k (λ g. not_good _ g.reading g.is) (λ v g. not_good _ g.reading g.is) h
in_stack_fault ss g (keyword (kw.Term each)) k h = unexpected _ _ (keyword (kw.Term each)) k (λ g. not_good _ g.reading g.is) (λ v g. not_good _ g.reading g.is) h
in_stack_fault ss g t k h = unexpected _ _ t k (λ g. not_good _ g.reading g.is) (λ v g. not_good _ g.reading g.is) h

in_heap_fault : (ss : List Statement) → IsState (in_size ss sizes.Heap)
    → (t : Lexeme) (k : DefKind) → Refuses (in_size ss sizes.Heap) t k → CauseAt (in_size ss sizes.Heap) t k
unfolding computed
in_heap_fault ss g (number value) k h = of_number _ _ value k (another _ (number value) (numbered 1) _ refl) (number_fault 0 4294967295 value _ k h)
in_heap_fault ss g (keyword (kw.Attribute pair on)) k h = unexpected _ _ (keyword (kw.Attribute pair on)) k (λ g. not_good _ g.reading g.is) (λ v g. not_good _ g.reading g.is) h
in_heap_fault ss g (keyword (kw.Init each)) k h = unexpected _ _ (keyword (kw.Init each)) k (λ g. not_good _ g.reading g.is) (λ v g. not_good _ g.reading g.is) h
in_heap_fault ss g (keyword (kw.Term each)) k h = unexpected _ _ (keyword (kw.Term each)) k (λ g. not_good _ g.reading g.is) (λ v g. not_good _ g.reading g.is) h
in_heap_fault ss g t k h = unexpected _ _ t k (λ g. not_good _ g.reading g.is) (λ v g. not_good _ g.reading g.is) h

in_base_fault : (ss : List Statement) → IsState (in_size ss sizes.Base)
    → (t : Lexeme) (k : DefKind) → Refuses (in_size ss sizes.Base) t k → CauseAt (in_size ss sizes.Base) t k
unfolding computed
in_base_fault ss g (number value) k h = of_number _ _ value k (another _ (number value) (numbered 65536) _ refl) (base_fault value _ k h)
in_base_fault ss g (keyword (kw.Attribute pair on)) k h = unexpected _ _ (keyword (kw.Attribute pair on)) k (λ g. not_good _ g.reading g.is) (λ v g. not_good _ g.reading g.is) h
in_base_fault ss g (keyword (kw.Init each)) k h = unexpected _ _ (keyword (kw.Init each)) k (λ g. not_good _ g.reading g.is) (λ v g. not_good _ g.reading g.is) h
in_base_fault ss g (keyword (kw.Term each)) k h = unexpected _ _ (keyword (kw.Term each)) k (λ g. not_good _ g.reading g.is) (λ v g. not_good _ g.reading g.is) h
in_base_fault ss g t k h = unexpected _ _ t k (λ g. not_good _ g.reading g.is) (λ v g. not_good _ g.reading g.is) h

base_word_fault : (ss : List Statement) → IsState (in_base ss)
    → (t : Lexeme) (k : DefKind) → Refuses (in_base ss) t k → CauseAt (in_base ss) t k
unfolding computed
base_word_fault ss g equals k h = good_not _ k h
base_word_fault ss g (keyword (kw.Attribute pair on)) k h = unexpected _ _ (keyword (kw.Attribute pair on)) k (λ g. not_good _ g.reading g.is) (λ v g. not_good _ g.reading g.is) h
base_word_fault ss g (keyword (kw.Init each)) k h = unexpected _ _ (keyword (kw.Init each)) k (λ g. not_good _ g.reading g.is) (λ v g. not_good _ g.reading g.is) h
base_word_fault ss g (keyword (kw.Term each)) k h = unexpected _ _ (keyword (kw.Term each)) k (λ g. not_good _ g.reading g.is) (λ v g. not_good _ g.reading g.is) h
base_word_fault ss g t k h = unexpected _ _ t k (λ g. not_good _ g.reading g.is) (λ v g. not_good _ g.reading g.is) h

exe_type_fault : (ss : List Statement) → IsState (in_exe_type ss)
    → (t : Lexeme) (k : DefKind) → Refuses (in_exe_type ss) t k → CauseAt (in_exe_type ss) t k
unfolding computed
exe_type_fault ss g (word bytes) k h = of_name _ _ (word bytes) bytes k refl (another _ (word bytes) one_letter _ refl) (name_fault bytes _ k h)
exe_type_fault ss g (text bytes) k h = of_name _ _ (text bytes) bytes k refl (another _ (text bytes) one_letter _ refl) (name_fault bytes _ k h)
exe_type_fault ss g (keyword (kw.Attribute pair on)) k h = unexpected _ _ (keyword (kw.Attribute pair on)) k (λ g. not_good _ g.reading g.is) (λ v g. not_good _ g.reading g.is) h
exe_type_fault ss g (keyword (kw.Init each)) k h = unexpected _ _ (keyword (kw.Init each)) k (λ g. not_good _ g.reading g.is) (λ v g. not_good _ g.reading g.is) h
exe_type_fault ss g (keyword (kw.Term each)) k h = unexpected _ _ (keyword (kw.Term each)) k (λ g. not_good _ g.reading g.is) (λ v g. not_good _ g.reading g.is) h
exe_type_fault ss g t k h = unexpected _ _ t k (λ g. not_good _ g.reading g.is) (λ v g. not_good _ g.reading g.is) h

pub fault_at : (s : State) → IsState s
    → (t : Lexeme) (k : DefKind) → Refuses s t k → CauseAt s t k
fault_at (closed ss) g t k h = closed_fault ss g t k h
fault_at (in_program ss) g t k h = program_fault ss g t k h
fault_at (after_program ss name) g t k h = after_program_fault ss name g t k h
fault_at (in_library ss) g t k h = library_fault ss g t k h
fault_at (after_library ss name calls) g t k h = after_library_fault ss name calls g t k h
fault_at (in_description ss) g t k h = description_fault ss g t k h
fault_at (in_code ss words) g t k h = code_fault ss words g t k h
fault_at (in_plain ss words) g t k h = plain_fault ss words g t k h
fault_at (in_segments ss items) g t k h = segments_fault ss items g t k h
fault_at (at_segment ss items name) g t k h = at_segment_fault ss items name g t k h
fault_at (at_class ss items name) g t k h = at_class_fault ss items name g t k h
fault_at (in_words ss items item) g t k h = in_words_fault ss items item g t k h
fault_at (in_exports ss items) g t k h = exports_fault ss items g t k h
fault_at (at_export ss items item parts.Name) g t k h = at_name_fault ss items item g t k h
fault_at (at_export ss items item parts.Internal) g t k h = at_internal_fault ss items item g t k h
fault_at (at_export ss items item parts.Ordinal) g t k h = at_ordinal_fault ss items item g t k h
fault_at (at_export ss items item parts.Resident) g t k h = at_resident_fault ss items item g t k h
fault_at (at_export ss items item parts.NoData) g t k h = at_nodata_fault ss items item g t k h
fault_at (at_internal ss items name) g t k h = at_internal_name_fault ss items name g t k h
fault_at (at_ordinal ss items name internal) g t k h = at_ordinal_number_fault ss items name internal g t k h
fault_at (in_imports ss items) g t k h = imports_fault ss items g t k h
fault_at (at_import ss items name) g t k h = at_import_fault ss items name g t k h
fault_at (at_equals ss items name) g t k h = at_equals_fault ss items name g t k h
fault_at (at_from ss items internal from) g t k h = at_from_fault ss items internal from g t k h
fault_at (at_dot ss items None from) g t k h = at_dot_none_fault ss items from g t k h
fault_at (at_dot ss items (Some name) from) g t k h = at_dot_some_fault ss items name from g t k h
fault_at (in_size ss sizes.Stack) g t k h = in_stack_fault ss g t k h
fault_at (in_size ss sizes.Heap) g t k h = in_heap_fault ss g t k h
fault_at (in_size ss sizes.Base) g t k h = in_base_fault ss g t k h
fault_at (in_base ss) g t k h = base_word_fault ss g t k h
fault_at (in_exe_type ss) g t k h = exe_type_fault ss g t k h
