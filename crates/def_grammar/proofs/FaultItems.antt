-- Why a token is refused among items.
use Rattle.std.proofs.Common.{◌≡◌, List, [], ◌∷◌, Ok, Err, refl}
use Rattle.std.specs.Prelude.{Option, Some, None}
use Rattle.def_model.specs.declared.keyword.Keyword.TheVariants as kw
use Rattle.def_model.specs.Lexemes.{Lexeme, number, equals, at, dot, text, word, keyword}
use Rattle.def_model.specs.declared.refusal.DefKind.{DefKind}
use Rattle.def_model.specs.declared.draft.Part.TheVariants as parts
use Rattle.def_model.specs.declared.draft.Reading.{Reading}
use Rattle.def_model.specs.Draft.{no_words}
use Rattle.def_file.proofs.Compute.{computed}
use Rattle.def_grammar.specs.Statements.{Written, Segment, Export, Import, Statement, segments, exports, imports}
use Rattle.def_grammar.specs.Sayings.{words_of}
use Rattle.def_grammar.specs.Faults.{Value, alike}
use Rattle.def_grammar.proofs.Answered.{bound, not_good}
use Rattle.def_grammar.proofs.After.{answer_at}
use Rattle.def_grammar.proofs.States.{State, in_segments, at_segment, at_class, in_words, in_exports, at_export, at_internal, at_ordinal, in_imports, at_import, at_equals, at_from, at_dot, tokens_then, reading_of, IsState}
use Rattle.def_grammar.proofs.StepCauses.{TakesAnother, StepCause, good_not, name_fault, text_fault, of_name, number_fault, of_number, word_fault, of_pair}
use Rattle.def_grammar.proofs.FaultFalls.{one_letter, numbered, turned, unexpected, fallen}

-- A token is refused at a state, and this is why.
abbrev pub Refuses : State → Lexeme → DefKind → Type 0
Refuses s t k = answer_at (reading_of s) t ≡ Err k

abbrev pub CauseAt : State → Lexeme → DefKind → Type 0
CauseAt s t k = StepCause (reading_of s) (tokens_then s) t k

pub another : (r : Reading) (t : Lexeme) (v : Value) (q : Reading) → answer_at r (alike t v) ≡ Ok q → TakesAnother r t
another r t v q is = record { value = v; takes = record { reading = q; is = is } }

pub segments_fault : (ss : List Statement) (items : List Segment) → IsState (in_segments ss items)
    → (t : Lexeme) (k : DefKind) → Refuses (in_segments ss items) t k → CauseAt (in_segments ss items) t k
unfolding computed
segments_fault ss items g (word bytes) k h = of_name _ _ (word bytes) bytes k refl (another _ (word bytes) one_letter _ refl) (name_fault bytes _ k h)
segments_fault ss items g (text bytes) k h = of_name _ _ (text bytes) bytes k refl (another _ (text bytes) one_letter _ refl) (name_fault bytes _ k h)
segments_fault ss items g (keyword (kw.Attribute pair on)) k h =
    fallen (segments items ∷ ss) _ _ (keyword (kw.Attribute pair on)) k
    (record { allowed = g; spelled = refl; same = λ v. refl; finish = refl }) h
segments_fault ss items g (keyword (kw.Init each)) k h =
    fallen (segments items ∷ ss) _ _ (keyword (kw.Init each)) k
    (record { allowed = g; spelled = refl; same = λ v. refl; finish = refl }) h
segments_fault ss items g (keyword (kw.Term each)) k h =
    fallen (segments items ∷ ss) _ _ (keyword (kw.Term each)) k
    (record { allowed = g; spelled = refl; same = λ v. refl; finish = refl }) h
segments_fault ss items g t k h =
    fallen (segments items ∷ ss) _ _ t k
    (record { allowed = g; spelled = refl; same = λ v. refl; finish = refl }) h

pub at_segment_fault : (ss : List Statement) (items : List Segment) (name : Written) → IsState (at_segment ss items name)
    → (t : Lexeme) (k : DefKind) → Refuses (at_segment ss items name) t k → CauseAt (at_segment ss items name) t k
unfolding computed
at_segment_fault ss items name g (keyword kw.Class) k h = good_not _ k h
at_segment_fault ss items name g (keyword (kw.Attribute pair on)) k h =
    let f = word_fault (no_words) pair on _ k h in
    of_pair _ _ (keyword (kw.Attribute pair on)) k refl (another _ (keyword (kw.Attribute pair on)) (turned on) _ (bound _ f.words _ f.other)) f.kind
at_segment_fault ss items name g (keyword kw.NoEffect) k h = good_not _ k h
at_segment_fault ss items name g (word bytes) k h = of_name _ _ (word bytes) bytes k refl (another _ (word bytes) one_letter _ refl) (name_fault bytes _ k h)
at_segment_fault ss items name g (text bytes) k h = of_name _ _ (text bytes) bytes k refl (another _ (text bytes) one_letter _ refl) (name_fault bytes _ k h)
at_segment_fault ss items name g (keyword (kw.Init each)) k h =
    fallen (segments (record { name = name; class = None; words = [] } ∷ items) ∷ ss) _ _ (keyword (kw.Init each)) k
    (record { allowed = (let all = g.0 in ((record { name = g.1; class = tt; words = tt }, all.0), all.1, all.2)); spelled = refl; same = λ v. refl; finish = refl }) h
at_segment_fault ss items name g (keyword (kw.Term each)) k h =
    fallen (segments (record { name = name; class = None; words = [] } ∷ items) ∷ ss) _ _ (keyword (kw.Term each)) k
    (record { allowed = (let all = g.0 in ((record { name = g.1; class = tt; words = tt }, all.0), all.1, all.2)); spelled = refl; same = λ v. refl; finish = refl }) h
at_segment_fault ss items name g t k h =
    fallen (segments (record { name = name; class = None; words = [] } ∷ items) ∷ ss) _ _ t k
    (record { allowed = (let all = g.0 in ((record { name = g.1; class = tt; words = tt }, all.0), all.1, all.2)); spelled = refl; same = λ v. refl; finish = refl }) h

pub at_class_fault : (ss : List Statement) (items : List Segment) (name : Written) → IsState (at_class ss items name)
    → (t : Lexeme) (k : DefKind) → Refuses (at_class ss items name) t k → CauseAt (at_class ss items name) t k
unfolding computed
at_class_fault ss items name g (text bytes) k h = of_name _ _ (text bytes) bytes k refl (another _ (text bytes) one_letter _ refl) (text_fault bytes _ k h)
at_class_fault ss items name g (keyword (kw.Attribute pair on)) k h = unexpected _ _ (keyword (kw.Attribute pair on)) k (λ g. not_good _ g.reading g.is) (λ v g. not_good _ g.reading g.is) h
at_class_fault ss items name g (keyword (kw.Init each)) k h = unexpected _ _ (keyword (kw.Init each)) k (λ g. not_good _ g.reading g.is) (λ v g. not_good _ g.reading g.is) h
at_class_fault ss items name g (keyword (kw.Term each)) k h = unexpected _ _ (keyword (kw.Term each)) k (λ g. not_good _ g.reading g.is) (λ v g. not_good _ g.reading g.is) h
at_class_fault ss items name g t k h = unexpected _ _ t k (λ g. not_good _ g.reading g.is) (λ v g. not_good _ g.reading g.is) h

pub in_words_fault : (ss : List Statement) (items : List Segment) (item : Segment) → IsState (in_words ss items item)
    → (t : Lexeme) (k : DefKind) → Refuses (in_words ss items item) t k → CauseAt (in_words ss items item) t k
unfolding computed
in_words_fault ss items item g (keyword (kw.Attribute pair on)) k h =
    let f = word_fault (words_of item.words) pair on _ k h in
    of_pair _ _ (keyword (kw.Attribute pair on)) k refl (another _ (keyword (kw.Attribute pair on)) (turned on) _ (bound _ f.words _ f.other)) f.kind
in_words_fault ss items item g (keyword kw.NoEffect) k h = good_not _ k h
in_words_fault ss items item g (word bytes) k h = of_name _ _ (word bytes) bytes k refl (another _ (word bytes) one_letter _ refl) (name_fault bytes _ k h)
in_words_fault ss items item g (text bytes) k h = of_name _ _ (text bytes) bytes k refl (another _ (text bytes) one_letter _ refl) (name_fault bytes _ k h)
in_words_fault ss items item g (keyword (kw.Init each)) k h =
    fallen (segments (item ∷ items) ∷ ss) _ _ (keyword (kw.Init each)) k
    (record { allowed = g; spelled = refl; same = λ v. refl; finish = refl }) h
in_words_fault ss items item g (keyword (kw.Term each)) k h =
    fallen (segments (item ∷ items) ∷ ss) _ _ (keyword (kw.Term each)) k
    (record { allowed = g; spelled = refl; same = λ v. refl; finish = refl }) h
in_words_fault ss items item g t k h =
    fallen (segments (item ∷ items) ∷ ss) _ _ t k
    (record { allowed = g; spelled = refl; same = λ v. refl; finish = refl }) h

pub exports_fault : (ss : List Statement) (items : List Export) → IsState (in_exports ss items)
    → (t : Lexeme) (k : DefKind) → Refuses (in_exports ss items) t k → CauseAt (in_exports ss items) t k
unfolding computed
exports_fault ss items g (word bytes) k h = of_name _ _ (word bytes) bytes k refl (another _ (word bytes) one_letter _ refl) (name_fault bytes _ k h)
exports_fault ss items g (text bytes) k h = of_name _ _ (text bytes) bytes k refl (another _ (text bytes) one_letter _ refl) (name_fault bytes _ k h)
exports_fault ss items g (keyword (kw.Attribute pair on)) k h =
    fallen (exports items ∷ ss) _ _ (keyword (kw.Attribute pair on)) k
    (record { allowed = g; spelled = refl; same = λ v. refl; finish = refl }) h
exports_fault ss items g (keyword (kw.Init each)) k h =
    fallen (exports items ∷ ss) _ _ (keyword (kw.Init each)) k
    (record { allowed = g; spelled = refl; same = λ v. refl; finish = refl }) h
exports_fault ss items g (keyword (kw.Term each)) k h =
    fallen (exports items ∷ ss) _ _ (keyword (kw.Term each)) k
    (record { allowed = g; spelled = refl; same = λ v. refl; finish = refl }) h
exports_fault ss items g t k h =
    fallen (exports items ∷ ss) _ _ t k
    (record { allowed = g; spelled = refl; same = λ v. refl; finish = refl }) h

pub at_name_fault : (ss : List Statement) (items : List Export) (item : Export) → IsState (at_export ss items item parts.Name)
    → (t : Lexeme) (k : DefKind) → Refuses (at_export ss items item parts.Name) t k → CauseAt (at_export ss items item parts.Name) t k
unfolding computed
at_name_fault ss items item g equals k h = good_not _ k h
at_name_fault ss items item g at k h = good_not _ k h
at_name_fault ss items item g (keyword kw.ResidentName) k h = good_not _ k h
at_name_fault ss items item g (keyword kw.NoData) k h = good_not _ k h
at_name_fault ss items item g (number value) k h = of_number _ _ value k (another _ (number value) (numbered 1) _ refl) (number_fault 0 31 value _ k h)
at_name_fault ss items item g (word bytes) k h = of_name _ _ (word bytes) bytes k refl (another _ (word bytes) one_letter _ refl) (name_fault bytes _ k h)
at_name_fault ss items item g (text bytes) k h = of_name _ _ (text bytes) bytes k refl (another _ (text bytes) one_letter _ refl) (name_fault bytes _ k h)
at_name_fault ss items item g (keyword (kw.Attribute pair on)) k h =
    fallen (exports (item ∷ items) ∷ ss) _ _ (keyword (kw.Attribute pair on)) k
    (record { allowed = g.0; spelled = refl; same = λ v. refl; finish = refl }) h
at_name_fault ss items item g (keyword (kw.Init each)) k h =
    fallen (exports (item ∷ items) ∷ ss) _ _ (keyword (kw.Init each)) k
    (record { allowed = g.0; spelled = refl; same = λ v. refl; finish = refl }) h
at_name_fault ss items item g (keyword (kw.Term each)) k h =
    fallen (exports (item ∷ items) ∷ ss) _ _ (keyword (kw.Term each)) k
    (record { allowed = g.0; spelled = refl; same = λ v. refl; finish = refl }) h
at_name_fault ss items item g t k h =
    fallen (exports (item ∷ items) ∷ ss) _ _ t k
    (record { allowed = g.0; spelled = refl; same = λ v. refl; finish = refl }) h

pub at_internal_fault : (ss : List Statement) (items : List Export) (item : Export) → IsState (at_export ss items item parts.Internal)
    → (t : Lexeme) (k : DefKind) → Refuses (at_export ss items item parts.Internal) t k → CauseAt (at_export ss items item parts.Internal) t k
unfolding computed
at_internal_fault ss items item g at k h = good_not _ k h
at_internal_fault ss items item g (keyword kw.ResidentName) k h = good_not _ k h
at_internal_fault ss items item g (keyword kw.NoData) k h = good_not _ k h
at_internal_fault ss items item g (number value) k h = of_number _ _ value k (another _ (number value) (numbered 1) _ refl) (number_fault 0 31 value _ k h)
at_internal_fault ss items item g (word bytes) k h = of_name _ _ (word bytes) bytes k refl (another _ (word bytes) one_letter _ refl) (name_fault bytes _ k h)
at_internal_fault ss items item g (text bytes) k h = of_name _ _ (text bytes) bytes k refl (another _ (text bytes) one_letter _ refl) (name_fault bytes _ k h)
at_internal_fault ss items item g (keyword (kw.Attribute pair on)) k h =
    fallen (exports (item ∷ items) ∷ ss) _ _ (keyword (kw.Attribute pair on)) k
    (record { allowed = g.0; spelled = refl; same = λ v. refl; finish = refl }) h
at_internal_fault ss items item g (keyword (kw.Init each)) k h =
    fallen (exports (item ∷ items) ∷ ss) _ _ (keyword (kw.Init each)) k
    (record { allowed = g.0; spelled = refl; same = λ v. refl; finish = refl }) h
at_internal_fault ss items item g (keyword (kw.Term each)) k h =
    fallen (exports (item ∷ items) ∷ ss) _ _ (keyword (kw.Term each)) k
    (record { allowed = g.0; spelled = refl; same = λ v. refl; finish = refl }) h
at_internal_fault ss items item g t k h =
    fallen (exports (item ∷ items) ∷ ss) _ _ t k
    (record { allowed = g.0; spelled = refl; same = λ v. refl; finish = refl }) h

pub at_ordinal_fault : (ss : List Statement) (items : List Export) (item : Export) → IsState (at_export ss items item parts.Ordinal)
    → (t : Lexeme) (k : DefKind) → Refuses (at_export ss items item parts.Ordinal) t k → CauseAt (at_export ss items item parts.Ordinal) t k
unfolding computed
at_ordinal_fault ss items item g (keyword kw.ResidentName) k h = good_not _ k h
at_ordinal_fault ss items item g (keyword kw.NoData) k h = good_not _ k h
at_ordinal_fault ss items item g (number value) k h = of_number _ _ value k (another _ (number value) (numbered 1) _ refl) (number_fault 0 31 value _ k h)
at_ordinal_fault ss items item g (word bytes) k h = of_name _ _ (word bytes) bytes k refl (another _ (word bytes) one_letter _ refl) (name_fault bytes _ k h)
at_ordinal_fault ss items item g (text bytes) k h = of_name _ _ (text bytes) bytes k refl (another _ (text bytes) one_letter _ refl) (name_fault bytes _ k h)
at_ordinal_fault ss items item g (keyword (kw.Attribute pair on)) k h =
    fallen (exports (item ∷ items) ∷ ss) _ _ (keyword (kw.Attribute pair on)) k
    (record { allowed = g.0; spelled = refl; same = λ v. refl; finish = refl }) h
at_ordinal_fault ss items item g (keyword (kw.Init each)) k h =
    fallen (exports (item ∷ items) ∷ ss) _ _ (keyword (kw.Init each)) k
    (record { allowed = g.0; spelled = refl; same = λ v. refl; finish = refl }) h
at_ordinal_fault ss items item g (keyword (kw.Term each)) k h =
    fallen (exports (item ∷ items) ∷ ss) _ _ (keyword (kw.Term each)) k
    (record { allowed = g.0; spelled = refl; same = λ v. refl; finish = refl }) h
at_ordinal_fault ss items item g t k h =
    fallen (exports (item ∷ items) ∷ ss) _ _ t k
    (record { allowed = g.0; spelled = refl; same = λ v. refl; finish = refl }) h

pub at_resident_fault : (ss : List Statement) (items : List Export) (item : Export) → IsState (at_export ss items item parts.Resident)
    → (t : Lexeme) (k : DefKind) → Refuses (at_export ss items item parts.Resident) t k → CauseAt (at_export ss items item parts.Resident) t k
unfolding computed
at_resident_fault ss items item g (keyword kw.NoData) k h = good_not _ k h
at_resident_fault ss items item g (number value) k h = of_number _ _ value k (another _ (number value) (numbered 1) _ refl) (number_fault 0 31 value _ k h)
at_resident_fault ss items item g (word bytes) k h = of_name _ _ (word bytes) bytes k refl (another _ (word bytes) one_letter _ refl) (name_fault bytes _ k h)
at_resident_fault ss items item g (text bytes) k h = of_name _ _ (text bytes) bytes k refl (another _ (text bytes) one_letter _ refl) (name_fault bytes _ k h)
at_resident_fault ss items item g (keyword (kw.Attribute pair on)) k h =
    fallen (exports (item ∷ items) ∷ ss) _ _ (keyword (kw.Attribute pair on)) k
    (record { allowed = g.0; spelled = refl; same = λ v. refl; finish = refl }) h
at_resident_fault ss items item g (keyword (kw.Init each)) k h =
    fallen (exports (item ∷ items) ∷ ss) _ _ (keyword (kw.Init each)) k
    (record { allowed = g.0; spelled = refl; same = λ v. refl; finish = refl }) h
at_resident_fault ss items item g (keyword (kw.Term each)) k h =
    fallen (exports (item ∷ items) ∷ ss) _ _ (keyword (kw.Term each)) k
    (record { allowed = g.0; spelled = refl; same = λ v. refl; finish = refl }) h
at_resident_fault ss items item g t k h =
    fallen (exports (item ∷ items) ∷ ss) _ _ t k
    (record { allowed = g.0; spelled = refl; same = λ v. refl; finish = refl }) h

pub at_nodata_fault : (ss : List Statement) (items : List Export) (item : Export) → IsState (at_export ss items item parts.NoData)
    → (t : Lexeme) (k : DefKind) → Refuses (at_export ss items item parts.NoData) t k → CauseAt (at_export ss items item parts.NoData) t k
unfolding computed
at_nodata_fault ss items item g (number value) k h = of_number _ _ value k (another _ (number value) (numbered 1) _ refl) (number_fault 0 31 value _ k h)
at_nodata_fault ss items item g (word bytes) k h = of_name _ _ (word bytes) bytes k refl (another _ (word bytes) one_letter _ refl) (name_fault bytes _ k h)
at_nodata_fault ss items item g (text bytes) k h = of_name _ _ (text bytes) bytes k refl (another _ (text bytes) one_letter _ refl) (name_fault bytes _ k h)
at_nodata_fault ss items item g (keyword (kw.Attribute pair on)) k h =
    fallen (exports (item ∷ items) ∷ ss) _ _ (keyword (kw.Attribute pair on)) k
    (record { allowed = g.0; spelled = refl; same = λ v. refl; finish = refl }) h
at_nodata_fault ss items item g (keyword (kw.Init each)) k h =
    fallen (exports (item ∷ items) ∷ ss) _ _ (keyword (kw.Init each)) k
    (record { allowed = g.0; spelled = refl; same = λ v. refl; finish = refl }) h
at_nodata_fault ss items item g (keyword (kw.Term each)) k h =
    fallen (exports (item ∷ items) ∷ ss) _ _ (keyword (kw.Term each)) k
    (record { allowed = g.0; spelled = refl; same = λ v. refl; finish = refl }) h
at_nodata_fault ss items item g t k h =
    fallen (exports (item ∷ items) ∷ ss) _ _ t k
    (record { allowed = g.0; spelled = refl; same = λ v. refl; finish = refl }) h

pub at_internal_name_fault : (ss : List Statement) (items : List Export) (name : Written) → IsState (at_internal ss items name)
    → (t : Lexeme) (k : DefKind) → Refuses (at_internal ss items name) t k → CauseAt (at_internal ss items name) t k
unfolding computed
at_internal_name_fault ss items name g (word bytes) k h = of_name _ _ (word bytes) bytes k refl (another _ (word bytes) one_letter _ refl) (name_fault bytes _ k h)
at_internal_name_fault ss items name g (text bytes) k h = of_name _ _ (text bytes) bytes k refl (another _ (text bytes) one_letter _ refl) (name_fault bytes _ k h)
at_internal_name_fault ss items name g (keyword (kw.Attribute pair on)) k h =
    unexpected _ _ (keyword (kw.Attribute pair on)) k (λ g. not_good _ g.reading g.is) (λ v g. not_good _ g.reading g.is) h
at_internal_name_fault ss items name g (keyword (kw.Init each)) k h = unexpected _ _ (keyword (kw.Init each)) k (λ g. not_good _ g.reading g.is) (λ v g. not_good _ g.reading g.is) h
at_internal_name_fault ss items name g (keyword (kw.Term each)) k h = unexpected _ _ (keyword (kw.Term each)) k (λ g. not_good _ g.reading g.is) (λ v g. not_good _ g.reading g.is) h
at_internal_name_fault ss items name g t k h = unexpected _ _ t k (λ g. not_good _ g.reading g.is) (λ v g. not_good _ g.reading g.is) h

pub at_ordinal_number_fault : (ss : List Statement) (items : List Export) (name : Written) (internal : Option Written) → IsState (at_ordinal ss items name internal)
    → (t : Lexeme) (k : DefKind) → Refuses (at_ordinal ss items name internal) t k → CauseAt (at_ordinal ss items name internal) t k
unfolding computed
at_ordinal_number_fault ss items name internal g (number value) k h = of_number _ _ value k (another _ (number value) (numbered 1) _ refl) (number_fault 1 65535 value _ k h)
at_ordinal_number_fault ss items name internal g (keyword (kw.Attribute pair on)) k h =
    unexpected _ _ (keyword (kw.Attribute pair on)) k (λ g. not_good _ g.reading g.is) (λ v g. not_good _ g.reading g.is) h
at_ordinal_number_fault ss items name internal g (keyword (kw.Init each)) k h = unexpected _ _ (keyword (kw.Init each)) k (λ g. not_good _ g.reading g.is) (λ v g. not_good _ g.reading g.is) h
at_ordinal_number_fault ss items name internal g (keyword (kw.Term each)) k h = unexpected _ _ (keyword (kw.Term each)) k (λ g. not_good _ g.reading g.is) (λ v g. not_good _ g.reading g.is) h
at_ordinal_number_fault ss items name internal g t k h = unexpected _ _ t k (λ g. not_good _ g.reading g.is) (λ v g. not_good _ g.reading g.is) h

pub imports_fault : (ss : List Statement) (items : List Import) → IsState (in_imports ss items)
    → (t : Lexeme) (k : DefKind) → Refuses (in_imports ss items) t k → CauseAt (in_imports ss items) t k
unfolding computed
imports_fault ss items g (word bytes) k h = of_name _ _ (word bytes) bytes k refl (another _ (word bytes) one_letter _ refl) (name_fault bytes _ k h)
imports_fault ss items g (text bytes) k h = of_name _ _ (text bytes) bytes k refl (another _ (text bytes) one_letter _ refl) (name_fault bytes _ k h)
imports_fault ss items g (keyword (kw.Attribute pair on)) k h =
    fallen (imports items ∷ ss) _ _ (keyword (kw.Attribute pair on)) k
    (record { allowed = g; spelled = refl; same = λ v. refl; finish = refl }) h
imports_fault ss items g (keyword (kw.Init each)) k h =
    fallen (imports items ∷ ss) _ _ (keyword (kw.Init each)) k
    (record { allowed = g; spelled = refl; same = λ v. refl; finish = refl }) h
imports_fault ss items g (keyword (kw.Term each)) k h =
    fallen (imports items ∷ ss) _ _ (keyword (kw.Term each)) k
    (record { allowed = g; spelled = refl; same = λ v. refl; finish = refl }) h
imports_fault ss items g t k h =
    fallen (imports items ∷ ss) _ _ t k
    (record { allowed = g; spelled = refl; same = λ v. refl; finish = refl }) h

pub at_import_fault : (ss : List Statement) (items : List Import) (name : Written) → IsState (at_import ss items name)
    → (t : Lexeme) (k : DefKind) → Refuses (at_import ss items name) t k → CauseAt (at_import ss items name) t k
unfolding computed
at_import_fault ss items name g equals k h = good_not _ k h
at_import_fault ss items name g dot k h = good_not _ k h
at_import_fault ss items name g (keyword (kw.Attribute pair on)) k h = unexpected _ _ (keyword (kw.Attribute pair on)) k (λ g. not_good _ g.reading g.is) (λ v g. not_good _ g.reading g.is) h
at_import_fault ss items name g (keyword (kw.Init each)) k h = unexpected _ _ (keyword (kw.Init each)) k (λ g. not_good _ g.reading g.is) (λ v g. not_good _ g.reading g.is) h
at_import_fault ss items name g (keyword (kw.Term each)) k h = unexpected _ _ (keyword (kw.Term each)) k (λ g. not_good _ g.reading g.is) (λ v g. not_good _ g.reading g.is) h
at_import_fault ss items name g t k h = unexpected _ _ t k (λ g. not_good _ g.reading g.is) (λ v g. not_good _ g.reading g.is) h

pub at_equals_fault : (ss : List Statement) (items : List Import) (name : Written) → IsState (at_equals ss items name)
    → (t : Lexeme) (k : DefKind) → Refuses (at_equals ss items name) t k → CauseAt (at_equals ss items name) t k
unfolding computed
at_equals_fault ss items name g (word bytes) k h = of_name _ _ (word bytes) bytes k refl (another _ (word bytes) one_letter _ refl) (name_fault bytes _ k h)
at_equals_fault ss items name g (text bytes) k h = of_name _ _ (text bytes) bytes k refl (another _ (text bytes) one_letter _ refl) (name_fault bytes _ k h)
at_equals_fault ss items name g (keyword (kw.Attribute pair on)) k h = unexpected _ _ (keyword (kw.Attribute pair on)) k (λ g. not_good _ g.reading g.is) (λ v g. not_good _ g.reading g.is) h
at_equals_fault ss items name g (keyword (kw.Init each)) k h = unexpected _ _ (keyword (kw.Init each)) k (λ g. not_good _ g.reading g.is) (λ v g. not_good _ g.reading g.is) h
at_equals_fault ss items name g (keyword (kw.Term each)) k h = unexpected _ _ (keyword (kw.Term each)) k (λ g. not_good _ g.reading g.is) (λ v g. not_good _ g.reading g.is) h
at_equals_fault ss items name g t k h = unexpected _ _ t k (λ g. not_good _ g.reading g.is) (λ v g. not_good _ g.reading g.is) h

pub at_from_fault : (ss : List Statement) (items : List Import) (internal from : Written) → IsState (at_from ss items internal from)
    → (t : Lexeme) (k : DefKind) → Refuses (at_from ss items internal from) t k → CauseAt (at_from ss items internal from) t k
unfolding computed
at_from_fault ss items internal from g dot k h = good_not _ k h
at_from_fault ss items internal from g (keyword (kw.Attribute pair on)) k h =
    unexpected _ _ (keyword (kw.Attribute pair on)) k (λ g. not_good _ g.reading g.is) (λ v g. not_good _ g.reading g.is) h
at_from_fault ss items internal from g (keyword (kw.Init each)) k h = unexpected _ _ (keyword (kw.Init each)) k (λ g. not_good _ g.reading g.is) (λ v g. not_good _ g.reading g.is) h
at_from_fault ss items internal from g (keyword (kw.Term each)) k h = unexpected _ _ (keyword (kw.Term each)) k (λ g. not_good _ g.reading g.is) (λ v g. not_good _ g.reading g.is) h
at_from_fault ss items internal from g t k h = unexpected _ _ t k (λ g. not_good _ g.reading g.is) (λ v g. not_good _ g.reading g.is) h

pub at_dot_none_fault : (ss : List Statement) (items : List Import) (from : Written) → IsState (at_dot ss items None from)
    → (t : Lexeme) (k : DefKind) → Refuses (at_dot ss items None from) t k → CauseAt (at_dot ss items None from) t k
unfolding computed
at_dot_none_fault ss items from g (word bytes) k h = of_name _ _ (word bytes) bytes k refl (another _ (word bytes) one_letter _ refl) (name_fault bytes _ k h)
at_dot_none_fault ss items from g (text bytes) k h = of_name _ _ (text bytes) bytes k refl (another _ (text bytes) one_letter _ refl) (name_fault bytes _ k h)
at_dot_none_fault ss items from g (keyword (kw.Attribute pair on)) k h = unexpected _ _ (keyword (kw.Attribute pair on)) k (λ g. not_good _ g.reading g.is) (λ v g. not_good _ g.reading g.is) h
at_dot_none_fault ss items from g (keyword (kw.Init each)) k h = unexpected _ _ (keyword (kw.Init each)) k (λ g. not_good _ g.reading g.is) (λ v g. not_good _ g.reading g.is) h
at_dot_none_fault ss items from g (keyword (kw.Term each)) k h = unexpected _ _ (keyword (kw.Term each)) k (λ g. not_good _ g.reading g.is) (λ v g. not_good _ g.reading g.is) h
at_dot_none_fault ss items from g t k h = unexpected _ _ t k (λ g. not_good _ g.reading g.is) (λ v g. not_good _ g.reading g.is) h

pub at_dot_some_fault : (ss : List Statement) (items : List Import) (name : Written) (from : Written) → IsState (at_dot ss items (Some name) from)
    → (t : Lexeme) (k : DefKind) → Refuses (at_dot ss items (Some name) from) t k → CauseAt (at_dot ss items (Some name) from) t k
unfolding computed
at_dot_some_fault ss items name from g (word bytes) k h = of_name _ _ (word bytes) bytes k refl (another _ (word bytes) one_letter _ refl) (name_fault bytes _ k h)
at_dot_some_fault ss items name from g (text bytes) k h = of_name _ _ (text bytes) bytes k refl (another _ (text bytes) one_letter _ refl) (name_fault bytes _ k h)
at_dot_some_fault ss items name from g (number value) k h = of_number _ _ value k (another _ (number value) (numbered 1) _ refl) (number_fault 1 65535 value _ k h)
at_dot_some_fault ss items name from g (keyword (kw.Attribute pair on)) k h =
    unexpected _ _ (keyword (kw.Attribute pair on)) k (λ g. not_good _ g.reading g.is) (λ v g. not_good _ g.reading g.is) h
at_dot_some_fault ss items name from g (keyword (kw.Init each)) k h = unexpected _ _ (keyword (kw.Init each)) k (λ g. not_good _ g.reading g.is) (λ v g. not_good _ g.reading g.is) h
at_dot_some_fault ss items name from g (keyword (kw.Term each)) k h = unexpected _ _ (keyword (kw.Term each)) k (λ g. not_good _ g.reading g.is) (λ v g. not_good _ g.reading g.is) h
at_dot_some_fault ss items name from g t k h = unexpected _ _ t k (λ g. not_good _ g.reading g.is) (λ v g. not_good _ g.reading g.is) h
