-- After whole statements, a token that begins none.
use Rattle.std.proofs.Common.{◌≡◌, ℕ, List, [], ◌∷◌, Err, refl, sym, ◌∙◌, cond, Bool, true, false, inl}
use Rattle.std.specs.Prelude.{Some, None, not}
use Rattle.def_model.specs.declared.keyword.Keyword.{Keyword}
use Rattle.def_model.specs.declared.keyword.Keyword.TheVariants as kw
use Rattle.def_model.specs.Lexemes.{Lexeme, keyword, ending}
use Rattle.def_model.specs.declared.refusal.DefKind.{DefKind}
use Rattle.def_model.specs.declared.refusal.DefKind.TheVariants as kinds
use Rattle.def_model.specs.declared.draft.Owner.TheVariants as owners
use Rattle.def_model.specs.declared.draft.Size.TheVariants as sizes
use Rattle.def_model.specs.declared.draft.Place.{Place}
use Rattle.def_model.specs.declared.draft.Place.TheVariants as place
use Rattle.def_model.specs.declared.draft.Reading.{Reading}
use Rattle.def_model.specs.Draft.{at as at_place, no_words}
use Rattle.def_model.specs.Statements as reader
use Rattle.def_grammar.specs.Statements.{Statement, statements_then}
use Rattle.def_grammar.specs.Rules.{AreStatements}
use Rattle.def_grammar.specs.Sayings.{said}
use Rattle.def_grammar.specs.Faults.{Value, alike, begins_statement}
use Rattle.def_grammar.proofs.Answered.{refusal, not_good}
use Rattle.def_grammar.proofs.Standing.{second_is}
use Rattle.def_grammar.proofs.After.{answer_at}
use Rattle.def_grammar.proofs.StepCauses.{Takes, TakesNone, StepCause, caused, good_not}

-- The values of another token.
abbrev pub one_letter : Value
one_letter = record { amount = None; letters = 65 ∷ []; on = true }

abbrev pub numbered : ℕ → Value
numbered n = record { amount = Some n; letters = []; on = true }

abbrev pub turned : Bool → Value
turned on = record { amount = None; letters = []; on = not on }

-- ---- what is expected, where the file may not end

pub unexpected : (r : Reading) (before : List Lexeme → List Lexeme) (t : Lexeme) (k : DefKind) → (Takes r ending → ⊥) → TakesNone r t → refusal kinds.Expected ≡ Err k → StepCause r before t k
unexpected r before t k goes_on none h = caused r before t kinds.Expected k h (inl (goes_on, none))

-- ---- where a statement may begin

-- Whatever is of the token's sort is judged as after these statements, and so is the end.
pub record Judged (ss : List Statement) (r : Reading) (before : List Lexeme → List Lexeme) (t : Lexeme) : Type 0 where
  pub allowed : AreStatements ss
  pub spelled : before [] ≡ statements_then ss []
  pub same : (v : Value) → answer_at r (alike t v) ≡ reader.statement (said ss) (alike t v)
  pub finish : answer_at r ending ≡ reader.statement (said ss) ending

end_taken : (ss : List Statement) (r : Reading) (before : List Lexeme → List Lexeme) (t : Lexeme) → Judged ss r before t → Takes r ending
unfolding reader.statement
end_taken ss r before t j = record { reading = record { draft = said ss; place = place.Statement }; is = j.finish }

-- A token whose sort is no statement.
no_statement : (ss : List Statement) (r : Reading) (before : List Lexeme → List Lexeme) (t : Lexeme) (k : DefKind) → Judged ss r before t → begins_statement t ≡ false
    → ((v : Value) → reader.statement (said ss) (alike t v) ≡ Err kinds.Statement) → refusal kinds.Statement ≡ Err k → StepCause r before t k
no_statement ss r before t k j none refused h =
    caused r before t kinds.Statement k h
    (end_taken ss r before t j, none, λ v g. not_good kinds.Statement g.reading (sym (refused v) ∙ (sym (j.same v) ∙ g.is)))

second : (ss : List Statement) (r : Reading) (before : List Lexeme → List Lexeme) (begun : Keyword) (k : DefKind) (p : Place) (b : Bool) → Judged ss r before (keyword begun)
    → reader.is_second (said ss) begun ≡ b → cond b (Err kinds.Twice) (at_place (said ss) p) ≡ Err k → StepCause r before (keyword begun) k
second ss r before begun k p true j is h =
    caused r before (keyword begun) kinds.Twice k h (
      end_taken ss r before (keyword begun) j,
      record { begun = begun; is = refl; statements = ss; allowed = j.allowed; spelled = j.spelled; again = sym (second_is ss begun) ∙ is },
    )
second ss r before begun k p false j is h = good_not _ k h

by_keyword : (ss : List Statement) (r : Reading) (before : List Lexeme → List Lexeme) (begun : Keyword) (k : DefKind) → Judged ss r before (keyword begun)
    → reader.keyword_statement (said ss) begun ≡ Err k → StepCause r before (keyword begun) k
unfolding reader.keyword_statement reader.statement
by_keyword ss r before kw.Name k j h = second ss r before kw.Name k place.Program (reader.is_second (said ss) kw.Name) j refl h
by_keyword ss r before kw.Library k j h = second ss r before kw.Library k place.Library (reader.is_second (said ss) kw.Library) j refl h
by_keyword ss r before kw.Description k j h = second ss r before kw.Description k place.Description (reader.is_second (said ss) kw.Description) j refl h
by_keyword ss r before kw.Code k j h = second ss r before kw.Code k (place.Attributes owners.Code no_words) (reader.is_second (said ss) kw.Code) j refl h
by_keyword ss r before kw.Data k j h = second ss r before kw.Data k (place.Attributes owners.Data no_words) (reader.is_second (said ss) kw.Data) j refl h
by_keyword ss r before kw.Segments k j h = second ss r before kw.Segments k place.Segments (reader.is_second (said ss) kw.Segments) j refl h
by_keyword ss r before kw.Exports k j h = second ss r before kw.Exports k place.Exports (reader.is_second (said ss) kw.Exports) j refl h
by_keyword ss r before kw.Imports k j h = second ss r before kw.Imports k place.Imports (reader.is_second (said ss) kw.Imports) j refl h
by_keyword ss r before kw.StackSize k j h = second ss r before kw.StackSize k (place.Size sizes.Stack) (reader.is_second (said ss) kw.StackSize) j refl h
by_keyword ss r before kw.HeapSize k j h = second ss r before kw.HeapSize k (place.Size sizes.Heap) (reader.is_second (said ss) kw.HeapSize) j refl h
by_keyword ss r before kw.Base k j h = second ss r before kw.Base k place.Base (reader.is_second (said ss) kw.Base) j refl h
by_keyword ss r before kw.ProtMode k j h = second ss r before kw.ProtMode k place.Statement (reader.is_second (said ss) kw.ProtMode) j refl h
by_keyword ss r before kw.ExeType k j h = second ss r before kw.ExeType k place.ExeType (reader.is_second (said ss) kw.ExeType) j refl h
by_keyword ss r before (kw.Attribute pair on) k j h = no_statement ss r before (keyword (kw.Attribute pair on)) k j refl (λ v. refl) h
by_keyword ss r before (kw.Init each) k j h = no_statement ss r before (keyword (kw.Init each)) k j refl (λ v. refl) h
by_keyword ss r before (kw.Term each) k j h = no_statement ss r before (keyword (kw.Term each)) k j refl (λ v. refl) h
by_keyword ss r before begun k j h = no_statement ss r before (keyword begun) k j refl (λ v. refl) h

pub fallen : (ss : List Statement) (r : Reading) (before : List Lexeme → List Lexeme) (t : Lexeme) (k : DefKind) → Judged ss r before t
    → reader.statement (said ss) t ≡ Err k → StepCause r before t k
unfolding reader.statement
fallen ss r before (keyword begun) k j h = by_keyword ss r before begun k j h
fallen ss r before ending k j h = good_not _ k h
fallen ss r before t k j h = no_statement ss r before t k j refl (λ v. refl) h
